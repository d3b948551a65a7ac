use Rattle.shard_rings.proofs.Unique.{same_reply}
use Rattle.shard_rings.proofs.law.a_message_is_one_reply.Goals as goal

pub returns-clause-reply : goal.returns-clause-reply
returns-clause-reply c bytes i j reply other p q = same_reply bytes i j reply other p q
