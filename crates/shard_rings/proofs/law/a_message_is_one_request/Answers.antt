use Rattle.shard_rings.proofs.Requests.{same_operation}
use Rattle.shard_rings.proofs.law.a_message_is_one_request.Goals as goal

pub returns : goal.returns
returns c bytes operation other p q = same_operation bytes operation other p q
