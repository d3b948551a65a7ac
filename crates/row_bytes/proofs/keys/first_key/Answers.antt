-- The body is cut behind the key.
use Rattle.row_bytes.proofs.KeyBodies.{first_cut}
use Rattle.row_bytes.proofs.keys.first_key.Goals as goal

pub returns-clause-first : goal.returns-clause-first
returns-clause-first c = first_cut c.args.body.now c.split_at.result.0.now c.split_at.result.1.now c.key_length-len.result c.in-len2-up.len_at_least c.key_length-len.ensures c.split_at.ensures.front c.split_at.ensures.back
