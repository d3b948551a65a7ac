-- The last row of a list that has one.
use Rattle.std.proofs.Common.{refl}
use Rattle.plain_cache.proofs.RowLists.{last-of}
use Rattle.plain_cache.proofs.plain.is_last.Goals as goal

pub returns-in-len1-up : goal.returns-in-len1-up
returns-in-len1-up c = rw (last-of c.args.rows.now c.last-item.result c.in-len1-up.len_at_least c.last-item.is) refl
