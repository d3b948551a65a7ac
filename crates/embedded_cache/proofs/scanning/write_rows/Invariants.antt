use Rattle.std.proofs.Common.{ℕ, List, length}
use Rattle.rows.specs.KeyBody.{AreKeys}
use Rattle.embedded_cache.proofs.RowsWritten.{HasWritten}
use Rattle.embedded_cache.proofs.scanning.write_rows.Given as goal

abbrev pub invariant-writing : goal.invariant-writing
invariant-writing l = (keys : List (List ℕ)) → AreKeys l.body keys → HasWritten l.table keys l.store.rows l.rest l.did l.fn.into l.into

abbrev pub decreases-writing : goal.decreases-writing
decreases-writing l = length l.rest
