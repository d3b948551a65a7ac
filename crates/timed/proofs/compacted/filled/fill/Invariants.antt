use Rattle.std.proofs.Common.{◌≡◌}
use Rattle.timed.proofs.compacted.filled.fill.Given as goal

abbrev pub invariant-loop-row : goal.invariant-loop-row
invariant-loop-row l = l.cache.room ≡ l.rows
