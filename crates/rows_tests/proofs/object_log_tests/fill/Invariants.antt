use Rattle.std.proofs.Common.{◌≡◌, ◌*◌, ◌⊎◌, length}
use Rattle.object_log.specs.Objects.{IsSegment}
use Rattle.rows_tests.proofs.object_log_tests.fill.Given as goal

abbrev pub invariant-loop-i : goal.invariant-loop-i
invariant-loop-i l = (length l.segment ≡ 131072) × (l.used ≡ 12296 * l.i) × ((l.used ≡ 0) ⊎ IsSegment l.segment l.used)
