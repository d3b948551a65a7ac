use Rattle.std.proofs.Common.{◌≡◌, length}
use Rattle.rows_tests.proofs.key_index_tests.shelf_of.Given as goal

abbrev pub invariant-loop-row : goal.invariant-loop-row
invariant-loop-row l = length l.keys.items ≡ l.row
