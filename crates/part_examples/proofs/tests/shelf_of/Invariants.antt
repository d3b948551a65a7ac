use Rattle.std.proofs.Common.{◌≡◌, length}
use Rattle.part_examples.proofs.tests.shelf_of.Given as goal

abbrev pub invariant-loop-row : goal.invariant-loop-row
invariant-loop-row l = length l.keys.items ≡ l.row
