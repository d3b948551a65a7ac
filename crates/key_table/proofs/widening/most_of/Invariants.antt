use Rattle.std.proofs.Common.{◌-◌, ◌≤◌}
use Rattle.key_table.proofs.widening.most_of.Given as goal

abbrev pub invariant-loop-most : goal.invariant-loop-most
invariant-loop-most l = 1023 ≤ l.most

abbrev pub decreases-loop-most : goal.decreases-loop-most
decreases-loop-most l = 4294967295 - l.most
