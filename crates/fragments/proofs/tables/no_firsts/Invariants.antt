use Rattle.std.proofs.Common.{◌≡◌, replicate, None}
use Rattle.fragments.proofs.tables.no_firsts.Given as goal

abbrev pub invariant-loop-entry : goal.invariant-loop-entry
invariant-loop-entry l = l.firsts.items ≡ replicate l._entry None
