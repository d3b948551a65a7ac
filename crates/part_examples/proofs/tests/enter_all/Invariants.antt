use Rattle.key_table.specs.Lazy.{IsLazyOf}
use Rattle.part_examples.proofs.tests.enter_all.Given as goal

abbrev pub invariant-loop-row : goal.invariant-loop-row
invariant-loop-row g l = IsLazyOf (g.K.Keys.has_row l.keys) (g.K.Keys.key_of l.keys) l.index
