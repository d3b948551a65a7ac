use Rattle.key_index.specs.Index.{IsIndexOf}
use Rattle.part_examples.proofs.tests.put_all.Given as goal

abbrev pub invariant-loop-row : goal.invariant-loop-row
invariant-loop-row g l = IsIndexOf (g.K.Keys.has_row l.keys) (g.K.Keys.key_of l.keys) l.index
