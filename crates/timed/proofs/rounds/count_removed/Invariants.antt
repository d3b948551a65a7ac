use Rattle.key_index.specs.Index.{IsIndexOf}
use Rattle.timed.proofs.rounds.count_removed.Given as goal

abbrev pub invariant-loop-at : goal.invariant-loop-at
invariant-loop-at g l = IsIndexOf (g.A.Keys.has_row l.arena) (g.A.Keys.key_of l.arena) l.index
