use Rattle.key_index.specs.Index.{IsIndexOf}
use Rattle.timed.proofs.rounds.fill.Given as goal

abbrev pub invariant-loop-row : goal.invariant-loop-row
invariant-loop-row g l = IsIndexOf (g.A.Keys.has_row l.arena) (g.A.Keys.key_of l.arena) l.index
