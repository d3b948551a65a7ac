use Rattle.key_table.specs.Lazy.{IsLazyOf}
use Rattle.timed.specs.TableArena.{has_row, key_of}
use Rattle.timed.proofs.table.both_rounds.fill.Given as goal

abbrev pub invariant-loop-row : goal.invariant-loop-row
invariant-loop-row l = IsLazyOf (has_row l.arena) (key_of l.arena) l.index
