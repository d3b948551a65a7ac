use Rattle.key_table.specs.Lazy.{IsLazyOf}
use Rattle.timed.specs.TableArena.{has_row, key_of}
use Rattle.timed.proofs.table.both_rounds.count_removed.Given as goal

abbrev pub invariant-loop-at : goal.invariant-loop-at
invariant-loop-at l = IsLazyOf (has_row l.arena) (key_of l.arena) l.index
