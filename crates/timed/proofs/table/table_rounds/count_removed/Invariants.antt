use Rattle.key_table.specs.Table.{IsTableOf}
use Rattle.timed.specs.TableArena.{has_row, key_of}
use Rattle.timed.proofs.table.table_rounds.count_removed.Given as goal

abbrev pub invariant-loop-at : goal.invariant-loop-at
invariant-loop-at l = IsTableOf (has_row l.arena) (key_of l.arena) l.table
