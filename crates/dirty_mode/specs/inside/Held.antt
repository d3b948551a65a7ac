-- A queue between the steps of the mode.
use Rattle.std.specs.Prelude.{List}
use Rattle.rows.specs.Row.{Row}
use Rattle.dirty_region.specs.Queues.{Queue}

-- no byte of a line is out
abbrev pub whole : List Row → Queue
whole puts = record { puts = puts; out = 0 }
