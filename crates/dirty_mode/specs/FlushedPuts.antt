-- Which puts the lines of a trace flush, and which it asks.
use Rattle.std.specs.Prelude.{List, map, filter, filter_map, Option, None, Some}
use Rattle.rows.specs.Operation.{is_put}
use Rattle.trace_text.specs.Trace.{Trace}
use Rattle.rows.specs.Row.{Row}
use Rattle.dirty_mode.specs.DirtyText.{Line, Flushed, Unflushed, Clean, Passed, row_of}

abbrev pub put_in : Line → Option Row
put_in (Flushed put) = Some put
put_in (Unflushed number value) = None
put_in (Clean number) = None
put_in (Passed number) = None

-- the puts that are flushed, in order, and those that a trace asks
abbrev pub flushed : List Line → List Row
flushed lines = filter_map put_in lines

abbrev pub puts : Trace → List Row
puts trace = map row_of (filter (λ operation. is_put operation.kind) trace.operations)
