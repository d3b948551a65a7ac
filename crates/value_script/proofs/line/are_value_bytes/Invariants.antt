-- The bytes so far are of the class.
use Rattle.std.proofs.Common.{◌≡◌, take}
use Rattle.std.specs.List.{list_all}
use Rattle.trace_text.specs.Line.{is_value_byte}
use Rattle.value_script.proofs.line.are_value_bytes.Given as goal

abbrev pub invariant-loop-b : goal.invariant-loop-b
invariant-loop-b l = l.are ≡ list_all is_value_byte (take l.b-index l.value)
