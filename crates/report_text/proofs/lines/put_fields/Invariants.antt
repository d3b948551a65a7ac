-- The fields so far were added.
use Rattle.std.proofs.Common.{take}
use Rattle.std.specs.List.{flat_map}
use Rattle.report_text.proofs.Outputs.{Added}
use Rattle.report_text.proofs.LineTexts.{field_piece}
use Rattle.report_text.proofs.lines.put_fields.Given as goal

abbrev pub invariant-loop-name : goal.invariant-loop-name
invariant-loop-name g l =
    Added l.fn.writer l.writer
    (flat_map field_piece (take l.name-index l.fields))
