-- The entries so far were added.
use Rattle.std.proofs.Common.{◌∷◌, take}
use Rattle.std.specs.List.{flat_map}
use Rattle.cache_model.specs.Report.{entry_text}
use Rattle.report_text.proofs.Outputs.{Added}
use Rattle.report_text.proofs.lines.put_entries.Given as goal

abbrev pub invariant-loop-entry : goal.invariant-loop-entry
invariant-loop-entry g l =
    Added l.fn.writer l.writer
    (flat_map (λ entry. 32 ∷ entry_text entry) (take l.entry-index l.entries))
