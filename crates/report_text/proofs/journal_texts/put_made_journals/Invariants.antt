-- The lines of the journals so far were added.
use Rattle.std.proofs.Common.{take}
use Rattle.std.specs.List.{flat_map, enumerate_from}
use Rattle.cache_model.specs.Report.{line, journal_text}
use Rattle.report_text.specs.Views.{journals_in}
use Rattle.report_text.proofs.Outputs.{Added}
use Rattle.report_text.proofs.journal_texts.put_made_journals.Given as goal

abbrev pub invariant-loop-shard : goal.invariant-loop-shard
invariant-loop-shard g l =
    Added l.fn.writer l.writer
    (flat_map (λ journal. line (journal_text journal)) (take l.shard (enumerate_from 0 (journals_in l.journals))))
