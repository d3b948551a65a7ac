-- The words so far were added.
use Rattle.std.proofs.Common.{take}
use Rattle.std.specs.List.{flat_map}
use Rattle.report_text.proofs.Outputs.{Added}
use Rattle.report_text.proofs.LineTexts.{word_piece}
use Rattle.report_text.proofs.answers.put_words.Given as goal

abbrev pub invariant-loop-word : goal.invariant-loop-word
invariant-loop-word g l =
    Added l.fn.writer l.writer
    (flat_map word_piece (take l.word-index l.words))
