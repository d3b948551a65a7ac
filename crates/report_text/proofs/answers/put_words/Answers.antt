use Rattle.std.proofs.Common.{arith, subst}
use Rattle.text_lemmas.specs.Writing.{Writes}
use Rattle.text_lemmas.proofs.Written.{Writes-exit}
use Rattle.report_text.proofs.Outputs.{Writes-next, Writes-broken, Writes-all}
use Rattle.report_text.proofs.LineTexts.{word_piece, words_are}
use Rattle.report_text.proofs.answers.put_words.Goals as goal

pub loop-word-preserved : goal.loop-word-preserved
loop-word-preserved g c = Writes-next word_piece c.args.words.now c.loop-word.word-index _ c.loop-word-test.true c.loop-word.invariant c.in_ok-put_word.ensures

pub returns-in_err-put_word : goal.returns-in_err-put_word
returns-in_err-put_word g c =
    Writes-exit _ c.from_residual.ensures.1
    (subst (Writes _ _ _) (words_are c.args.words.now) (Writes-broken word_piece c.args.words.now c.loop-word.word-index _ c.loop-word-test.true c.loop-word.invariant c.in_err-put_word.ensures))

pub returns : goal.returns
returns g c =
    subst (Writes _ _ _) (words_are c.args.words.now) (Writes-all word_piece c.args.words.now c.loop-word.word-index (omega (arith, c.loop-word-test.false)) c.loop-word.invariant)
