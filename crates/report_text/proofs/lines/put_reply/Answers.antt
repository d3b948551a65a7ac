use Rattle.std.proofs.Common.{subst}
use Rattle.text_lemmas.specs.Writing.{Writes}
use Rattle.report_text.proofs.KeysOfReplies.{keys_in, keys_of}
use Rattle.text_lemmas.proofs.Written.{Writes-then, Writes-stop, Writes-exit}
use Rattle.report_text.proofs.LineTexts.{begins, keys_said, words_spelled}
use Rattle.report_text.proofs.lines.put_reply.Goals as goal

pub returns-in_err-put : goal.returns-in_err-put
returns-in_err-put g c = λ reply spells.
    let word = rw c.word.ensures at c.in_err-put.ensures in
    let later = begins c.args.kind c.args.body.now reply spells in
    Writes-exit _ c.from_residual.ensures.1 (subst (Writes _ _ _) later.1 (Writes-stop later.0 word))

pub returns-in-Keys : goal.returns-in-Keys
returns-in-Keys g c = λ reply spells.
    let word = rw c.word.ensures at c.in_ok-put.ensures in
    let are = keys_in c.args.kind c.args.body.now reply c.in-Keys.is spells in
    subst (Writes _ _ _) (keys_said c.args.kind c.args.body.now reply spells c.in-Keys.is) (Writes-then word (c.put_keys.ensures (keys_of reply) are))

pub returns-in_default : goal.returns-in_default
returns-in_default g c = λ reply spells.
    let word = rw c.word.ensures at c.in_ok-put.ensures in
    subst (Writes _ _ _) (words_spelled c.args.kind c.args.body.now reply spells c.in_default.not-Keys) (Writes-then word c.hand_over.ensures)
