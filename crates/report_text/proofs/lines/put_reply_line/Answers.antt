use Rattle.std.proofs.Common.{subst}
use Rattle.text_lemmas.specs.Writing.{Writes}
use Rattle.text_lemmas.proofs.Written.{Writes-then, Writes-stop, Writes-exit}
use Rattle.report_text.proofs.LineTexts.{reply_line_is}
use Rattle.report_text.proofs.lines.put_reply_line.Goals as goal

pub returns-in_err-put_number : goal.returns-in_err-put_number
returns-in_err-put_number g c = λ reply spells.
    let number = rw c.from.ensures at c.in_err-put_number.ensures in
    Writes-exit _ c.from_residual.ensures.1 (subst (Writes _ _ _) (reply_line_is c.args.number reply) (Writes-stop _ (Writes-stop _ (Writes-stop _ number))))

pub returns-in_err-put : goal.returns-in_err-put
returns-in_err-put g c = λ reply spells.
    let number = rw c.from.ensures at c.in_ok-put_number.ensures in
    Writes-exit _ c.from_residual-in_err-put.ensures.1 (subst (Writes _ _ _) (reply_line_is c.args.number reply) (Writes-stop _ (Writes-stop _ (Writes-then number c.in_err-put.ensures))))

pub returns-in_err-put_reply : goal.returns-in_err-put_reply
returns-in_err-put_reply g c = λ reply spells.
    let number = rw c.from.ensures at c.in_ok-put_number.ensures in
    Writes-exit _ c.from_residual-in_err-put_reply.ensures.1
    (subst (Writes _ _ _) (reply_line_is c.args.number reply) (Writes-stop _ (Writes-then (Writes-then number c.in_ok-put.ensures) (c.in_err-put_reply.ensures reply spells))))

pub returns : goal.returns
returns g c = λ reply spells.
    let number = rw c.from.ensures at c.in_ok-put_number.ensures in
    subst (Writes _ _ _) (reply_line_is c.args.number reply) (Writes-then (Writes-then (Writes-then number c.in_ok-put.ensures) (c.in_ok-put_reply.ensures reply spells)) c.end_line.ensures)
