use Rattle.std.proofs.Common.{subst}
use Rattle.text_lemmas.specs.Writing.{Writes}
use Rattle.report_text.proofs.Gathered.{texts}
use Rattle.text_lemmas.proofs.Written.{Writes-then, Writes-stop, Writes-exit}
use Rattle.report_text.proofs.LineTexts.{keys_line_is}
use Rattle.report_text.proofs.answers.put_keys_line.Goals as goal

pub returns-in_err-put_number : goal.returns-in_err-put_number
returns-in_err-put_number g c =
    let number = rw c.from.ensures at c.in_err-put_number.ensures in
    Writes-exit _ c.from_residual.ensures.1
    (subst (Writes _ _ _) (keys_line_is c.args.number (texts c.args.keys.now)) (Writes-stop _ (Writes-stop _ (Writes-stop _ number))))

pub returns-in_err-put : goal.returns-in_err-put
returns-in_err-put g c =
    let number = rw c.from.ensures at c.in_ok-put_number.ensures in
    Writes-exit _ c.from_residual-in_err-put.ensures.1
    (subst (Writes _ _ _) (keys_line_is c.args.number (texts c.args.keys.now)) (Writes-stop _ (Writes-stop _ (Writes-then number c.in_err-put.ensures))))

pub returns-in_err-put_words : goal.returns-in_err-put_words
returns-in_err-put_words g c =
    let number = rw c.from.ensures at c.in_ok-put_number.ensures in
    Writes-exit _ c.from_residual-in_err-put_words.ensures.1
    (subst (Writes _ _ _) (keys_line_is c.args.number (texts c.args.keys.now)) (Writes-stop _ (Writes-then (Writes-then number c.in_ok-put.ensures) c.in_err-put_words.ensures)))

pub returns : goal.returns
returns g c =
    let number = rw c.from.ensures at c.in_ok-put_number.ensures in
    subst (Writes _ _ _) (keys_line_is c.args.number (texts c.args.keys.now)) (Writes-then (Writes-then (Writes-then number c.in_ok-put.ensures) c.in_ok-put_words.ensures) c.end_line.ensures)
