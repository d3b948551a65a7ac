use Rattle.text_lemmas.proofs.Written.{Writes-then, Writes-stop, Writes-exit}
use Rattle.text_out.proofs.writer.Writer.put_numbered.Goals as goal

pub returns-in_err-put_number : goal.returns-in_err-put_number
returns-in_err-put_number g c =
    let number = rw c.from.ensures at c.in_err-put_number.ensures in
    Writes-exit _ c.from_residual.ensures.1 (Writes-stop c.args.text.now number)

pub returns : goal.returns
returns g c =
    let number = rw c.from.ensures at c.in_ok-put_number.ensures in
    Writes-then number c.put.ensures
