-- The line in the order in which it is written.
use Rattle.text_lemmas.proofs.Written.{Writes-then, Writes-stop, Writes-exit, Writes-same}
use Rattle.values_mode.proofs.Lines.{value_line}
use Rattle.values_mode.proofs.answers.put_value.Goals as goal

pub returns-in_err-put_numbered : goal.returns-in_err-put_numbered
returns-in_err-put_numbered g c =
    Writes-exit _ c.from_residual.ensures.1 (Writes-same (value_line c.args.number _ _) (Writes-stop _ (Writes-stop _ (Writes-stop _ (Writes-stop _ c.in_err-put_numbered.ensures)))))

pub returns-in_err-put_number : goal.returns-in_err-put_number
returns-in_err-put_number g c =
    let len = rw (c.from.ensures, c.bytes_left.ensures) at c.in_err-put_number.ensures in
    Writes-exit _ c.from_residual-in_err-put_number.ensures.1
    (Writes-same (value_line c.args.number _ _) (Writes-stop _ (Writes-stop _ (Writes-stop _ (Writes-then c.in_ok-put_numbered.ensures len)))))

pub returns-in_err-put : goal.returns-in_err-put
returns-in_err-put g c =
    let len = rw (c.from.ensures, c.bytes_left.ensures) at c.in_ok-put_number.ensures in
    Writes-exit _ c.from_residual-in_err-put.ensures.1
    (Writes-same (value_line c.args.number _ _) (Writes-stop _ (Writes-stop _ (Writes-then (Writes-then c.in_ok-put_numbered.ensures len) c.in_err-put.ensures))))

pub returns-in_err-put_part : goal.returns-in_err-put_part
returns-in_err-put_part g c =
    let len = rw (c.from.ensures, c.bytes_left.ensures) at c.in_ok-put_number.ensures in
    Writes-exit _ c.from_residual-in_err-put_part.ensures.1
    (Writes-same (value_line c.args.number _ _) (Writes-stop _ (Writes-then (Writes-then (Writes-then c.in_ok-put_numbered.ensures len) c.in_ok-put.ensures) c.in_err-put_part.ensures)))

pub returns : goal.returns
returns g c =
    let len = rw (c.from.ensures, c.bytes_left.ensures) at c.in_ok-put_number.ensures in
    Writes-same (value_line c.args.number _ _)
    (Writes-then (Writes-then (Writes-then (Writes-then c.in_ok-put_numbered.ensures len) c.in_ok-put.ensures) c.in_ok-put_part.ensures) c.end_line.ensures)
