use Rattle.std.specs.Prelude.{codes, decimal}
use Rattle.fragments.specs.Store.{values_of}
use Rattle.fragments.specs.Values.{live}
use Rattle.text_lemmas.proofs.Written.{Writes-then, Writes-stop, Writes-exit}
use Rattle.values_mode.proofs.answers.put_last.Goals as goal

pub returns-in_err-put_field : goal.returns-in_err-put_field
returns-in_err-put_field g c =
    let many = rw (c.from.ensures, c.count_values.ensures) at c.in_err-put_field.ensures in
    Writes-exit _ c.from_residual.ensures.1
    (Writes-stop (codes "\n") (Writes-stop (decimal (live (values_of c.args.store.now))) (Writes-stop (codes " live ") many)))

pub returns-in_err-put : goal.returns-in_err-put
returns-in_err-put g c =
    let many = rw (c.from.ensures, c.count_values.ensures) at c.in_ok-put_field.ensures in
    Writes-exit _ c.from_residual-in_err-put.ensures.1
    (Writes-stop (codes "\n") (Writes-stop (decimal (live (values_of c.args.store.now))) (Writes-then many c.in_err-put.ensures)))

pub returns-in_err-put_number : goal.returns-in_err-put_number
returns-in_err-put_number g c =
    let many = rw (c.from.ensures, c.count_values.ensures) at c.in_ok-put_field.ensures in
    let bytes = rw c.live.ensures.values at c.in_err-put_number.ensures in
    Writes-exit _ c.from_residual-in_err-put_number.ensures.1 (Writes-stop (codes "\n") (Writes-then (Writes-then many c.in_ok-put.ensures) bytes))

pub returns : goal.returns
returns g c =
    let many = rw (c.from.ensures, c.count_values.ensures) at c.in_ok-put_field.ensures in
    let bytes = rw c.live.ensures.values at c.in_ok-put_number.ensures in
    Writes-then (Writes-then (Writes-then many c.in_ok-put.ensures) bytes) c.end_line.ensures
