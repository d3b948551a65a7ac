-- The number is the line's.
use Rattle.std.proofs.Common.{ℕ, ◌++◌, codes, decimal, ap}
use Rattle.text_lemmas.proofs.Written.{Writes-exit, Writes-same, Writes-stop, Writes-then}
use Rattle.report_check.proofs.verdict.put_illegal.Goals as goal

pub returns-in_err-put_field : goal.returns-in_err-put_field
returns-in_err-put_field g c =
    let same = ap (λ (n : ℕ). codes "illegal line " ++ decimal n) c.from.ensures in
    Writes-exit _ c.from_residual.ensures.1 (Writes-stop _ (Writes-same same c.in_err-put_field.ensures))

pub returns : goal.returns
returns g c =
    let same = ap (λ (n : ℕ). codes "illegal line " ++ decimal n) c.from.ensures in
    Writes-then (Writes-same same c.in_ok-put_field.ensures) c.end_line.ensures
