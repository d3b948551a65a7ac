use Rattle.text_lemmas.proofs.Written.{Writes-then, Writes-stop, Writes-exit}
use Rattle.report_text.proofs.lines.put_journal.Goals as goal

pub returns-in_err-put_field : goal.returns-in_err-put_field
returns-in_err-put_field g c = Writes-exit _ c.from_residual.ensures.1 (Writes-stop _ (Writes-stop _ c.in_err-put_field.ensures))

pub returns-in_err-put_entries : goal.returns-in_err-put_entries
returns-in_err-put_entries g c =
    let entries = rw c.entries.ensures.value at c.in_err-put_entries.ensures in
    Writes-exit _ c.from_residual-in_err-put_entries.ensures.1 (Writes-stop _ (Writes-then c.in_ok-put_field.ensures entries))

pub returns : goal.returns
returns g c =
    let entries = rw c.entries.ensures.value at c.in_ok-put_entries.ensures in
    Writes-then (Writes-then c.in_ok-put_field.ensures entries) c.end_line.ensures
