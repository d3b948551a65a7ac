use Rattle.text_lemmas.proofs.Written.{Writes-then}
use Rattle.report_text.proofs.lines.put_field_line.Goals as goal

pub returns : goal.returns
returns g c = Writes-then c.in_ok-put_fields.ensures c.end_line.ensures
