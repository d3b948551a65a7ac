use Rattle.text_lemmas.proofs.Written.{Writes-then}
use Rattle.text_out.proofs.writer.Writer.put_field.Goals as goal

pub returns : goal.returns
returns g c = Writes-then c.in_ok-put.ensures c.put_number.ensures
