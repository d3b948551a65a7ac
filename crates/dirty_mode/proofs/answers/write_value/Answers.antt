use Rattle.text_lemmas.proofs.Written.{Writes-then}
use Rattle.dirty_mode.proofs.answers.write_value.Goals as goal

pub returns : goal.returns
returns g c = Writes-then c.in_ok-put.ensures c.end_line.ensures
