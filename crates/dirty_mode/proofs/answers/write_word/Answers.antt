use Rattle.text_lemmas.proofs.Written.{Writes-then}
use Rattle.dirty_mode.proofs.answers.write_word.Goals as goal

pub returns : goal.returns
returns g c = Writes-then c.in_ok-begin_line.ensures c.put_numbered.ensures
