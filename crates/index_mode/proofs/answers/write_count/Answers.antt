use Rattle.text_lemmas.proofs.Written.{Writes-then, Writes-stop, Writes-exit}
use Rattle.index_mode.proofs.answers.write_count.Goals as goal

pub returns-in_err-put : goal.returns-in_err-put
returns-in_err-put g c = Writes-exit _ c.from_residual.ensures.1 (Writes-stop _ c.in_err-put.ensures)

pub returns : goal.returns
returns g c = Writes-then c.in_ok-put.ensures c.put_numbered.ensures
