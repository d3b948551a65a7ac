use Rattle.text_lemmas.proofs.Written.{Writes-then, Writes-stop, Writes-exit}
use Rattle.text_out.proofs.writer.Writer.put_word.Goals as goal

pub returns-in_err-put : goal.returns-in_err-put
returns-in_err-put g c = Writes-exit _ c.from_residual.ensures.1 (Writes-stop c.args.text.now c.in_err-put.ensures)

pub returns : goal.returns
returns g c = Writes-then c.in_ok-put.ensures c.put-2.ensures
