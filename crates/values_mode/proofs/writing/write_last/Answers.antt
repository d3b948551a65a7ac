use Rattle.std.proofs.lemmas.Result.{IfOk-from_err}
use Rattle.text_lemmas.proofs.Written.{Writes-exit, Writes-last}
use Rattle.values_mode.proofs.writing.write_last.Goals as goal

pub returns-in_err-put_last : goal.returns-in_err-put_last
returns-in_err-put_last g c = record {
  written = Writes-exit _ c.from_residual.ensures.1 c.in_err-put_last.ensures;
  empty = IfOk-from_err _ _ c.from_residual.ensures.0;
}

pub returns : goal.returns
returns g c = record { written = Writes-last c.in_ok-put_last.ensures c.flush.ensures.wrote; empty = c.flush.ensures.empty }
