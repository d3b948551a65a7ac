use Rattle.std.proofs.lemmas.Result.{IfOk-from_err}
use Rattle.text_lemmas.proofs.Written.{Writes-exit, Writes-last}
use Rattle.report_text.proofs.pieces.finish_stretch.Goals as goal

pub returns-in_err-put_stretch : goal.returns-in_err-put_stretch
returns-in_err-put_stretch g c = record {
  wrote = λ answers logged. Writes-exit _ c.from_residual.ensures.1 (c.in_err-put_stretch.ensures answers logged);
  empty = IfOk-from_err _ _ c.from_residual.ensures.0;
}

pub returns : goal.returns
returns g c = record {
  wrote = λ answers logged. Writes-last (c.in_ok-put_stretch.ensures answers logged) c.flush.ensures.wrote;
  empty = c.flush.ensures.empty;
}
