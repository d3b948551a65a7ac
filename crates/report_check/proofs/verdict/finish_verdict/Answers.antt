use Rattle.std.proofs.lemmas.Result.{IfOk-from_err}
use Rattle.text_lemmas.proofs.Written.{Writes-exit, Writes-last}
use Rattle.report_check.proofs.verdict.finish_verdict.Goals as goal

pub returns-in_err-put_verdict : goal.returns-in_err-put_verdict
returns-in_err-put_verdict g c = record {
  wrote = Writes-exit _ c.from_residual.ensures.1 c.in_err-put_verdict.ensures;
  empty = IfOk-from_err _ _ c.from_residual.ensures.0;
}

pub returns : goal.returns
returns g c = record {
  wrote = Writes-last c.in_ok-put_verdict.ensures c.flush.ensures.wrote;
  empty = c.flush.ensures.empty;
}
