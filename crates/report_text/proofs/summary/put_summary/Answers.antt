use Rattle.std.proofs.lemmas.Result.{IfOk-from_err}
use Rattle.text_lemmas.proofs.Written.{Writes-then, Writes-stop, Writes-exit}
use Rattle.report_text.proofs.summary.put_summary.Goals as goal

pub returns-in_err-put_counts : goal.returns-in_err-put_counts
returns-in_err-put_counts g c = record {
  wrote = λ answers logged. Writes-exit _ c.from_residual.ensures.1 (Writes-stop _ (Writes-stop _ (c.in_err-put_counts.ensures answers logged)));
  empty = IfOk-from_err _ _ c.from_residual.ensures.0;
}

pub returns-in_err-put_evictions : goal.returns-in_err-put_evictions
returns-in_err-put_evictions g c = record {
  wrote = λ answers logged.
      Writes-exit _ c.from_residual-in_err-put_evictions.ensures.1 (Writes-stop _ (Writes-then (c.in_ok-put_counts.ensures answers logged) c.in_err-put_evictions.ensures));
  empty = IfOk-from_err _ _ c.from_residual-in_err-put_evictions.ensures.0;
}

pub returns : goal.returns
returns g c = record {
  wrote = λ answers logged. Writes-then (Writes-then (c.in_ok-put_counts.ensures answers logged) c.in_ok-put_evictions.ensures) c.finish.ensures.wrote;
  empty = c.finish.ensures.empty;
}
