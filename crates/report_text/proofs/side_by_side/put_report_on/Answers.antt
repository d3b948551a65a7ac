use Rattle.std.proofs.lemmas.Result.{IfOk-from_err}
use Rattle.text_lemmas.proofs.Written.{Writes-then, Writes-stop, Writes-exit}
use Rattle.report_text.proofs.side_by_side.put_report_on.Goals as goal

pub returns-in_err-put_answers_on : goal.returns-in_err-put_answers_on
returns-in_err-put_answers_on g c = record {
  wrote = λ answers logged. Writes-exit _ c.from_residual.ensures.1 (Writes-stop _ (Writes-stop _ (c.in_err-put_answers_on.ensures answers logged)));
  empty = IfOk-from_err _ _ c.from_residual.ensures.0;
}

pub returns-in_err-put_journals_on : goal.returns-in_err-put_journals_on
returns-in_err-put_journals_on g c = record {
  wrote = λ answers logged.
      Writes-exit _ c.from_residual-in_err-put_journals_on.ensures.1 (Writes-stop _ (Writes-then (c.in_ok-put_answers_on.ensures answers logged) c.in_err-put_journals_on.ensures));
  empty = IfOk-from_err _ _ c.from_residual-in_err-put_journals_on.ensures.0;
}

pub returns : goal.returns
returns g c = record {
  wrote = λ answers logged. Writes-then (Writes-then (c.in_ok-put_answers_on.ensures answers logged) c.in_ok-put_journals_on.ensures) c.finish.ensures.wrote;
  empty = c.finish.ensures.empty;
}
