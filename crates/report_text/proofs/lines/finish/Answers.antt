use Rattle.std.proofs.Common.{subst, append-nil}
use Rattle.std.proofs.lemmas.Result.{IfOk-from_err}
use Rattle.text_lemmas.specs.Writing.{Writes}
use Rattle.text_lemmas.proofs.Written.{Writes-then, Writes-exit}
use Rattle.report_text.proofs.lines.finish.Goals as goal

pub returns-in_err-put_shard_lines : goal.returns-in_err-put_shard_lines
returns-in_err-put_shard_lines g c = record {
  wrote = Writes-exit _ c.from_residual.ensures.1 c.in_err-put_shard_lines.ensures;
  empty = IfOk-from_err _ _ c.from_residual.ensures.0;
}

pub returns : goal.returns
returns g c = record {
  wrote = subst (Writes _ _ _) (append-nil _) (Writes-then c.in_ok-put_shard_lines.ensures c.flush.ensures.wrote);
  empty = c.flush.ensures.empty;
}
