use Rattle.std.specs.Prelude.{codes}
use Rattle.text_lemmas.proofs.Written.{Writes-then, Writes-stop, Writes-exit}
use Rattle.values_mode.proofs.answers.put_word.Goals as goal

pub returns-in_err-put_numbered : goal.returns-in_err-put_numbered
returns-in_err-put_numbered g c =
    Writes-exit _ c.from_residual.ensures.1 (Writes-stop (codes "\n") (Writes-stop c.args.word.now c.in_err-put_numbered.ensures))

pub returns-in_err-put : goal.returns-in_err-put
returns-in_err-put g c =
    Writes-exit _ c.from_residual-in_err-put.ensures.1 (Writes-stop (codes "\n") (Writes-then c.in_ok-put_numbered.ensures c.in_err-put.ensures))

pub returns : goal.returns
returns g c = Writes-then (Writes-then c.in_ok-put_numbered.ensures c.in_ok-put.ensures) c.end_line.ensures
