use Rattle.std.specs.Prelude.{codes}
use Rattle.index_mode.proofs.CommandLists.{keys_line}
use Rattle.index_mode.proofs.Keys.{key_text}
use Rattle.text_lemmas.proofs.Written.{Writes-then, Writes-same, Writes-stop, Writes-exit}
use Rattle.index_mode.proofs.scans.write_scan.Goals as goal

pub returns-in_err-put_numbered : goal.returns-in_err-put_numbered
returns-in_err-put_numbered g c = λ keys are.
    Writes-exit _ c.from_residual.ensures.1
    (Writes-same (keys_line c.args.number keys) (Writes-stop (codes "\n") (Writes-stop (key_text keys) c.in_err-put_numbered.ensures)))

pub returns-in_err-write_each : goal.returns-in_err-write_each
returns-in_err-write_each g c = λ keys are.
    Writes-exit _ c.from_residual-in_err-write_each.ensures.1
    (Writes-same (keys_line c.args.number keys) (Writes-stop (codes "\n") (Writes-then c.in_ok-put_numbered.ensures (c.in_err-write_each.ensures keys are))))

pub returns : goal.returns
returns g c = λ keys are.
    Writes-same (keys_line c.args.number keys) (Writes-then (Writes-then c.in_ok-put_numbered.ensures (c.in_ok-write_each.ensures keys are)) c.put.ensures)
