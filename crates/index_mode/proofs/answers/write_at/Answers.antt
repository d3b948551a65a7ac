use Rattle.std.specs.Prelude.{◌++◌, decimal, codes}
use Rattle.index_mode.proofs.CommandLists.{at_line}
use Rattle.text_lemmas.proofs.Written.{Writes-then, Writes-same, Writes-stop, Writes-exit}
use Rattle.index_mode.proofs.answers.write_at.Goals as goal

pub returns-in_err-put_numbered : goal.returns-in_err-put_numbered
returns-in_err-put_numbered g c =
    Writes-exit _ c.from_residual.ensures.1
    (Writes-same (at_line c.args.number c.args.at) (Writes-stop (decimal c.args.at ++ codes "\n") c.in_err-put_numbered.ensures))

pub returns : goal.returns
returns g c = Writes-same (at_line c.args.number c.args.at) (Writes-then c.in_ok-put_numbered.ensures c.put_numbered-2.ensures)
