use Rattle.std.proofs.Common.{sym, append_assoc}
use Rattle.std.specs.Prelude.{◌++◌, decimal, codes}
use Rattle.text_lemmas.proofs.Written.{Writes-then, Writes-same, Writes-stop, Writes-exit}
use Rattle.dirty_mode.proofs.answers.write_found.Goals as goal

pub returns-in_err-write_word : goal.returns-in_err-write_word
returns-in_err-write_word g c =
    Writes-exit _ c.from_residual-in_err-write_word.ensures.1 (Writes-then c.in_ok-begin_line.ensures (Writes-stop _ (Writes-stop _ c.in_err-write_word.ensures)))

pub returns : goal.returns
returns g c =
    Writes-same (sym (append_assoc (decimal c.args.number ++ codes " dirty ") c.args.value.now (codes "\n")))
    (Writes-then c.in_ok-begin_line.ensures (Writes-then c.in_ok-write_word.ensures c.write_value.ensures))
