use Rattle.std.proofs.Common.{ℕ, List, ap}
use Rattle.std.specs.List.{concat}
use Rattle.text_lemmas.proofs.Written.{Writes-same}
use Rattle.values_mode.specs.Text.{answer_line, read}
use Rattle.values_mode.proofs.Lines.{found_is}
use Rattle.values_mode.proofs.answers.answer_read.Goals as goal

pub returns : goal.returns
returns g c =
    Writes-same (ap (λ v. answer_line c.args.number (read c.args.at c.args.count v)) (found_is (λ (pieces : List (List ℕ)). concat pieces) c.get.result _ c.get.ensures)) c.put_read.ensures
