use Rattle.std.proofs.Common.{◌++◌, ap}
use Rattle.std.specs.Prelude.{codes, decimal}
use Rattle.text_lemmas.proofs.Written.{Writes-same}
use Rattle.values_mode.specs.Text.{line}
use Rattle.values_mode.proofs.answers.answer_drop.Goals as goal

pub returns-clause-written : goal.returns-clause-written
returns-clause-written g c = Writes-same (ap (λ w. line (decimal c.args.number ++ codes " " ++ w)) c.drop_value.ensures.word) c.put_word.ensures
