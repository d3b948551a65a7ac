-- A field ends at the first space, or with the text.
use Rattle.std.proofs.Common.{ℕ, ◌+◌, List, ◌∷◌, take, Some, ap, sym, ◌∙◌}
use Rattle.std.proofs.lemmas.List.{take_rest}
use Rattle.report_check.specs.inside.Spells.{fields_of}
use Rattle.report_check.proofs.Cuts.{fields-none, fields-some}
use Rattle.report_check.proofs.journals.cut_field.Goals as goal

pub returns-in-None-clause-fields : goal.returns-in-None-clause-fields
returns-in-None-clause-fields c = fields-none c.args.text.now (sym c.position_of_space.ensures ∙ c.in-None.is)

pub returns-in-Some-clause-fields : goal.returns-in-Some-clause-fields
returns-in-Some-clause-fields c =
    fields-some c.args.text.now c.in-Some.at (sym c.position_of_space.ensures ∙ c.in-Some.is)
    ∙ ap (λ (behind : List ℕ). take c.in-Some.at c.args.text.now ∷ fields_of (Some behind)) (sym (take_rest c.args.text.now (c.in-Some.at + 1)))
