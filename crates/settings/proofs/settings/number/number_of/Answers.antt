-- The number that was parsed.
use Rattle.std.proofs.Common.{◌∙◌, sym}
use Rattle.settings.proofs.Numbers.{parsed}
use Rattle.settings.proofs.settings.number.number_of.Goals as goal

pub returns-then-is_number : goal.returns-then-is_number
returns-then-is_number c =
    c.ok.ensures.value ∙ parsed c.args.text.now _ c.parse.ensures.value.0 (sym c.is_number.ensures ∙ c.if-is_number.true)
