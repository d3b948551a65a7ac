-- A line that is not passed over adds its command.
use Rattle.std.proofs.Common.{◌≡◌, ◌<◌, false, length, arith, inr, sym, ◌∙◌}
use Rattle.std.proofs.lemmas.Bool.Decides.{nat_tests}
use Rattle.trace_text.specs.Line.{is_passed}
use Rattle.trace_text.specs.Reading.{most_commands}
use Rattle.value_script.proofs.reading.add_line.Goals as goal

pub returns-in_ok-push-in-Ok-clause-added : goal.returns-in_ok-push-in-Ok-clause-added
returns-in_ok-push-in-Ok-clause-added c =
    let kept : is_passed c.args.text.now ≡ false = sym c.is_passed.ensures ∙ c.if-is_passed.false in
    let few : length c.args.commands.now.items < most_commands = grind (arith, nat_tests) in
    inr (kept, c.in-Ok.command, c.in_ok-push-in-Ok.ensures.items, c.in-Ok.ensures.found (length c.args.commands.now.items) c.args.line few)
