-- The value lies in whatever bytes its line lies in.
use Rattle.std.proofs.Common.{◌≡◌, Ok}
use Rattle.value_script.specs.inside.Found.{IsRestOf}
use Rattle.value_script.specs.Line.{order_of}
use Rattle.value_script.specs.Order.{Set}
use Rattle.value_script.specs.Commands.{IsWellFormed}
use Rattle.value_script.proofs.Placed.{end_in, reads_as}
use Rattle.value_script.proofs.reading.command_at.Goals as goal

pub returns-in-Set-clause-found : goal.returns-in-Set-clause-found
returns-in-Set-clause-found c before line few bytes lies =
    let text = c.args.text.now in
    let name = c.in-Set.name in
    let value = c.in-Set.value.now in
    let end : IsRestOf text value × IsWellFormed (Set name value) = rw c.in-Set.is at c.in_ok-name.ensures.value in
    let asks : Ok (Set name value) ≡ order_of text = rw c.in-Set.is at c.in_ok-name.ensures.order in
    let placed = end_in bytes text value c.args.start lies end.0 in (
      rw placed.1 (reads_as before line text (Set name value) few asks),
      record { within = placed.0; well_formed = rw placed.1 end.1 },
    )
