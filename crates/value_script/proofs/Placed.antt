-- Where the value of a line stands in the script.
use Rattle.std.proofs.Common.{◌≡◌, ℕ, ◌+◌, ◌-◌, ◌<◌, List, length, take, drop, Ok, All, arith, refl, sym, ◌∙◌}
use Rattle.std.proofs.lemmas.Bool.{lt-ltb}
use Rattle.std.proofs.lemmas.List.{drop-drop, drop-take, take-take, take_all}
use Rattle.std.proofs.lemmas.List.Elements.{All-map}
use Rattle.trace_text.specs.Reading.{most_commands}
use Rattle.value_script.specs.declared.command.Command.{Command}
use Rattle.value_script.specs.inside.Found.{LiesAt, IsRestOf}
use Rattle.value_script.specs.Line.{order_of}
use Rattle.value_script.specs.Order.{Order}
use Rattle.value_script.specs.Commands.{order, orders, IsWellFormed}
use Rattle.value_script.specs.Reading.{line_reading}
use Rattle.value_script.specs.Script.{IsSound}

-- what stands from a place to the end of a front, in the list
end_of_front : (xs : List ℕ) (n m : ℕ) → take m (drop n (take (n + m) xs)) ≡ take m (drop n xs)
end_of_front xs n m = rw (drop-take n m xs, take-take m m (drop n xs) (omega arith)) refl

-- an end of a line lies in whatever bytes the line lies in
pub end_in : (bytes text value : List ℕ) (start : ℕ) → LiesAt bytes start text → IsRestOf text value
    → LiesAt bytes (start + length text - length value) value
end_in bytes text value start lies is =
    let n : ℕ = length text - length value in
    let whole : n + length value ≡ length text = omega (arith, is.0) in
    let at : start + length text - length value ≡ start + n = omega (arith, is.0) in
    let here : take (length value) (drop n text) ≡ value = rw is.1 (take_all (length value) value (omega arith)) in
    let there : take (length value) (drop n (take (n + length value) (drop start bytes))) ≡ value = rw (whole, lies.1) here in
    (omega (arith, lies.0, is.0), rw (at, ← drop-drop n start bytes) (sym (end_of_front (drop start bytes) n (length value)) ∙ there))

-- a line that asks this, and is not one too many, is read to be its command
pub reads_as : (before line : ℕ) (text : List ℕ) (o : Order) → before < most_commands → Ok o ≡ order_of text → line_reading before line text ≡ Ok o
reads_as before line text o few e = rw (lt-ltb before most_commands few, ← e) refl

-- what is true of each command is true of what they ask
pub well_formed : (bytes : List ℕ) (commands : List Command) → All (IsSound bytes) commands → All IsWellFormed (orders bytes commands)
well_formed bytes commands sound = All-map IsWellFormed (order bytes) commands (λ k d within. (sound k d within).well_formed)
