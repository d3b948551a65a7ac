-- What the reader of a line found, with the offset of its value.
use Rattle.std.specs.Prelude.{◌≡◌, ◌⊎◌, ℕ, ◌+◌, ◌-◌, ◌≤◌, List, [], ◌∷◌, ◌++◌, length, take, drop, Result, Ok, Err, true, false}
use Rattle.value_script.specs.declared.command.Command.{Command}
use Rattle.value_script.specs.declared.refusal.ScriptRefusal.{ScriptRefusal}
use Rattle.value_script.specs.declared.refusal.ScriptRefusal.TheVariants as refusals
use Rattle.trace_text.specs.Line.{is_passed}
use Rattle.value_script.specs.declared.line.Found.{Found}
use Rattle.value_script.specs.declared.line.Found.TheVariants as found
use Rattle.value_script.specs.declared.refusal.Cause.{Cause}
use Rattle.value_script.specs.Order.{Order, Set, Read, Drop}
use Rattle.value_script.specs.Commands.{order, IsWellFormed}
use Rattle.value_script.specs.Reading.{AtLine, line_reading}
use Rattle.value_script.specs.Script.{IsSound}

-- the field stands at this offset of the line
abbrev pub LiesAt : List ℕ → ℕ → List ℕ → Type 0
LiesAt line at field = (at + length field ≤ length line) × (take (length field) (drop at line) ≡ field)

-- the rest is an end of the text
abbrev pub IsRestOf : List ℕ → List ℕ → Type 0
IsRestOf text rest = (length rest ≤ length text) × (drop (length text - length rest) text ≡ rest)

-- what a line was found to ask
abbrev pub order_in : Found → Order
order_in (found.Set name value) = Set name value.now
order_in (found.Read name at count) = Read name at count
order_in (found.Drop name) = Drop name

abbrev pub reading_of : Result Found Cause → Result Order Cause
reading_of (Ok f) = Ok (order_in f)
reading_of (Err cause) = Err cause

-- a value is an end of the line, and what is asked keeps the limits
abbrev pub IsEndIn : List ℕ → Found → Type 0
IsEndIn line (found.Set name value) = IsRestOf line value.now
IsEndIn line (found.Read name at count) = Unit {0}
IsEndIn line (found.Drop name) = Unit {0}

abbrev pub EndsIn : List ℕ → Found → Type 0
EndsIn line f = IsEndIn line f × IsWellFormed (order_in f)

-- a line's command, behind so many, in whatever bytes the line stands at this offset
abbrev pub IsCommandAt : List ℕ → ℕ → ℕ → ℕ → Command → Type 0
IsCommandAt text start before line command = (bytes : List ℕ) → LiesAt bytes start text
    → (line_reading before line text ≡ Ok (order bytes command)) × IsSound bytes command

-- a line adds its command, or is passed over
abbrev pub AddsLine : List ℕ → ℕ → ℕ → List Command → List Command → Type 0
AddsLine text start line before after =
    ((is_passed text ≡ true) × (after ≡ before))
    ⊎ ((is_passed text ≡ false) × (command : Command) × (after ≡ before ++ command ∷ []) × IsCommandAt text start (length before) line command)

-- a line behind so many commands is refused; want of memory says nothing of it
abbrev pub RefusesLine : ScriptRefusal → List ℕ → ℕ → ℕ → Type 0
RefusesLine (refusals.Script at cause) text before line =
    (at ≡ line) × (is_passed text ≡ false) × (line_reading before line text ≡ Err (AtLine line cause))
RefusesLine refusals.Memory text before line = Unit {0}
