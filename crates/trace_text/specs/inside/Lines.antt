-- Lines of a trace on their way to commands. A stretch of lines is cut, and then each of them is read or refused.
use Rattle.std.specs.Prelude.{◌≡◌, ◌⊎◌, ℕ, ◌+◌, ◌<◌, ◌≤◌, Bool, true, false, List, [], ◌∷◌, ◌++◌, length, flat_map, slice_index_or, Option, Some, None, Ok, IsTrue}
use Rattle.std.specs.List.{list_all}
use Rattle.trace_text.specs.declared.command.Command.{Command}
use Rattle.trace_text.specs.declared.cutting.Line.{Line}
use Rattle.trace_text.specs.declared.cutting.Line.TheVariants.{Cut, Read, Refused}
use Rattle.trace_text.specs.declared.cutting.Place.{Place}
use Rattle.trace_text.specs.Line.{is_passed}
use Rattle.trace_text.specs.Operation.{operation, part}
use Rattle.trace_text.specs.Parsed.{LiesWithin}
use Rattle.trace_text.specs.Reading.{line_reading, most_commands}
use Rattle.trace_text.specs.inside.Plain.{IsPlain}

-- the number and the text of the line at a place
abbrev pub line_at : List ℕ → Place → ℕ × List ℕ
line_at bytes place = (place.line, part bytes place.text)

pub record IsPlace (bytes : List ℕ) (place : Place) : Type 0 where
  pub within : place.text.start + place.text.len ≤ length bytes
  pub plain : IsTrue place.sound → IsPlain (part bytes place.text)
  pub number : place.number ≤ most_commands

-- the place of a line that stands at this offset
pub record IsPlaceOf (text : List ℕ) (start number line : ℕ) (place : Place) : Type 0 where
  pub number_is : place.number ≡ number
  pub line_is : place.line ≡ line
  pub start_is : place.text.start ≡ start
  pub len_is : place.text.len ≡ length text
  pub plain : IsTrue place.sound → IsPlain text

-- a line that is cut stands behind the stretch, before which there are so many commands; or it is passed over
abbrev pub AddsPlace : List ℕ → ℕ → ℕ → ℕ → List Line → List Line → Type 0
AddsPlace text start commands line before after =
    ((is_passed text ≡ true) × (after ≡ before))
    ⊎ ((is_passed text ≡ false) × (place : Place) × (after ≡ before ++ Cut place ∷ [])
    × IsPlaceOf text start (commands + length before + 1) line place)

-- a line that is not read
abbrev pub IsCut : List ℕ → Line → Type 0
IsCut bytes (Cut place) = IsPlace bytes place
IsCut bytes (Read command) = ⊥
IsCut bytes Refused = ⊥

-- the line at the place, in a trace of this version, is that command
abbrev pub IsReadAs : ℕ → List ℕ → Place → Command → Type 0
IsReadAs version bytes place command =
    (line_reading version (place.number, line_at bytes place) ≡ Ok (operation bytes command)) × LiesWithin bytes command
    × (command.line ≡ place.line)

-- what the line at a place was read to be; where it is refused nothing is said
abbrev pub IsReadTo : ℕ → List ℕ → Place → Line → Type 0
IsReadTo version bytes place (Read command) = IsReadAs version bytes place command
IsReadTo version bytes place (Cut other) = Unit {0}
IsReadTo version bytes place Refused = Unit {0}

-- what a line that was cut was read to be
abbrev pub IsRead : ℕ → List ℕ → Line → Line → Type 0
IsRead version bytes (Cut place) line = IsReadTo version bytes place line
IsRead version bytes (Read command) line = Unit {0}
IsRead version bytes Refused line = Unit {0}

-- and so each
abbrev pub AreRead : ℕ → List ℕ → List Line → List Line → Type 0
AreRead version bytes stretch read = (k : ℕ) (d : Line) → k < length stretch
    → IsRead version bytes (slice_index_or stretch k d) (slice_index_or read k d)

abbrev pub command_in : Line → Option Command
command_in (Cut place) = None
command_in (Read command) = Some command
command_in Refused = None

abbrev pub is_some : Option Command → Bool
is_some None = false
is_some (Some command) = true

abbrev pub some_in : Option Command → List Command
some_in None = []
some_in (Some command) = command ∷ []

abbrev pub is_read : Line → Bool
is_read line = is_some (command_in line)

-- the commands that lines are
abbrev pub commands_in : List Line → List Command
commands_in lines = flat_map (λ line. some_in (command_in line)) lines

-- all these lines are commands, which stand behind the others
pub record AddsCommands (before : List Command) (lines : List Line) (after : List Command) : Type 0 where
  pub all : list_all is_read lines ≡ true
  pub behind : after ≡ before ++ commands_in lines

-- a stretch was read, all of it, and its commands stand behind the others
pub record AddsRead (version : ℕ) (bytes : List ℕ) (before : List Command) (stretch : List Line) (after : List Command) : Type 0 where
  pub read : List Line
  pub many : length read ≡ length stretch
  pub are : AreRead version bytes stretch read
  pub adds : AddsCommands before read after

-- a stretch that has not its length yet is left as it is, and another one is read and taken away
abbrev pub Settles : ℕ → List ℕ → List Command → List Line → List Command → List Line → Type 0
Settles version bytes before stretch after left =
    ((after ≡ before) × (left ≡ stretch)) ⊎ (AddsRead version bytes before stretch after × (left ≡ []))
