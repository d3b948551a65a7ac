-- What the reader of a line found, with the offsets of its fields.
use Rattle.std.specs.Prelude.{◌≡◌, ◌⊎◌, ℕ, ◌+◌, ◌-◌, ◌*◌, ◌<◌, ◌≤◌, List, [], ◌∷◌, ◌++◌, length, take, drop, None, Result, Ok, Err, true, false}
use Rattle.trace_text.specs.declared.line.Found.{Found}
use Rattle.trace_text.specs.declared.command.Command.{Command}
use Rattle.trace_text.specs.declared.refusal.Cause.{Cause}
use Rattle.trace_text.specs.declared.refusal.ParseRefusal.{ParseRefusal}
use Rattle.trace_text.specs.declared.refusal.ParseRefusal.TheVariants as refusals
use Rattle.layout.specs.Sizes.{tables}
use Rattle.rows.specs.Key.{in_table}
use Rattle.trace_text.specs.Line.{Fields, is_passed, key_fault, value_fault}
use Rattle.trace_text.specs.Operation.{operation, part}
use Rattle.rows.specs.Operation.{HasItsFields}
use Rattle.trace_text.specs.Parsed.{LiesWithin}
use Rattle.trace_text.specs.Reading.{AtLine, line_reading}

-- the number that one or two digits spell; of other fields it says nothing
abbrev pub digits_in : List ℕ → ℕ
digits_in [] = 0
digits_in (ones ∷ []) = ones - 48
digits_in (tens ∷ ones ∷ []) = (tens - 48) * 10 + (ones - 48)
digits_in (a ∷ b ∷ c ∷ rest) = 0

abbrev pub fields_in : Found → Fields
fields_in found = record {
  kind = found.kind;
  key = in_table found.table found.key.now;
  value = found.value.now;
  count = found.count;
}

abbrev pub reading_of : Result Found Cause → Result Fields Cause
reading_of (Ok found) = Ok (fields_in found)
reading_of (Err cause) = Err cause

-- the field stands at this offset of the line
abbrev pub LiesAt : List ℕ → ℕ → List ℕ → Type 0
LiesAt line at field = (at + length field ≤ length line) × (take (length field) (drop at line) ≡ field)

pub record LieIn (line : List ℕ) (found : Found) : Type 0 where
  pub table : found.table < tables
  pub key : LiesAt line found.key_at found.key.now
  pub value : LiesAt line found.value_at found.value.now
  pub is_key : key_fault found.key.now ≡ None
  pub is_value : value_fault found.value.now ≡ None
  pub fields : HasItsFields found.kind found.value.now found.count

-- the rest is an end of the text
abbrev pub IsRestOf : List ℕ → List ℕ → Type 0
IsRestOf text rest = (length rest ≤ length text) × (drop (length text - length rest) text ≡ rest)

-- a line's command in a trace of this version, in whatever bytes the line stands at this offset, and on which line it stands
abbrev pub IsCommandAt : ℕ → List ℕ → ℕ → ℕ → ℕ → Command → Type 0
IsCommandAt version text start number line command = (bytes : List ℕ) → LiesAt bytes start text
    → (line_reading version (number, (line, text)) ≡ Ok (operation bytes command)) × LiesWithin bytes command × (command.line ≡ line)

-- the command's key, in whatever bytes its line stands at this offset
abbrev pub IsKeyAt : List ℕ → ℕ → Command → List ℕ → Type 0
IsKeyAt text start command key = (bytes : List ℕ) → LiesAt bytes start text → part bytes command.key ≡ key

-- a line adds its command, or is passed over
abbrev pub AddsLine : ℕ → List ℕ → ℕ → ℕ → List Command → List Command → Type 0
AddsLine version text start line before after =
    ((is_passed text ≡ true) × (after ≡ before))
    ⊎ ((is_passed text ≡ false) × (command : Command) × (after ≡ before ++ command ∷ [])
    × IsCommandAt version text start (length before + 1) line command)

-- a line that would have this command number is refused; want of memory says nothing of it
abbrev pub RefusesLine : ParseRefusal → ℕ → List ℕ → ℕ → ℕ → Type 0
RefusesLine (refusals.Trace at cause) version text number line =
    (at ≡ line) × (is_passed text ≡ false) × (line_reading version (number, (line, text)) ≡ Err (AtLine line cause))
RefusesLine refusals.Memory version text number line = Unit {0}
