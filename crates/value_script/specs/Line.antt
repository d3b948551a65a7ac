-- What one line of a script says.
use Rattle.std.specs.Prelude.{ℕ, ◌-◌, nat_le, List, length, Option, Some, None, Result, Ok, Err, codes, if◌then◌else◌}
use Rattle.std.specs.List.{list_all}
use Rattle.std.specs.Str.{bytes_eq}
use Rattle.trace_text.specs.Line.{cut_at, is_value_byte}
pub use Rattle.numerals.specs.Numeral.{digits_in, number_of}
use Rattle.value_script.specs.declared.refusal.Cause.{Cause}
use Rattle.value_script.specs.declared.refusal.Cause.TheVariants.{UnknownWord, MissingField, Number, ExtraField, ValueLength, ValueByte}
use Rattle.value_script.specs.declared.line.Word.{Word}
use Rattle.value_script.specs.declared.line.Word.TheVariants as words
use Rattle.value_script.specs.Order.{Order, Set, Read, Drop, names, greatest_value, greatest_at, greatest_count}

-- what is wrong with a value
abbrev pub value_fault : List ℕ → Option Cause
value_fault value =
    if nat_le (length value) greatest_value
    then (if list_all is_value_byte value then None else Some ValueByte)
    else Some ValueLength

-- a fault comes before what the order is
abbrev pub unless : Option Cause → Order → Result Order Cause
unless None order = Ok order
unless (Some cause) order = Err cause

-- a field is due behind a space
abbrev pub due : (List ℕ → Result Order Cause) → Option (List ℕ) → Result Order Cause
due next None = Err MissingField
due next (Some fields) = next fields

-- nothing is due, and no space either
abbrev pub ended : Order → Option (List ℕ) → Result Order Cause
ended order None = Ok order
ended order (Some fields) = Err ExtraField

-- a number, up to the next space, and what is behind it
abbrev pub numbered : (ℕ → Option (List ℕ) → Result Order Cause) → Option ℕ → Option (List ℕ) → Result Order Cause
numbered next None behind = Err Number
numbered next (Some number) behind = next number behind

abbrev pub from_number : ℕ → (ℕ → Option (List ℕ) → Result Order Cause) → List ℕ → Result Order Cause
from_number greatest next fields = numbered next (number_of greatest (cut_at 32 fields).0) (cut_at 32 fields).1

-- what is behind the word and its space: a name, and behind that a value to the line's end, two numbers, or nothing
abbrev pub fields_of : Word → List ℕ → Result Order Cause
fields_of words.Set =
    from_number (names - 1) (λ name. due (λ value. unless (value_fault value) (Set name value)))
fields_of words.Read =
    from_number (names - 1) (λ name. due (from_number greatest_at (λ at. due (from_number greatest_count (λ count. ended (Read name at count))))))
fields_of words.Drop = from_number (names - 1) (λ name. ended (Drop name))

abbrev pub word_of : List ℕ → Option Word
word_of word =
    if bytes_eq word (codes "set") then Some words.Set
    else (if bytes_eq word (codes "read") then Some words.Read
    else (if bytes_eq word (codes "drop") then Some words.Drop else None))

abbrev pub from_word : Option Word → Option (List ℕ) → Result Order Cause
from_word None behind = Err UnknownWord
from_word (Some word) behind = due (fields_of word) behind

-- what a line asks, or the first thing that is wrong with it, from left to right
abbrev pub order_of : List ℕ → Result Order Cause
order_of line = from_word (word_of (cut_at 32 line).0) (cut_at 32 line).1
