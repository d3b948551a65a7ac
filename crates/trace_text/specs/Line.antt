-- What one line of a trace says.
use Rattle.std.specs.Prelude.{ℕ, ◌==◌, ◌+◌, ◌&&◌, nat_lt, nat_le, Bool, true, not, List, [], ◌∷◌, length, take, drop, find, Option, Some, None, Result, Ok, Err, position, codes, decimal, if◌then◌else◌}
use Rattle.std.specs.List.{list_all, range_with_len}
use Rattle.std.specs.Str.{bytes_eq}
use Rattle.layout.specs.Sizes.{greatest_key, greatest_value, most_keys, tables}
use Rattle.rows.specs.Key.{Key, in_table}
use Rattle.rows.specs.declared.kind.Kind.{Kind}
use Rattle.rows.specs.declared.kind.Kind.TheVariants.{Put, Get, Erase, Scan}
use Rattle.trace_text.specs.declared.refusal.Cause.{Cause}
use Rattle.trace_text.specs.declared.refusal.Cause.TheVariants.{UnknownWord, MissingField, Table, KeyLength, KeyByte, ValueLength, ValueByte, Count, ExtraField}

-- an empty line, and one that begins with `#`, are passed over
abbrev pub is_passed : List ℕ → Bool
is_passed [] = true
is_passed (b ∷ bytes) = b == 35

-- a text cut at the first byte b: what stands before it, and what stands behind it, where there is one
abbrev pub cut_where : Option ℕ → List ℕ → List ℕ × Option (List ℕ)
cut_where None text = (text, None)
cut_where (Some i) text = (take i text, Some (drop (i + 1) text))

abbrev pub cut_at : ℕ → List ℕ → List ℕ × Option (List ℕ)
cut_at b text = cut_where (position (λ x. x == b) text) text

-- a byte of a key is neither below 33 nor 127
abbrev pub is_key_byte : ℕ → Bool
is_key_byte b = nat_lt 32 b && not (b == 127)

-- a byte of a value is neither below 32 nor 127
abbrev pub is_value_byte : ℕ → Bool
is_value_byte b = nat_lt 31 b && not (b == 127)

-- what is wrong with a key: it has 1 to 256 bytes
abbrev pub key_fault : List ℕ → Option Cause
key_fault key =
    if nat_lt 0 (length key) && nat_le (length key) greatest_key
    then (if list_all is_key_byte key then None else Some KeyByte)
    else Some KeyLength

-- what is wrong with a value: it has at most 12,000 bytes
abbrev pub value_fault : List ℕ → Option Cause
value_fault value =
    if nat_le (length value) greatest_value
    then (if list_all is_value_byte value then None else Some ValueByte)
    else Some ValueLength

-- the number from 1 to 32 that a field spells, without a leading zero
abbrev pub count_of : List ℕ → Option ℕ
count_of field = find (λ n. bytes_eq (decimal n) field) (range_with_len 1 most_keys)

-- the kind of a line's command, and its fields
pub record Fields : Type 0 where
  pub kind : Kind
  pub key : Key
  -- of a put; else empty
  pub value : List ℕ
  -- the most keys that a scan gives; else 0
  pub count : ℕ

-- a fault comes before what stands behind it in the line
abbrev pub unless : Option Cause → Result Fields Cause → Result Fields Cause
unless None later = later
unless (Some cause) later = Err cause

-- what follows a scan's count: nothing
abbrev pub behind_count : Key → Option ℕ → Option (List ℕ) → Result Fields Cause
behind_count key None behind = Err Count
behind_count key (Some count) None = Ok (record { kind = Scan; key = key; value = []; count = count })
behind_count key (Some count) (Some behind) = Err ExtraField

-- the count of a scan, and what follows it
abbrev pub from_count : Key → List ℕ × Option (List ℕ) → Result Fields Cause
from_count key (field, behind) = behind_count key (count_of field) behind

-- what follows a key: nothing; the value, which is all that follows the space; or a count
abbrev pub behind_key : Kind → Key → Option (List ℕ) → Result Fields Cause
behind_key Put key None = Err MissingField
behind_key Put key (Some value) = unless (value_fault value) (Ok (record { kind = Put; key = key; value = value; count = 0 }))
behind_key Get key None = Ok (record { kind = Get; key = key; value = []; count = 0 })
behind_key Get key (Some behind) = Err ExtraField
behind_key Erase key None = Ok (record { kind = Erase; key = key; value = []; count = 0 })
behind_key Erase key (Some behind) = Err ExtraField
behind_key Scan key None = Err MissingField
behind_key Scan key (Some behind) = from_count key (cut_at 32 behind)

-- the fields of a command on a table: its key, and what follows it
abbrev pub from_key : Kind → ℕ → List ℕ × Option (List ℕ) → Result Fields Cause
from_key kind table (bytes, behind) = unless (key_fault bytes) (behind_key kind (in_table table bytes) behind)

-- the table that a field spells: one digit, 0 to 7
abbrev pub table_of : List ℕ → Option ℕ
table_of field = find (λ n. bytes_eq (decimal n) field) (range_with_len 0 tables)

-- what follows the word in version 2: the table, a space, and the key
abbrev pub behind_table : Kind → Option ℕ → Option (List ℕ) → Result Fields Cause
behind_table kind None behind = Err Table
behind_table kind (Some table) None = Err MissingField
behind_table kind (Some table) (Some fields) = from_key kind table (cut_at 32 fields)

abbrev pub from_table : Kind → List ℕ × Option (List ℕ) → Result Fields Cause
from_table kind (field, behind) = behind_table kind (table_of field) behind

-- in version 1 all rows are of table 0
abbrev pub from_fields : ℕ → Kind → List ℕ → Result Fields Cause
from_fields version kind fields = if version == 2 then from_table kind (cut_at 32 fields) else from_key kind 0 (cut_at 32 fields)

abbrev pub kind_of : List ℕ → Option Kind
kind_of word =
    if bytes_eq word (codes "put") then Some Put
    else (if bytes_eq word (codes "get") then Some Get
    else (if bytes_eq word (codes "erase") then Some Erase
    else (if bytes_eq word (codes "scan") then Some Scan else None)))

-- what follows the word: a space, and the fields
abbrev pub behind_word : ℕ → Option Kind → Option (List ℕ) → Result Fields Cause
behind_word version None behind = Err UnknownWord
behind_word version (Some kind) None = Err MissingField
behind_word version (Some kind) (Some fields) = from_fields version kind fields

abbrev pub from_word : ℕ → List ℕ × Option (List ℕ) → Result Fields Cause
from_word version (word, behind) = behind_word version (kind_of word) behind

-- the fields of a line in a trace of a version, or the first thing that is wrong with it, from left to right
abbrev pub fields_of : ℕ → List ℕ → Result Fields Cause
fields_of version line = from_word version (cut_at 32 line)
