-- A trace and a report in one input: the length of the trace in decimal, LF, the trace, and behind it the report.
use Rattle.std.specs.Prelude.{ℕ, nat_le, List, length, take, drop, if◌then◌else◌, Option, Some, None}
use Rattle.numerals.specs.Numeral.{greatest_read, number_of}
use Rattle.trace_text.specs.Line.{cut_at}

-- so many bytes, and those behind them, where there are so many
abbrev pub cut_behind : List ℕ → ℕ → Option (List ℕ × List ℕ)
cut_behind bytes len = if nat_le len (length bytes) then Some (take len bytes, drop len bytes) else None

abbrev pub with_length : Option ℕ → List ℕ → Option (List ℕ × List ℕ)
with_length None bytes = None
with_length (Some len) bytes = cut_behind bytes len

abbrev pub behind_length : List ℕ × Option (List ℕ) → Option (List ℕ × List ℕ)
behind_length (field, None) = None
behind_length (field, Some bytes) = with_length (number_of greatest_read field) bytes

-- the trace and the report; none where no length of 1 to 8 digits stands in front, or fewer bytes follow
abbrev pub framed : List ℕ → Option (List ℕ × List ℕ)
framed bytes = behind_length (cut_at 10 bytes)
