-- The version of a trace, and the lines behind the one that says it.
use Rattle.std.specs.Prelude.{◌≡◌, ℕ, ◌+◌, ◌-◌, ◌≤◌, ◌&&◌, nat_le, List, [], ◌∷◌, length, Option, Some, None, Result, if◌then◌else◌}
use Rattle.rows.specs.Operation.{Operation}
use Rattle.trace_text.specs.Reading.{Refusal, command_lines, lines, lines_from, operations_of, version_in}
use Rattle.trace_text.specs.inside.Found.{IsRestOf}

-- what the bytes of a trace are read to be
abbrev pub reading_in : List ℕ → Result (List Operation) Refusal
reading_in bytes = operations_of (version_in bytes) 1 (command_lines (version_in bytes) (lines bytes))

-- A trace of version 1 has commands from line 1 on, and one of version 2 from line 2 on. So the first line of what stands
-- behind the line that says the version has the number of the version.
pub record Begins (bytes : List ℕ) (version : ℕ) (behind : List ℕ) : Type 0 where
  pub version_is : version ≡ version_in bytes
  pub is_rest : IsRestOf bytes behind
  pub counted : version + length behind ≤ length bytes + 1
  pub lines_are : command_lines version (lines bytes) ≡ lines_from version (lines behind)

-- the table that a byte spells: `0` to `7` are 48 to 55
abbrev pub table_in : ℕ → Option ℕ
table_in byte = if nat_le 48 byte && nat_le byte 55 then Some (byte - 48) else None

-- the same by the field
abbrev pub table_spelled : List ℕ → Option ℕ
table_spelled [] = None
table_spelled (byte ∷ []) = table_in byte
table_spelled (a ∷ b ∷ rest) = None
