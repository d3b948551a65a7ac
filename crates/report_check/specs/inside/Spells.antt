-- Journals as they are read.
use Rattle.std.specs.Prelude.{◌≡◌, ℕ, ◌==◌, ◌+◌, List, [], length, drop, Option, Some, None, Result, Ok, Err, MatchResult}
use Rattle.std.specs.List.{range_with_len, slice_split}
use Rattle.run_log.specs.Runs.{journals_in}
use Rattle.report_check.specs.declared.journals.Read.{Read}
use Rattle.report_check.specs.Lines.{Line, lines_of}
use Rattle.report_check.specs.Spelled.{journals_of}

-- the fields of what stands behind a space, if anything does
abbrev pub fields_of : Option (List ℕ) → List (List ℕ)
fields_of None = []
fields_of (Some text) = slice_split (λ b. b == 32) text

-- there are no more of them
abbrev pub room_of : Option (List ℕ) → ℕ
room_of None = 0
room_of (Some text) = length text + 1

-- the journals of so many shards, and what stands behind their lines
pub record IsRead (count shards : ℕ) (lines : List Line) (read : Read) : Type 0 where
  pub journals : journals_of count (range_with_len 0 shards) lines ≡ Ok (journals_in read.journals.items)
  pub behind : lines_of read.behind.now ≡ drop shards lines

abbrev pub AreRead : ℕ → ℕ → List Line → Result Read ℕ → Type 0
AreRead count shards lines result =
    MatchResult result (IsRead count shards lines) (λ line. journals_of count (range_with_len 0 shards) lines ≡ Err line)
