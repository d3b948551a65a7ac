-- The journals that the lines of a report spell.
use Rattle.std.specs.Prelude.{ℕ, ◌==◌, ◌+◌, ◌&&◌, nat_lt, List, [], ◌∷◌, codes, decimal, drop, if◌then◌else◌, Option, Some, None, Result, Ok, Err}
use Rattle.std.specs.List.{slice_get, slice_split}
use Rattle.std.specs.Option.{option_map, option_and_then}
use Rattle.std.specs.Str.{bytes_eq}
use Rattle.numerals.specs.Numeral.{number_of}
use Rattle.cache_model.specs.declared.entry.Entry.{Entry}
use Rattle.cache_model.specs.declared.entry.Entry.TheVariants.{Done, Evicted}
use Rattle.report_check.specs.Lines.{Line}

-- the number of a command that a field spells, of so many, numbered from 1
abbrev pub if_some : ℕ → Option ℕ
if_some i = if nat_lt 0 i then Some i else None

abbrev pub command_in : ℕ → List ℕ → Option ℕ
command_in count field = option_and_then if_some (number_of count field)

-- the entry that a field spells: the number of a command, behind a `!` where the row of that put went
abbrev pub entry_of : ℕ → List ℕ → Option Entry
entry_of count [] = None
entry_of count (b ∷ digits) =
    if b == 33 then option_map Evicted (command_in count digits) else option_map Done (command_in count (b ∷ digits))

abbrev pub with_later : Entry → Option (List Entry) → Option (List Entry)
with_later entry None = None
with_later entry (Some entries) = Some (entry ∷ entries)

abbrev pub with_first : Option Entry → Option (List Entry) → Option (List Entry)
with_first None later = None
with_first (Some entry) later = with_later entry later

-- the entries that fields spell
abbrev pub entries_of : ℕ → List (List ℕ) → Option (List Entry)
entries_of count [] = Some []
entries_of count (field ∷ fields) = with_first (entry_of count field) (entries_of count fields)

-- the journal of shard s that a text spells which is cut at each space: `journal`, the shard, and the entries
abbrev pub from_fields : ℕ → ℕ → List (List ℕ) → Option (List Entry)
from_fields count s [] = None
from_fields count s (word ∷ []) = None
from_fields count s (word ∷ shard ∷ fields) =
    if bytes_eq word (codes "journal") && bytes_eq (decimal s) shard then entries_of count fields else None

abbrev pub journal_in : ℕ → ℕ → List ℕ → Option (List Entry)
journal_in count s text = from_fields count s (slice_split (λ b. b == 32) text)

-- of a line that is there and ends
abbrev pub journal_of : ℕ → ℕ → Option Line → Option (List Entry)
journal_of count s None = None
journal_of count s (Some None) = None
journal_of count s (Some (Some text)) = journal_in count s text

-- a line that spells no journal comes before what stands behind it
abbrev pub with_journals : List Entry → Result (List (List Entry)) ℕ → Result (List (List Entry)) ℕ
with_journals journal (Err line) = Err line
with_journals journal (Ok journals) = Ok (journal ∷ journals)

abbrev pub with_journal : ℕ → Option (List Entry) → Result (List (List Entry)) ℕ → Result (List (List Entry)) ℕ
with_journal line None later = Err line
with_journal line (Some journal) later = with_journals journal later

-- the journals of these shards, which the lines spell that are left behind so many answers and the lines of the shards before; or
-- the number of the first line that is missing or other
abbrev pub journals_of : ℕ → List ℕ → List Line → Result (List (List Entry)) ℕ
journals_of count [] lines = Ok []
journals_of count (s ∷ shards) lines =
    with_journal (count + s + 1) (journal_of count s (slice_get lines 0)) (journals_of count shards (drop 1 lines))
