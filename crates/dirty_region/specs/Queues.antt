-- A dirty queue: the puts that have not reached the disk, and what is still due of their lines.
use Rattle.std.specs.Prelude.{◌≡◌, ℕ, ◌+◌, ◌<◌, List, [], ◌∷◌, ◌++◌, length, take, drop, flat_map, Option}
use Rattle.std.specs.Io.KnownBytes.{Appends}
use Rattle.rows.specs.Row.{Row}
pub use Rattle.dirty_region.specs.Lines.{line, newest, or_else}

-- the puts, oldest first, each with its key, its value and its number, and how many bytes of the oldest one's line are out
pub record Queue : Type 0 where
  pub puts : List Row
  pub out : ℕ

-- what is still due: the lines of all puts without the bytes that are out
abbrev pub rest : Queue → List ℕ
rest queue = drop queue.out (flat_map line queue.puts)

-- the bytes that are out are fewer than the oldest line's, and none where there is no put
abbrev pub IsOut : ℕ → List Row → Type 0
IsOut out [] = out ≡ 0
IsOut out (put ∷ puts) = out < length (line put)

abbrev pub IsQueue : Queue → Type 0
IsQueue queue = IsOut queue.out queue.puts

-- what was left of the oldest line was appended, and its put is out of the queue
pub record FlushesOldest (number : ℕ) (old new : Queue) (before after : Option (List ℕ)) : Type 0 where
  pub put : Row
  pub taken : old.puts ≡ put ∷ new.puts
  pub number_is : number ≡ put.number
  pub whole : Appends before after (drop old.out (line put))
  pub begun : new.out ≡ 0

-- a front of what was left of the oldest line was appended, and its put stays
pub record BreaksOff (old new : Queue) (before after : Option (List ℕ)) : Type 0 where
  pub put : Row
  pub others : List Row
  pub oldest : old.puts ≡ put ∷ others
  pub stays : new.puts ≡ old.puts
  pub count : ℕ
  pub counted : new.out ≡ old.out + count
  pub unfinished : new.out < length (line put)
  pub front : Appends before after (take count (drop old.out (line put)))

-- what was due is what was appended, followed by what is due
abbrev pub GoesOn : Queue → Queue → Option (List ℕ) → Option (List ℕ) → Type 0
GoesOn old new before after = (bytes : List ℕ) × Appends before after bytes × (rest old ≡ bytes ++ rest new)
