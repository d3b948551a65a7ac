-- A text on its way to a sink: a front of it was appended, and the rest waits in a block.
use Rattle.std.specs.Prelude.{◌≡◌, ℕ, ◌≤◌, List, ◌++◌, Option, Result, MatchResult}
use Rattle.std.specs.Borrow.{GName}
use Rattle.std.specs.Io.KnownBytes.{Appends}
use Rattle.outside.specs.Moves.{AppendsFront}
use Rattle.layout.specs.Counts.{Rose}

-- which sink it is, what it was given, its faults, and what waits in the block
pub record Output : Type 0 where
  pub sink : GName
  pub written : Option (List ℕ)
  pub faults : ℕ
  pub block : List ℕ

-- the text stands behind what waited: some of this was appended, and the rest waits
pub record Adds (before after : Output) (text : List ℕ) : Type 0 where
  pub sent : List ℕ
  pub appended : Appends before.written after.written sent
  pub bytes : sent ++ after.block ≡ before.block ++ text

-- the sink failed, with a front of what waited and the text
pub record Fails (before after : Output) (text : List ℕ) : Type 0 where
  pub rose : Rose before.faults after.faults
  pub front : AppendsFront before.written after.written (before.block ++ text)

-- the text was added to the same sink, or the sink failed
pub record Writes {T E : Type 0} (result : Result T E) (before after : Output) (text : List ℕ) : Type 0 where
  pub outcome : MatchResult result (λ _. Adds before after text) (λ _. Fails before after text)
  pub same_sink : after.sink ≡ before.sink
  pub never_falls : before.faults ≤ after.faults

-- of a text all was added but the rest
pub record Goes (before after : Output) (text rest : List ℕ) : Type 0 where
  pub bytes : List ℕ
  pub added : Adds before after bytes
  pub whole : bytes ++ rest ≡ text
  pub same_sink : after.sink ≡ before.sink
  pub never_falls : before.faults ≤ after.faults
