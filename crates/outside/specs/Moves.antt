-- Which bytes moved between a program and a device, where the device tells what it has left or was given.
use Rattle.std.specs.Prelude.{◌≡◌, ℕ, ◌≤◌, List, Option, Result, length, take}
use Rattle.std.specs.Result.{OnOk, OnErr}
use Rattle.std.specs.Io.KnownBytes.{Appends, Consumes}
use Rattle.layout.specs.Counts.{Rose}

-- a front of `piece`, of any length up to its own, was appended
pub record AppendsFront (old new : Option (List ℕ)) (piece : List ℕ) : Type 0 where
  pub count : ℕ
  pub within : count ≤ length piece
  pub appended : Appends old new (take count piece)

-- A text went to a sink, of which these functions say what it was given and how often it failed: all of the text, or a front of it, and
-- then the sink failed.
pub record Sends {K T E : Type 0} (bytes : K → Option (List ℕ)) (count : K → ℕ) (old new : K) (result : Result T E) (text : List ℕ) : Type 0 where
  pub written : OnOk result (Appends (bytes old) (bytes new) text)
  pub front : OnErr result (AppendsFront (bytes old) (bytes new) text)
  pub failed : OnErr result (Rose (count old) (count new))
  pub never_falls : count old ≤ count new

-- exactly n bytes were taken
abbrev pub ConsumesExactly : Option (List ℕ) → Option (List ℕ) → ℕ → Type 0
ConsumesExactly old new n = (front : List ℕ) × (length front ≡ n) × Consumes old new front

-- at most n bytes were taken
abbrev pub ConsumesUpTo : Option (List ℕ) → Option (List ℕ) → ℕ → Type 0
ConsumesUpTo old new n = (front : List ℕ) × (length front ≤ n) × Consumes old new front
