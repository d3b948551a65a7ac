-- The parts that a shard issues, of which some were begun.
use Rattle.std.specs.Prelude.{◌≡◌, ◌≢◌, ℕ, ◌-◌, ◌<◌, ◌%◌, ◌⊎◌, true, List, length, slice_index_or, Some}
use Rattle.std.specs.List.{slice_get}
use Rattle.rows.specs.Operation.{Operation}
use Rattle.trace_text.specs.Parsed.{IsConsistent, Parsed, trace_in}
use Rattle.trace_text.specs.Parts.{has_part}
use Rattle.cache_model.specs.OwnParts.{issued_parts}
use Rattle.part_lemmas.specs.Rest.{part_at}

pub record OwnState : Type 0 where
  pub trace : Parsed
  -- the shard that issues them
  pub shard : ℕ
  -- how many of them were begun
  pub begun : ℕ

-- all of them
abbrev pub own_log : OwnState → List (ℕ × ℕ)
own_log own = issued_parts (trace_in own.trace) own.trace.shards own.shard

-- part k of a log is the first of its command
abbrev pub IsFirstPart : List (ℕ × ℕ) → ℕ → ℕ × ℕ → Type 0
IsFirstPart log k part = (k ≡ 0) ⊎ ((before : ℕ × ℕ) × (slice_get log (k - 1) ≡ Some before) × (before.0 ≢ part.0))

-- The next part is of the command at the place in a trace that was read, which is one of the shard o's, or the end, and shard `to` does
-- it.
pub record StandsAtPart (trace : Parsed) (n o at to begun : ℕ) : Type 0 where
  pub read : IsConsistent trace
  pub origin : at % n ≡ o
  pub below : to < n
  pub part : begun ≡ part_at trace n o to at
  pub does : (d : Operation) → at < length trace.commands → has_part n to (slice_index_or (trace_in trace).operations at d) ≡ true
