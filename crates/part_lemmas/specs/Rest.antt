-- The commands that one shard issues to another, of which some were passed.
use Rattle.std.specs.Prelude.{◌≡◌, ℕ, ◌==◌, ◌+◌, ◌<◌, ◌&&◌, ◌%◌, Bool, true, List, length, drop, slice_index_or, if◌then◌else◌, Option, Some, None}
use Rattle.std.specs.List.{slice_get}
use Rattle.rows.specs.Operation.{Operation, is_scan}
use Rattle.trace_text.specs.Parsed.{IsConsistent, Parsed, trace_in}
use Rattle.trace_text.specs.Parts.{has_part, origin}
use Rattle.trace_text.specs.Trace.{trace_with}
use Rattle.cache_model.specs.OwnParts.{issued_parts, parts_before}
use Rattle.part_lemmas.specs.Due.{operations_for}

pub record RestState : Type 0 where
  pub trace : Parsed
  -- the shard that issues them, and the one that does its part of each
  pub origin : ℕ
  pub shard : ℕ
  -- those that were not passed, in order
  pub left : List Operation
  -- where the part of the first of them stands among the parts that its origin issues
  pub part : ℕ

-- all of them
abbrev pub all_of : RestState → List Operation
all_of rest = operations_for (trace_in rest.trace) rest.trace.shards rest.origin rest.shard

-- the parts that their origin issues
abbrev pub log_of : RestState → List (ℕ × ℕ)
log_of rest = issued_parts (trace_in rest.trace) rest.trace.shards rest.origin

-- whether shard o issues the operation to shard s, of n shards
abbrev pub is_for : ℕ → ℕ → ℕ → Operation → Bool
is_for n o s operation = origin operation.number n == o && has_part n s operation

-- of the operations from this place on
abbrev pub left_from : Parsed → ℕ → ℕ → ℕ → ℕ → List Operation
left_from trace n o s at = operations_for (trace_with (trace_in trace).version (drop at (trace_in trace).operations)) n o s

-- the parts of a scan are in the order of their shards
abbrev pub shards_before : ℕ → Option Operation → ℕ
shards_before s None = 0
shards_before s (Some operation) = if is_scan operation.kind then s else 0

-- where the part that shard s does of the command at this place stands among the parts that shard o issues
abbrev pub part_at : Parsed → ℕ → ℕ → ℕ → ℕ → ℕ
part_at trace n o s at = parts_before (trace_in trace) n o at + shards_before s (slice_get (trace_in trace).operations at)

-- The place is one of the origin in a trace that was read, behind so many parts that it issues, and at it is an operation of these, or
-- the end.
pub record StandsAt (trace : Parsed) (n o s at before : ℕ) : Type 0 where
  pub read : IsConsistent trace
  pub shards : n ≡ trace.shards
  pub shard : s < n
  pub origin : at % n ≡ o
  pub parts : before ≡ parts_before (trace_in trace) n o at
  pub here : (d : Operation) → at < length trace.commands → is_for n o s (slice_index_or (trace_in trace).operations at d) ≡ true
