-- Counts of commands by shard and kind.
use Rattle.std.specs.Prelude.{◌≡◌, ℕ, ◌==◌, ◌+◌, ◌*◌, ◌≤◌, List, count_by, slice_index_or}
use Rattle.rows.specs.declared.kind.Kind.{Kind}
use Rattle.rows.specs.declared.kind.Kind.TheVariants.{Put, Get, Erase, Scan}
use Rattle.rows.specs.Operation.{Operation}
use Rattle.trace_text.specs.Reading.{most_commands}

abbrev pub code : Kind → ℕ
code Put = 0
code Get = 1
code Erase = 2
code Scan = 3

-- where the count of a shard's commands of a kind stands
abbrev pub slot : ℕ → Kind → ℕ
slot shard kind = shard * 4 + code kind

abbrev pub AreFew : List ℕ → Type 0
AreFew counts = (at : ℕ) → slice_index_or counts at 0 ≤ most_commands

-- each count is that of the operations of its shard and kind
unfoldable pub AreCountsBy : (Operation → ℕ) → List Operation → List ℕ → Type 0
AreCountsBy shard_of operations counts = (at : ℕ)
    → slice_index_or counts at 0 ≡ count_by (λ operation. slot (shard_of operation) operation.kind == at) operations
