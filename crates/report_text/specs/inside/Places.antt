-- Where each shard's next part stands in its log, while the commands are gone over in order.
use Rattle.std.specs.Prelude.{◌≡◌, ℕ, ◌<◌, List, slice_index}
use Rattle.trace_text.specs.Trace.{Trace}
use Rattle.cache_model.specs.OwnParts.{parts_before}

-- of n shards, with the first i commands passed over
abbrev pub ArePlaces : Trace → ℕ → ℕ → List ℕ → Type 0
ArePlaces trace n i places = (o : ℕ) → o < n → slice_index places o ≡ parts_before trace n o i
