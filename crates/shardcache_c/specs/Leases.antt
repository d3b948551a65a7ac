-- What a caller sees of a lent block.
use Rattle.std.specs.Prelude.{◌≡◌, ℕ, Bool, List, length, is_some}
use Rattle.rows.specs.Key.{Key}
use Rattle.foreign_list.specs.Blocks.{Block}
use Rattle.shard_memory.specs.declared.share.Share.{Share}
use Rattle.embedded_cache.specs.Lendings.{LendsValue}
use Rattle.embedded_cache.specs.States.{EmbeddedState}
use Rattle.embedded_cache.specs.declared.lent.Lent.{Lent}

-- it is lent with a ticket of either share
abbrev pub LendsWithAny : Key → ℕ → Lent → List ℕ → List ℕ → EmbeddedState → EmbeddedState → Type 0
LendsWithAny key head lent places told old new = (share : Share) × LendsValue key head share lent places told old new

-- a block that a cache lends, and what the caller is told: how many rows went for it, how many bytes it has, and whether a row had the key
abbrev pub Lends : Key → ℕ → Block → ℕ → ℕ → Bool → List ℕ → List ℕ → EmbeddedState → EmbeddedState → Type 0
Lends key head block went len found places told old new =
    (lent : Lent) × (lent.block ≡ block) × LendsWithAny key head lent places told old new × (went ≡ lent.evicted)
    × (len ≡ length block.piece.bytes) × (found ≡ is_some lent.len)
