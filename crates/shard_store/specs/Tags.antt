-- Tags in the caller's memory.
use Rattle.std.specs.Prelude.{◌≡◌, ◌⊎◌, ℕ, ◌+◌, ◌<◌, ◌≤◌, length, slice_set}
use Rattle.layout.specs.Counts.{counted}
use Rattle.shard_store.specs.declared.evicted_tags.EvictedTags.{EvictedTags}

-- it stands behind those that were told
pub record Fits (old : EvictedTags) (tag : ℕ) (new : EvictedTags) : Type 0 where
  pub within : old.told < length old.tags.now
  pub tags : new.tags.now ≡ slice_set old.tags.now old.told tag
  pub told : new.told ≡ old.told + 1
  pub missed : new.missed ≡ old.missed

-- there is no place behind them, and it is counted
pub record Misses (old new : EvictedTags) : Type 0 where
  pub full : length old.tags.now ≤ old.told
  pub tags : new.tags.now ≡ old.tags.now
  pub told : new.told ≡ old.told
  pub missed : new.missed ≡ counted old.missed

pub record IsWritten (old : EvictedTags) (tag : ℕ) (new : EvictedTags) : Type 0 where
  pub same_reference : new.tags.ghost_name ≡ old.tags.ghost_name
  pub either : Fits old tag new ⊎ Misses old new
