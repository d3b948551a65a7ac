-- What holds of the limits of a cache.
use Rattle.std.specs.Prelude.{◌≡◌, ℕ, ◌^◌, ◌<◌, ◌≤◌}
use Rattle.layout.specs.Sizes.{greatest_value}
use Rattle.shard_store.specs.Stores.{StoreState}
use Rattle.embedded_cache.specs.States.{most_bound}

-- The room is that of the store's tables, the bound is none that the pages could not keep, and a value of any length has room where
-- its pieces are put together.
pub record AreLimits (room bound capacity : ℕ) (store : StoreState) : Type 0 where
  pub room_is : room ≡ store.room
  pub some : 1 ≤ room
  pub few : room < 2 ^ 32
  pub low : bound ≤ most_bound store.pages store.regions
  pub wide : greatest_value ≤ capacity
