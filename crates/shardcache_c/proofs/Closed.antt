-- Handles and shards that are closed.
use Rattle.std.proofs.Common.{◌≡◌, true, false, refl}
use Rattle.std.specs.Prelude.{Option, Some, None, IsNone, is_some}
use Rattle.shardcache_c.specs.declared.shard.Opened.{Opened}
use Rattle.shardcache_c.specs.declared.shard.Shard.{Shard}
use Rattle.shardcache_c.specs.Handles.{cache_of, cache_over}

-- that which keeps no shard
pub closed : (kept : Option Shard) → IsNone kept → cache_of kept ≡ None
closed None none = refl
closed (Some shard) none = absurd (let clash : true ≡ false = none in cc)

-- that in which nothing is open
pub shut : (opened : Option Opened) → is_some opened ≡ false → cache_over opened ≡ None
shut None none = refl
shut (Some one) none = absurd (let clash : true ≡ false = none in cc)
