-- Values that are lent.
use Rattle.std.specs.Prelude.{◌≡◌, ℕ, ◌+◌, ◌≤◌, List, length, drop, Option, IfSome}
use Rattle.layout.specs.Sizes.{greatest_value}
use Rattle.layout.specs.Counts.{raised}
use Rattle.rows.specs.Key.{Key}
use Rattle.rows.specs.Row.{Row}
use Rattle.rows.specs.Apply.{get, row_of}
use Rattle.rows.specs.Evictions.{Evicts}
use Rattle.foreign_list.specs.Blocks.{Block}
use Rattle.shard_memory.specs.declared.share.Share.{Share}
use Rattle.shard_store.specs.Stores.{StoreState, IsSameStore}
use Rattle.shard_store.specs.Lending.{LendsBlock, found_in, value_length}
use Rattle.shard_store.specs.Works.{floor_of}
use Rattle.embedded_cache.specs.Puts.{told_in}
use Rattle.embedded_cache.specs.States.{EmbeddedState}
use Rattle.embedded_cache.specs.declared.lent.Lent.{Lent}

-- Rows went for the block, each while more bytes were live than the floor, and were told. What stands behind the head of the block,
-- which was made for the value that was found first, was looked up among the others.
pub record LendsFound (key : Key) (head : ℕ) (share : Share) (block : Block) (len : Option ℕ) (count : ℕ) (places written : List ℕ)
    (old new : StoreState) : Type 0 where
  pub tags : List ℕ
  pub rest : List Row
  pub evicts : Evicts (floor_of old.pages old.lent old.regions) old.rows tags rest
  pub told : written ≡ told_in tags places
  pub count_is : count ≡ length tags
  pub rows : new.rows ≡ (get key rest).0
  pub found : found_in len (drop head block.piece.bytes) ≡ (get key rest).1
  pub size : length block.piece.bytes ≡ head + value_length (row_of key old.rows)
  pub within : IfSome len (λ n. (head + n ≤ length block.piece.bytes) × (n ≤ greatest_value))
  pub lends : LendsBlock share old new block
  pub same : IsSameStore old new

-- the same of a cache, which counts the rows that went
pub record LendsValue (key : Key) (head : ℕ) (share : Share) (lent : Lent) (places written : List ℕ) (old new : EmbeddedState) : Type 0 where
  pub found : LendsFound key head share lent.block lent.len lent.evicted places written old.store new.store
  pub evictions : new.evictions ≡ raised old.evictions lent.evicted
  pub gets : (new.gets ≡ old.gets) × (new.hits ≡ old.hits)
  pub bound : new.bound ≡ old.bound
