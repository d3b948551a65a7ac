-- What a call on a store did, and what it told.
use Rattle.std.specs.Prelude.{◌≡◌, ℕ, ◌+◌, List}
use Rattle.layout.specs.Sizes.{dense}
use Rattle.rows.specs.Row.{Row, tight_floor}
use Rattle.rows.specs.Apply.{Reply}
use Rattle.rows.specs.Evictions.{Evicts}
use Rattle.shard_memory.specs.Tickets.{Tickets, tickets_out}
use Rattle.shard_store.specs.Stores.{StoreState, IsSameStore}
use Rattle.rows.specs.Told.{AreTold}

-- the live bytes exceed this where a row goes for a block: the tight floor of so many regions, with the tickets that are not idle as
-- the call begins
abbrev pub floor_of : ℕ → Tickets → ℕ → ℕ
floor_of pages lent regions = tight_floor pages (tickets_out lent) regions

-- and this where a row goes for a put: a dense segment more
abbrev pub pressure : ℕ → Tickets → ℕ → ℕ
pressure pages lent regions = floor_of pages lent regions + dense

module _ {E : Type 0} (tells : E → ℕ → E → Type 0) where
  -- Rows went in turn, each while more bytes were live than the bound, and were told. What was to be done was then done on the
  -- rest, with the answer that it has there.
  pub record DoesAbove (bound : ℕ) (does : List Row → List Row × Reply) (answer : Reply) (old new : StoreState)
      (before after : E) : Type 0 where
    pub evicted : List ℕ
    pub rest : List Row
    pub evicts : Evicts bound old.rows evicted rest
    pub told : AreTold tells before evicted after
    pub rows : new.rows ≡ (does rest).0
    pub reply : answer ≡ (does rest).1
    pub same : IsSameStore old new

  -- rows went in turn for a block, and were told; nothing was done
  pub record EvictsForBlock (old new : StoreState) (before after : E) : Type 0 where
    pub evicted : List ℕ
    pub evicts : Evicts (floor_of old.pages old.lent old.regions) old.rows evicted new.rows
    pub told : AreTold tells before evicted after
    pub same : IsSameStore old new
