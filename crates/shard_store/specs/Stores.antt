-- What a caller sees of a store: the rows of a shard's cache, and the blocks that it lent. Of the memory in which they stand it sees
-- what stands at a place, which a guard of its table's group holds there, and what the pages can still give.
use Rattle.std.specs.Prelude.{◌≡◌, ℕ, ◌%◌, List, IsSome}
use Rattle.layout.specs.Sizes.{segment}
use Rattle.rows.specs.Row.{Row}
use Rattle.foreign_list.specs.Lists.{OwnedList}
use Rattle.regions.specs.Segments.{RegionState}
use Rattle.regions.specs.Segments as segments
use Rattle.regions.specs.Shapes.{active_of, free_count, guards_at, guards_of, held_count}
use Rattle.regions.specs.Shapes as shapes
use Rattle.regions.specs.Counts.{left}
use Rattle.regions.specs.declared.place.Place.{Place}
use Rattle.row_cache.specs.Rows.{StandsAt}
use Rattle.shard_memory.specs.Room.{Room}
use Rattle.shard_memory.specs.Tickets.{Tickets}

pub record StoreState : Type 0 where
  -- the number of the shard
  pub shard : ℕ
  -- its pages
  pub pages : ℕ
  -- how many groups its segments have: the rows of a table stand in the one whose number is the table's modulo that
  pub regions : ℕ
  -- how many rows have room in the tables
  pub room : ℕ
  -- the row used last in front
  pub rows : List Row
  -- the list over which lent blocks come home
  pub list : OwnedList
  -- the piece that is lent with each ticket, and none where the ticket is idle
  pub lent : Tickets
  -- how many blocks were lent and came home since the opening, the greatest u64 where there were more
  pub lends : ℕ
  pub backs : ℕ
  -- how often the list was looked at for released blocks
  pub looks : ℕ
  -- the segments in which the rows stand, and how many guards stand on each group
  pub region : RegionState
  -- what the pages can still give
  pub free : Room

-- the store with other rows
abbrev pub with_rows : StoreState → List Row → StoreState
with_rows s rows = record s { rows = rows }

-- the group in which the rows of a table stand
abbrev pub group_for : StoreState → ℕ → ℕ
group_for s table = table % s.regions

-- the store with so many guards on the group
abbrev pub with_guards : StoreState → ℕ → ℕ → StoreState
with_guards s group guards = record s { region = segments.with_guards s.region group guards }

-- no table has a guard: none stands on any group
abbrev pub IsUnguarded : StoreState → Type 0
IsUnguarded s = shapes.IsUnguarded s.region

-- two segments are held, and no object is in them: one is active in group 0, and the other is free
pub record HoldsTwo (region : RegionState) : Type 0 where
  pub held : held_count region ≡ 2
  pub free : free_count region ≡ 1
  pub active : IsSome (active_of region 0)
  pub left : left region 0 ≡ segment

-- as many guards stand on each group
abbrev pub SameGuards : RegionState → RegionState → Type 0
SameGuards old new = (g : ℕ) → guards_of new g ≡ guards_of old g

-- whose store it is, its pages, its groups, the room of its tables, its list and the guards are as they were
pub record IsSameStore (old new : StoreState) : Type 0 where
  pub shard : new.shard ≡ old.shard
  pub pages : new.pages ≡ old.pages
  pub regions : new.regions ≡ old.regions
  pub room : new.room ≡ old.room
  pub list : new.list ≡ old.list
  pub guards : SameGuards old.region new.region

-- nothing was lent, nothing came home, and the list was not looked at
pub record KeepsTickets (old new : StoreState) : Type 0 where
  pub lent : new.lent ≡ old.lent
  pub lends : new.lends ≡ old.lends
  pub backs : new.backs ≡ old.backs
  pub looks : new.looks ≡ old.looks

-- each row that stood at a place, live or dead, stands there, under as many guards
pub record RowsStay (old new : StoreState) : Type 0 where
  pub each : (p : Place) (row : Row) → StandsAt old.region p row → StandsAt new.region p row
  pub guarded : (p : Place) (row : Row) → StandsAt old.region p row → guards_at new.region p.segment ≡ guards_at old.region p.segment
