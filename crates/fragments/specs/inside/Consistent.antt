-- What holds of the parts of a store.
use Rattle.std.specs.Prelude.{◌≡◌, ◌⊎◌, ℕ, ◌+◌, ◌^◌, ◌-◌, ◌<◌, ◌≤◌, List, [], ◌∷◌, length, Some, IsSome, map, take, slice_index_or}
use Rattle.layout.specs.Sizes.{most_segments}
use Rattle.regions.specs.Segments.{RegionState}
use Rattle.regions.specs.Shapes.{shape, active_of, group_count, held_count, free_count}
use Rattle.regions.specs.Counts.{live_total}
use Rattle.regions.specs.Contents.{live_at}
use Rattle.segmented_store.specs.Room.{room}
use Rattle.fragments.specs.Sizes.{object_size}
use Rattle.fragments.specs.Values.{Values, IsShort, live, value_of}
use Rattle.fragments.specs.Chains.{TableState, AreChains, HoldParts, all_parts}
use Rattle.fragments.specs.Store.{read}

-- each entry has a first fragment and a chain: that of each name, and the one of the value that is being written
pub record AreEntries (t : TableState) : Type 0 where
  pub few : t.names < 2 ^ 32 - 1
  pub firsts : length t.firsts ≡ t.names + 1
  pub chains : length t.chains ≡ t.names + 1

-- the values that are read from the chains of the names
abbrev pub values_in : TableState → RegionState → Values
values_in t r = map (read (live_at r)) (take t.names t.firsts)

-- the bytes of the objects of these parts
abbrev pub size_of_parts : List (List ℕ) → ℕ
size_of_parts [] = 0
size_of_parts (p ∷ ps) = object_size (length p) + size_of_parts ps

-- a segment is free, but where none is held, or only the active one
abbrev pub HasFree : RegionState → Type 0
HasFree r = (1 ≤ free_count r) ⊎ ((held_count r ≡ 0) ⊎ ((held_count r ≤ 1) × IsSome (active_of r 0)))

-- each entry has a first fragment and a chain, the region has one group, and its chains hold the values and nothing else
pub record IsConsistent (t : TableState) (r : RegionState) (lengths : List ℕ) (segments : ℕ) : Type 0 where
  pub entries : AreEntries t
  pub one : group_count r ≡ 1
  pub few : (shape r).most ≤ most_segments
  pub chains : AreChains t (live_at r)
  pub parts : HoldParts t (live_at r) (all_parts (values_in t r) [])
  pub short : (n : ℕ) → IsShort (value_of (values_in t r) n)
  pub many : length lengths ≡ t.names
  pub lens : (n : ℕ) (value : List ℕ) → value_of (values_in t r) n ≡ Some value → slice_index_or lengths n 0 ≡ length value
  pub held : segments ≡ held_count r
  pub free : HasFree r
  pub sizes : live (values_in t r) ≡ live_total r
  pub within : live_total r ≤ room (held_count r)
