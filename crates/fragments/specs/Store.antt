-- What a store of fragments means, read off the bytes of its segments.
use Rattle.std.specs.Prelude.{◌≡◌, ℕ, zero, suc, ◌+◌, ◌≤◌, List, [], ◌∷◌, length, Option, None, Some, IsSome, map, option_map, take}
use Rattle.std.specs.List.{concat}
use Rattle.regions.specs.Segments.{RegionState}
use Rattle.regions.specs.Shapes.{group_count, group_of, active_of, free_count, HasGroup, IsClosed, IsClosedIn}
use Rattle.regions.specs.Counts.{live_total}
use Rattle.regions.specs.Contents.{Item, live_at, standing_at}
use Rattle.regions.specs.Stores as stores
use Rattle.regions.specs.Stores.{Live}
use Rattle.regions.specs.declared.place.Place.{Place}
use Rattle.segmented_store.specs.Segments.{HoldsSegments}
use Rattle.fragments.specs.Sizes.{most_fragments, size}
use Rattle.fragments.specs.Values as values
use Rattle.fragments.specs.Values.{Values}
use Rattle.regions.specs.Places.{led_to}
use Rattle.fragments.specs.Fragment.{bare, bytes_in, next_in}
use Rattle.fragments.specs.Chains.{TableState, AreChains, HoldParts, all_parts, parts}

-- a store: the place of the first fragment of each name's value, and the segments in which all fragments stand
pub record StoreState : Type 0 where
  pub firsts : List (Option Place)
  pub region : RegionState

-- the content of the live object at a place, and no byte where there is none
abbrev pub content_of : Option Item → List ℕ
content_of None = []
content_of (Some item) = item.content

-- the bytes of the fragment at a place, and the place to which it leads
abbrev pub bytes_at : Live → Place → List ℕ
bytes_at live p = bytes_in (content_of (live p))

abbrev pub next_at : Live → Place → Option Place
next_at live p = led_to (next_in (content_of (live p)))

-- the places of at most so many fragments, from one on
abbrev pub follow : ℕ → Live → Option Place → List Place
follow zero live from = []
follow (suc n) live None = []
follow (suc n) live (Some p) = p ∷ follow n live (next_at live p)

-- the pieces of a value, one in each fragment, and the value, from its first fragment on
abbrev pub pieces_from : Live → Option Place → List (List ℕ)
pieces_from live from = map (bytes_at live) (follow most_fragments live from)

abbrev pub read : Live → Option Place → Option (List ℕ)
read live None = None
read live (Some p) = Some (concat (pieces_from live (Some p)))

-- the values of all names
abbrev pub values_of : StoreState → Values
values_of s = map (read (live_at s.region)) s.firsts

-- the parts of each name's value stand in its chain, one in each fragment, and every live object is in one chain
pub record StandsFor (s : StoreState) (t : TableState) : Type 0 where
  pub names : t.names ≡ length s.firsts
  pub firsts : take t.names t.firsts ≡ s.firsts
  pub chains : AreChains t (live_at s.region)
  pub parts : HoldParts t (live_at s.region) (all_parts (values_of s) [])

-- each live fragment stood where it stands
abbrev pub Stay : RegionState → RegionState → Type 0
Stay old new = (p : Place) → IsSome (live_at new p) → option_map bare (live_at new p) ≡ option_map bare (live_at old p)

-- What holds of every region, as its `facts` tell: it is a store by itself, of 1 to 8 groups; each object stands in a segment of one
-- of them, and each closed segment is closed in one; a group's active segment is of it, and where one is closed one is active.
pub record IsRegion (r : RegionState) : Type 0 where
  pub store : (bare : stores.Bare)
      → stores.StandsFor bare (stores.store_of bare (stores.itself (live_at r)) (live_at r)) (stores.itself (live_at r)) (live_at r)
  pub groups : (1 ≤ group_count r) × (group_count r ≤ 8)
  pub grouped : (p : Place) (i : Item) → live_at r p ≡ Some i
      → (g : ℕ) × (i.group ≡ Some g) × (group_of r p.segment ≡ Some g) × HasGroup r g
  pub stands : (p : Place) → IsSome (standing_at r p) → (g : ℕ) × (group_of r p.segment ≡ Some g) × HasGroup r g
  pub closed : (n : ℕ) → IsClosed r n → (g : ℕ) × HasGroup r g × IsClosedIn r g n
  pub of : (g n : ℕ) → active_of r g ≡ Some n → group_of r n ≡ Some g
  pub active : (g n : ℕ) → IsClosedIn r g n → IsSome (active_of r g)

-- At some time, in the same segments, one of them free, the value with these bytes stood beside all old ones, that of its own
-- name as well, and nothing else was live; since then fragments died, and none moved.
pub record IsSetBeside (old new : StoreState) (bytes : List ℕ) : Type 0 where
  pub between : RegionState
  pub tables : TableState
  pub facts : IsRegion between
  pub segments : HoldsSegments old.region between
  pub free : 1 ≤ free_count between
  pub total : live_total between ≡ values.live (values_of old) + size (length bytes)
  pub chains : AreChains tables (live_at between)
  pub parts_are : HoldParts tables (live_at between) (all_parts (values_of old) (parts bytes))
  pub stay : Stay between new.region
