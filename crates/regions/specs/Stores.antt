-- The unmoved store: a map from name to group, kind and content, in which nothing has a place.
use Rattle.std.specs.Prelude.{◌≡◌, ℕ, Bool, ◌&&◌, ◌==◌, cond, Option, None, Some, IsSome, option_map}
use Rattle.regions.specs.Segments.{RegionState}
use Rattle.regions.specs.Shapes.{shape}
use Rattle.regions.specs.Counts.{used_counts, live_counts}
use Rattle.regions.specs.Contents.{Item, Standing, size_of, standing_at}
use Rattle.regions.specs.declared.place.Place.{Place}

abbrev pub Store : Type 0 → Type 0
Store N = N → Option Item

-- the live objects of a region, by place
abbrev pub Live : Type 0
Live = Place → Option Item

-- an item without its reference fields, which its mover names
abbrev pub Bare : Type 0
Bare = Item → Item

-- it has the group and the kind of the item
abbrev pub LeavesTheRest : Bare → Type 0
LeavesTheRest bare = (i : Item) → ((bare i).group ≡ i.group) × ((bare i).kind ≡ i.kind)

-- live objects and a naming of places stand for a store: each name of the store has a place, at which an object of that
-- group, kind and content is live, its reference fields taken away; each name that has a place is one of the store; different
-- names have different places; and every live object is some name's
pub record StandsFor {N : Type 0} (bare : Bare) (store : Store N) (place_of : N → Option Place) (live : Live) : Type 0 where
  pub placed : (n : N) (i : Item) → store n ≡ Some i → (p : Place) × (place_of n ≡ Some p) × (option_map bare (live p) ≡ Some i)
  pub known : (n : N) (p : Place) → place_of n ≡ Some p → IsSome (store n)
  pub apart : (m n : N) (p : Place) → place_of m ≡ Some p → place_of n ≡ Some p → m ≡ n
  pub every : (p : Place) (i : Item) → live p ≡ Some i → (n : N) × (place_of n ≡ Some p) × (store n ≡ Some (bare i))

-- what the names of a naming have
abbrev pub found : Bare → Live → Option Place → Option Item
found bare live None = None
found bare live (Some p) = option_map bare (live p)

abbrev pub store_of : {N : Type 0} → Bare → (N → Option Place) → Live → Store N
store_of bare place_of live n = found bare live (place_of n)

-- the naming in which each live object is named by its place
abbrev pub itself : Live → Place → Option Place
itself live p = option_map (λ _. p) (live p)

abbrev pub is_place : Place → Place → Bool
is_place p q = (p.segment == q.segment) && (p.at == q.at)

-- the live objects less the one at the place
abbrev pub less : Place → Live → Live
less p live q = cond (is_place p q) None (live q)

-- the place that a name has once `to` stands for `from`
abbrev pub renamed : Place → Place → Place → Place
renamed from to p = cond (is_place from p) to p

-- an object without its reference fields, and its size
abbrev pub without_references : Bare → Standing → Bool × (Item × ℕ)
without_references bare s = (s.live, (bare s.item, size_of s.item))

-- nothing changed but reference fields
pub record SameBut (bare : Bare) (old new : RegionState) : Type 0 where
  pub objects : (p : Place) → option_map (without_references bare) (standing_at new p) ≡ option_map (without_references bare) (standing_at old p)
  pub used : used_counts new ≡ used_counts old
  pub live : live_counts new ≡ live_counts old
  pub shape : shape new ≡ shape old
