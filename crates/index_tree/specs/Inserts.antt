-- What the insertion of a key makes of a subtree: a row of one or two subtrees that stand in its place.
use Rattle.std.specs.Prelude.{◌≡◌, ◌≢◌, ◌<◌, ⊤, ℕ, ◌+◌, ◌≤◌, cond, List, [], ◌∷◌, ◌++◌, All, length, map, Option, None, Some}
use Rattle.std.specs.List.{flat_map}
use Rattle.regions.specs.Segments.{RegionState}
use Rattle.regions.specs.Contents.{live_at}
use Rattle.regions.specs.Stores.{Live, SameBut, is_place}
use Rattle.regions.specs.declared.place.Place.{Place}
use Rattle.tree_nodes.specs.Nodes.{Entry, IsEntry, no_place}
use Rattle.index_tree.specs.Indexes.{with_number}
use Rattle.regions.specs.Places.{HasRoom, link_to}
use Rattle.index_tree.specs.Links.{Nodes}
use Rattle.index_tree.specs.Limits.{fewest_entries}
use Rattle.index_tree.specs.Store.{HoldsNode, nodes_of}
use Rattle.index_tree.specs.Trees.{IsFrom, IsSubtree, IsUpTo, entries_of, held_below, leaves_below, next_at, nodes_below}
use Rattle.index_tree.specs.Writes.{blank}

-- a further subtree in a row, and the entry between it and the one on its left
pub record Branch : Type 0 where
  pub entry : Entry
  pub place : Place

abbrev pub entry_of : Branch → Entry
entry_of b = b.entry

abbrev pub place_in : Branch → Place
place_in b = b.place

-- the places of a row are subtrees, each between the keys beside it
abbrev pub Row : Nodes → ℕ → Option Place → Option (List ℕ) → Place → List Branch → Option (List ℕ) → Type 0
Row nodes level parent low first [] high = IsSubtree nodes level parent low high first
Row nodes level parent low first (b ∷ bs) high = IsSubtree nodes level parent low (Some b.entry.key) first × Row nodes level parent (Some b.entry.key) b.place bs high

-- what is gathered of each place of a row
abbrev pub of_row : {A : Type 0} → (Option Place → List A) → Place → List Branch → List A
of_row g first bs = g (Some first) ++ flat_map (λ (b : Branch). g (Some b.place)) bs

-- how often a place is in a list
abbrev pub times : Place → List Place → ℕ
times p [] = 0
times p (q ∷ qs) = cond (is_place p q) 1 0 + times p qs

-- each leaf has the place of the one behind it, and the last one has the given number
abbrev pub first_link : List Place → ℕ → ℕ
first_link [] end = end
first_link (p ∷ ps) end = link_to (Some p)

abbrev pub AreChained : Nodes → List Place → ℕ → Type 0
AreChained nodes [] end = ⊤
AreChained nodes (p ∷ ps) end = (next_at nodes p ≡ first_link ps end) × AreChained nodes ps end

-- an entry between two subtrees
abbrev pub IsSeparator : Branch → Type 0
IsSeparator b = IsEntry b.entry × (b.entry.number ≡ 0)

-- One row became another: the new one holds the key with its number beside all else, its leaves are in order as they were, and
-- its nodes are those that were there and the places that were used.
pub record Spread (nodes new : Nodes) (level : ℕ) (parent : Option Place) (low high : Option (List ℕ)) (first : Place) (bs cs : List Branch)
    (key : List ℕ) (number : ℕ) (used : List Place) : Type 0 where
  pub row : Row new level parent low first cs high
  pub held : of_row (held_below new level) first cs ≡ with_number key number (of_row (held_below nodes level) first bs)
  pub first_leaf : (end : ℕ) → first_link (of_row (leaves_below new level) first cs) end ≡ first_link (of_row (leaves_below nodes level) first bs) end
  pub chained : (end : ℕ) → AreChained nodes (of_row (leaves_below nodes level) first bs) end → AreChained new (of_row (leaves_below new level) first cs) end
  pub places : (r : Place) → times r (of_row (nodes_below new level) first cs) ≡ times r (of_row (nodes_below nodes level) first bs) + times r used

-- A subtree became such a row: where it is two, each root has as many entries as one below another node; and no node changed
-- but those of the subtree and those used.
pub record Grows (nodes new : Nodes) (level : ℕ) (parent : Option Place) (low high : Option (List ℕ)) (p : Place) (cs : List Branch)
    (key : List ℕ) (number : ℕ) (used : List Place) : Type 0 where
  pub spread : Spread nodes new level parent low high p [] cs key number used
  pub separators : All IsSeparator cs
  pub many : cs ≢ [] → All (λ r. fewest_entries ≤ length (entries_of (new r))) (p ∷ map place_in cs)
  pub others : (r : Place) → times r (nodes_below nodes level (Some p) ++ used) ≡ 0 → new r ≡ nodes r

-- so it is under whatever parent and between whatever bounds the subtree and the key stand
abbrev pub InsertsBelow : Nodes → Nodes → ℕ → Place → List Branch → List ℕ → ℕ → List Place → Type 0
InsertsBelow nodes new level p cs key number used =
    (parent : Option Place) (low high : Option (List ℕ)) → IsSubtree nodes level parent low high p
    → IsFrom low (record { key = key; number = number }) → IsUpTo high (record { key = key; number = number })
    → Grows nodes new level parent low high p cs key number used

-- ---- in the segments

-- The nodes at these places may have changed, and no other object; and no object has another group, kind or size.
pub record Touched (places : List Place) (old new : RegionState) : Type 0 where
  pub holds : All (HoldsNode (live_at new)) places
  pub others : (r : Place) → times r places ≡ 0 → live_at new r ≡ live_at old r
  pub same : SameBut blank old new

-- A key can be put in below a place: a subtree stands there, between two bounds that the key is between; every node below is
-- there once, and so is each of the spare nodes, of which there are more than levels.
pub record IsRoom (live : Live) (level : ℕ) (p : Place) (spares : List Place) (key : List ℕ) (number : ℕ) : Type 0 where
  pub parent : Option Place
  pub low : Option (List ℕ)
  pub high : Option (List ℕ)
  pub subtree : IsSubtree (nodes_of live) level parent low high p
  pub from : IsFrom low (record { key = key; number = number })
  pub up_to : IsUpTo high (record { key = key; number = number })
  pub below : All (HoldsNode live) (nodes_below (nodes_of live) level (Some p))
  pub spares_hold : All (HoldsNode live) spares
  pub rooms : All HasRoom spares
  pub once : (r : Place) → times r (nodes_below (nodes_of live) level (Some p) ++ spares) ≤ 1
  pub many : level < length spares

-- ---- the whole tree

-- A tree became another: it holds the key with its number beside all else, its leaves are in order as they were, its nodes are
-- those that were there and the places that were used, and no other node changed.
pub record Plants (nodes new : Nodes) (level : ℕ) (root : Option Place) (higher : ℕ) (top : Place) (key : List ℕ) (number : ℕ) (used : List Place) : Type 0 where
  pub rooted : IsSubtree new higher None None None top
  pub held : held_below new higher (Some top) ≡ with_number key number (held_below nodes level root)
  pub chained : AreChained nodes (leaves_below nodes level root) no_place → AreChained new (leaves_below new higher (Some top)) no_place
  pub places : (r : Place) → times r (nodes_below new higher (Some top)) ≡ times r (nodes_below nodes level root) + times r used
  pub others : (r : Place) → times r (nodes_below nodes level root ++ used) ≡ 0 → new r ≡ nodes r
