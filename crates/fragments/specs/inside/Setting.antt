-- How a value is set: it is written beside all that are there, and then the old one of its name is dropped.
use Rattle.std.specs.Prelude.{◌≡◌, ◌≢◌, ℕ, ◌+◌, ◌≤◌, List, [], length}
use Rattle.regions.specs.Segments.{RegionState}
use Rattle.regions.specs.Shapes.{shape, free_count}
use Rattle.regions.specs.Counts.{live_total}
use Rattle.regions.specs.Contents.{live_at}
use Rattle.fragments.specs.Sizes.{size}
use Rattle.fragments.specs.Chains.{TableState, AreChains, HoldParts, Parts, parts}
use Rattle.segmented_store.specs.Segments.{HoldsSegments}
use Rattle.fragments.specs.Store.{IsRegion, Stay}
use Rattle.fragments.specs.inside.Consistent.{AreEntries, size_of_parts}

-- The value that is being written has these bytes now. Those of the names are as they were, and the segments are those that
-- were there.
pub record Writes (t u : TableState) (r s : RegionState) (name : ℕ) (bytes : List ℕ) : Type 0 where
  pub chains : AreChains u (live_at s)
  pub parts_are : (all more : Parts) → HoldParts t (live_at r) all → all t.names ≡ [] → more t.names ≡ parts bytes
      → ((e : ℕ) → e ≢ t.names → more e ≡ all e) → HoldParts u (live_at s) more
  pub names : u.names ≡ t.names
  pub grows : u.grows ≡ name
  pub total : live_total s ≡ live_total r + size (length bytes)
  pub free : 1 ≤ free_count s
  pub segments : HoldsSegments r s
  pub facts : IsRegion s

-- The value that was written is the name's, whose old one is dropped: no other changes, and no fragment moved.
pub record Replaces (t u : TableState) (r s : RegionState) (name : ℕ) : Type 0 where
  pub chains : AreChains u (live_at s)
  pub parts_are : (all replaced : Parts) → HoldParts t (live_at r) all → replaced name ≡ all t.names → replaced t.names ≡ []
      → ((e : ℕ) → e ≢ name → e ≢ t.names → replaced e ≡ all e) → HoldParts u (live_at s) replaced
  pub entries : AreEntries u
  pub names : u.names ≡ t.names
  pub total : (all : Parts) → HoldParts t (live_at r) all → live_total s + size_of_parts (all name) ≡ live_total r
  pub shape_is : shape s ≡ shape r
  pub stay : Stay r s

-- the one, and then the other
pub record Sets (t u : TableState) (r s : RegionState) (name : ℕ) (bytes : List ℕ) : Type 0 where
  pub tables : TableState
  pub between : RegionState
  pub written : Writes t tables r between name bytes
  pub replaced : Replaces tables u between s name
