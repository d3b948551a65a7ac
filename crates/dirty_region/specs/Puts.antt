-- Where the puts of a dirty region stand, and what stands there.
use Rattle.std.specs.Prelude.{◌≡◌, ℕ, ◌+◌, ◌%◌, ◌^◌, ◌<◌, List, length, Option, Some, slice_get}
pub use Rattle.layout.specs.Kinds.{dirty_kind}
use Rattle.rows.specs.Row.{Row}
use Rattle.row_bytes.specs.Rows.{row_bytes}
use Rattle.row_bytes.specs.declared.links.Links.{Links}
use Rattle.regions.specs.Segments.{RegionState}
use Rattle.regions.specs.Contents.{Item, live_at}
use Rattle.regions.specs.declared.place.Place.{Place}

-- the links of a dirty put, which has no neighbours
abbrev pub unlinked : Links
unlinked = record { newer = 0; older = 0 }

-- the live object is of this kind, and its content is that of a row: the put, with its position for a number, and without links
pub record IsPut (live : Option Item) (position : ℕ) (put : Row) : Type 0 where
  pub item : Item
  pub is_live : live ≡ Some item
  pub kind : item.kind ≡ dirty_kind
  pub content : item.content ≡ row_bytes position unlinked put

-- the puts, oldest first, stand in the region, each at a place of its own, and nothing else lives there; the oldest has this position
pub record Stand (first : ℕ) (puts : List Row) (region : RegionState) : Type 0 where
  -- where the put with so many older ones stands
  pub place : ℕ → Place
  pub each : (older : ℕ) (put : Row) → slice_get puts older ≡ Some put
      → IsPut (live_at region (place older)) ((first + older) % 2 ^ 32) put
  pub apart : (j k : ℕ) → j < length puts → k < length puts → place j ≡ place k → j ≡ k
  pub every : (p : Place) (item : Item) → live_at region p ≡ Some item
      → (older : ℕ) × (older < length puts) × (place older ≡ p)
