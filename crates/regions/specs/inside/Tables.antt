-- A table of segments, of which one is taken out.
use Rattle.std.specs.Prelude.{◌≡◌, ℕ, ◌+◌, ◌≤◌, List, Option, None, Some, slice_index_or, slice_set}
use Rattle.layout.specs.Sizes.{segment}
use Rattle.regions.specs.Segments.{SegmentState}
use Rattle.regions.specs.Shapes.{slot_of}
use Rattle.regions.specs.Counts.{live_in}
use Rattle.regions.specs.Contents.{Item, Standing, standing_in, holding, ChangesIn}
use Rattle.regions.specs.declared.place.Place.{Place}

-- what stands at a place, once the segment is back in the table at the number
abbrev pub standing_with : List (Option SegmentState) → ℕ → SegmentState → Place → Option Standing
standing_with slots n target p = standing_in (slice_index_or (slice_set slots n (Some target)) p.segment None) p.at

-- the segment with the number has one object more, at its end: one of the kind and the size with the content of a live one
pub record HasCopy (slots new : List (Option SegmentState)) (n at : ℕ) (source : Option Item) (kind size : ℕ) : Type 0 where
  pub item : Item
  pub is_source : source ≡ Some item
  pub was : SegmentState
  pub now : SegmentState
  pub there : slice_index_or slots n None ≡ Some was
  pub set : new ≡ slice_set slots n (Some now)
  pub at_end : at ≡ was.used
  pub slot : slot_of now ≡ slot_of was
  pub used : now.used ≡ was.used + size
  pub live : live_in (Some now) ≡ live_in (Some was) + size
  pub inside : live_in (Some now) ≤ segment
  pub unused : standing_in (Some was) at ≡ None
  pub added : ChangesIn at (Some (holding was.group kind item.content)) (Some was) (Some now)
