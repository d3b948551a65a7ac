-- The bytes of each segment up to the end of its objects, and those of them that are live.
use Rattle.std.specs.Prelude.{ℕ, ◌+◌, ◌-◌, ◌==◌, cond, List, [], ◌∷◌, Option, None, Some, slice_index, slice_set, map}
use Rattle.std.specs.List.{sum}
use Rattle.layout.specs.Sizes.{segment}
use Rattle.object_log.specs.Objects.{Object, objects}
use Rattle.regions.specs.Segments.{SegmentState, RegionState}
use Rattle.regions.specs.Shapes.{active_of}

abbrev pub objects_in : SegmentState → List Object
objects_in h = objects h.piece.bytes h.used

-- the sum of the sizes of the live objects
abbrev pub live_bytes : List Object → ℕ
live_bytes [] = 0
live_bytes (o ∷ os) = cond (o.state == 1) o.size 0 + live_bytes os

abbrev pub used_in : Option SegmentState → ℕ
used_in None = 0
used_in (Some h) = h.used

abbrev pub live_in : Option SegmentState → ℕ
live_in None = 0
live_in (Some h) = live_bytes (objects_in h)

abbrev pub used_in_each : List (Option SegmentState) → List ℕ
used_in_each segments = map used_in segments

abbrev pub live_in_each : List (Option SegmentState) → List ℕ
live_in_each segments = map live_in segments

-- by number, where the objects of each segment end, and the sum of the sizes of its live objects
abbrev pub used_counts : RegionState → List ℕ
used_counts r = used_in_each r.segments

abbrev pub live_counts : RegionState → List ℕ
live_counts r = live_in_each r.segments

abbrev pub used_at : RegionState → ℕ → ℕ
used_at r n = slice_index (used_counts r) n

abbrev pub live_bytes_at : RegionState → ℕ → ℕ
live_bytes_at r n = slice_index (live_counts r) n

-- the sums over all segments
abbrev pub used_total : RegionState → ℕ
used_total r = sum (used_counts r)

abbrev pub live_total : RegionState → ℕ
live_total r = sum (live_counts r)

-- the counts, of which the one with the number is greater by k
abbrev pub plus : ℕ → ℕ → List ℕ → List ℕ
plus n k counts = slice_set counts n (slice_index counts n + k)

-- the bytes that the active segment of a group has left, or 0 where there is none
abbrev pub left_of : List ℕ → Option ℕ → ℕ
left_of used None = 0
left_of used (Some n) = segment - slice_index used n

abbrev pub left : RegionState → ℕ → ℕ
left r g = left_of (used_counts r) (active_of r g)
