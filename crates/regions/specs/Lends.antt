-- What a segment and a region end as, once a `&mut` to the content of an object has ended.
use Rattle.std.specs.Prelude.{ℕ, ◌+◌, ◌-◌, List, option_map}
use Rattle.std.specs.List.{refill}
use Rattle.std.specs.Borrow.{Fml, MutBor, Array, Lends, u8}
use Rattle.layout.specs.Sizes.{descriptor}
use Rattle.object_log.specs.Objects.{descriptor_at, content_at}
use Rattle.raw_range.specs.Memory.{written}
use Rattle.regions.specs.Segments.{SegmentState, RegionState, segment_at, with_segment}
use Rattle.regions.specs.declared.place.Place.{Place}
use Rattle.regions.specs.contracts.region.Region.{the_row}

-- the bytes of a segment, where ws is left as the content of the object of that size at the offset. Where ws has another
-- length it is cut, or filled up from what was there
abbrev pub bytes_with : ℕ → ℕ → List ℕ → List ℕ → List ℕ
bytes_with at size ws bytes = written bytes (at + descriptor) (refill (size - descriptor) (content_at at size bytes) ws)

-- a segment, where ws is left as the content of the object at the offset
abbrev pub segment_with : ℕ → List ℕ → SegmentState → SegmentState
segment_with at ws h = record h { piece = record h.piece { bytes = bytes_with at (descriptor_at h.piece.bytes at).size ws h.piece.bytes } }

-- a region, where ws is left as the content of the object at the place
unfoldable pub with_content : RegionState → Place → List ℕ → RegionState
with_content r p ws = with_segment r p.segment (option_map (segment_with p.at ws) (segment_at r p.segment))

-- what was last written through b is the content of the object at the place
abbrev pub LendsContent : MutBor RegionState → Place → MutBor (List ℕ) → Fml
LendsContent r p b = Lends the_row (Array u8 0) r b (with_content r.now p)
