-- What contracts see of a region and of its segments.
use Rattle.std.specs.Prelude.{ℕ, List, Option, None, slice_index_or, slice_set, map, option_map, refl}
use Rattle.std.specs.Coded.{Coded, code_by, coded×, coded_ℕ, coded_list, coded_option}
use Rattle.raw_range.specs.Memory.{Lent, lent_code}

-- a segment: its piece of memory, in which objects end at the byte `used`, and the group in which it is closed or active, if it is
-- not free
pub record SegmentState : Type 0 where
  pub piece : Lent
  pub used : ℕ
  pub group : Option ℕ

-- a group: the number of its active segment, and how many guards stand
pub record GroupState : Type 0 where
  pub active : Option ℕ
  pub guards : ℕ

-- a region: its groups and the segments that it holds, both by number
pub record RegionState : Type 0 where
  pub most : ℕ
  pub groups : List GroupState
  pub segments : List (Option SegmentState)

-- the three are stored as the tuples of their fields
abbrev pub segment_code : Coded SegmentState
segment_code =
    code_by (Lent × (ℕ × Option ℕ)) (coded× lent_code (coded× coded_ℕ (coded_option coded_ℕ))) (λ h. (h.piece, (h.used, h.group)))
    (λ t. record { piece = t.0; used = t.1.0; group = t.1.1 }) (λ _. refl)

abbrev pub group_code : Coded GroupState
group_code = code_by (Option ℕ × ℕ) (coded× (coded_option coded_ℕ) coded_ℕ) (λ g. (g.active, g.guards)) (λ t. record { active = t.0; guards = t.1 }) (λ _. refl)

abbrev pub region_code : Coded RegionState
region_code =
    code_by (ℕ × (List GroupState × List (Option SegmentState))) (coded× coded_ℕ (coded× (coded_list group_code) (coded_list (coded_option segment_code))))
    (λ r. (r.most, (r.groups, r.segments))) (λ t. record { most = t.0; groups = t.1.0; segments = t.1.1 }) (λ _. refl)

-- a group without segments and without guards
abbrev pub idle : GroupState
idle = record { active = None; guards = 0 }

abbrev pub group_at : List GroupState → ℕ → GroupState
group_at groups g = slice_index_or groups g idle

-- the segment with the number, if it is held
abbrev pub segment_at : RegionState → ℕ → Option SegmentState
segment_at r n = slice_index_or r.segments n None

-- the region with another segment, or none, at the number
abbrev pub with_segment : RegionState → ℕ → Option SegmentState → RegionState
with_segment r n s = record r { segments = slice_set r.segments n s }

-- the region with so many guards on the group
abbrev pub with_guards : RegionState → ℕ → ℕ → RegionState
with_guards r g guards = record r { groups = slice_set r.groups g (record { active = (group_at r.groups g).active; guards = guards }) }

-- a free segment on the piece
abbrev pub fresh : Lent → SegmentState
fresh piece = record { piece = piece; used = 0; group = None }

-- a segment without objects
abbrev pub emptied : SegmentState → SegmentState
emptied h = record h { used = 0; group = None }

-- the group without an active segment
abbrev pub ended : GroupState → GroupState
ended g = record g { active = None }

-- the region with every segment free
abbrev pub all_emptied : RegionState → RegionState
all_emptied r = record r { groups = map ended r.groups; segments = map (λ s. option_map emptied s) r.segments }
