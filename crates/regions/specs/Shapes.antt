-- The shape of a region: which segments it holds, which piece each is, and which of them are free, or closed or active in a group.
use Rattle.std.specs.Prelude.{◌≡◌, ℕ, ◌<◌, Bool, true, false, not, ◌&&◌, ◌==◌, List, length, Option, None, Some, is_some, slice_index_or, slice_set, map, option_map}
use Rattle.std.specs.List.{count_by}
use denote.RawPtr.{Ptr}
use Rattle.raw_range.specs.Memory.{Lent}
use Rattle.regions.specs.Segments.{SegmentState, GroupState, RegionState, group_at}

-- which memory a piece is: its place, length, owner and range
pub record Identity : Type 0 where
  pub home : Ptr
  pub owner : ℕ
  pub at : ℕ
  pub length : ℕ

abbrev pub identity : Lent → Identity
identity p = record { home = p.home; owner = p.owner; at = p.at; length = length p.bytes }

-- a segment apart from its objects
pub record Slot : Type 0 where
  pub piece : Identity
  pub group : Option ℕ

pub record Shape : Type 0 where
  pub most : ℕ
  pub groups : List GroupState
  pub slots : List (Option Slot)

abbrev pub slot_of : SegmentState → Slot
slot_of h = record { piece = identity h.piece; group = h.group }

abbrev pub slots_of : List (Option SegmentState) → List (Option Slot)
slots_of segments = map (λ s. option_map slot_of s) segments

abbrev pub shape : RegionState → Shape
shape r = record { most = r.most; groups = r.groups; slots = slots_of r.segments }

abbrev pub group_count : RegionState → ℕ
group_count r = length (shape r).groups

-- the region has a group with the number
abbrev pub HasGroup : RegionState → ℕ → Type 0
HasGroup r g = g < group_count r

-- the number of the active segment of a group, and how many guards stand on it
abbrev pub active_in : List GroupState → ℕ → Option ℕ
active_in groups g = (group_at groups g).active

abbrev pub active_of : RegionState → ℕ → Option ℕ
active_of r g = active_in (shape r).groups g

abbrev pub guards_of : RegionState → ℕ → ℕ
guards_of r g = (group_at (shape r).groups g).guards

-- fewer guards than these stand on a group at once
abbrev pub most_guards : ℕ
most_guards = 1000000

-- no group has a guard
abbrev pub IsUnguarded : RegionState → Type 0
IsUnguarded r = (g : ℕ) → guards_of r g ≡ 0

abbrev pub slot_at : List (Option Slot) → ℕ → Option Slot
slot_at slots n = slice_index_or slots n None

-- the pieces that the region holds, by number
abbrev pub pieces_in : List (Option Slot) → List (Option Identity)
pieces_in slots = map (λ s. option_map (λ (b : Slot). b.piece) s) slots

abbrev pub pieces : RegionState → List (Option Identity)
pieces r = pieces_in (shape r).slots

abbrev pub is_held : Option Slot → Bool
is_held None = false
is_held (Some b) = true

-- the group in which a segment is closed or active
abbrev pub group_in : Option Slot → Option ℕ
group_in None = None
group_in (Some b) = b.group

abbrev pub group_of : RegionState → ℕ → Option ℕ
group_of r n = group_in (slot_at (shape r).slots n)

abbrev pub is_free : Option Slot → Bool
is_free None = false
is_free (Some b) = not (is_some b.group)

-- it is held and not free
abbrev pub is_begun : Option Slot → Bool
is_begun s = is_some (group_in s)

-- the number is the one that is there
abbrev pub is_number : Option ℕ → ℕ → Bool
is_number None n = false
is_number (Some m) n = n == m

-- a segment of a group that is not the group's active one is closed
abbrev pub is_closed_of : List GroupState → Option ℕ → ℕ → Bool
is_closed_of groups None n = false
is_closed_of groups (Some g) n = not (is_number (active_in groups g) n)

abbrev pub is_closed : List GroupState → List (Option Slot) → ℕ → Bool
is_closed groups slots n = is_closed_of groups (group_in (slot_at slots n)) n

-- it is closed in the group with the number
abbrev pub is_closed_in : List GroupState → List (Option Slot) → ℕ → ℕ → Bool
is_closed_in groups slots g n = is_number (group_in (slot_at slots n)) g && not (is_number (active_in groups g) n)

-- how many guards stand on the group of a segment, and none where it is free
abbrev pub guards_in : List GroupState → Option ℕ → ℕ
guards_in groups None = 0
guards_in groups (Some g) = (group_at groups g).guards

abbrev pub guards_at : RegionState → ℕ → ℕ
guards_at r n = guards_in (shape r).groups (group_of r n)

-- how many segments are held, and how many are free
abbrev pub held_count : RegionState → ℕ
held_count r = count_by is_held (shape r).slots

abbrev pub free_count : RegionState → ℕ
free_count r = count_by is_free (shape r).slots

abbrev pub IsHeld : RegionState → ℕ → Type 0
IsHeld r n = is_held (slot_at (shape r).slots n) ≡ true

abbrev pub IsFree : RegionState → ℕ → Type 0
IsFree r n = is_free (slot_at (shape r).slots n) ≡ true

abbrev pub IsClosed : RegionState → ℕ → Type 0
IsClosed r n = is_closed (shape r).groups (shape r).slots n ≡ true

abbrev pub IsClosedIn : RegionState → ℕ → ℕ → Type 0
IsClosedIn r g n = is_closed_in (shape r).groups (shape r).slots g n ≡ true

-- the number of the free segment is the least, or the greatest
abbrev pub IsLeastFree : RegionState → ℕ → Type 0
IsLeastFree r n = IsFree r n × ((m : ℕ) → m < n → ¬ IsFree r m)

abbrev pub IsGreatestFree : RegionState → ℕ → Type 0
IsGreatestFree r n = IsFree r n × ((m : ℕ) → n < m → ¬ IsFree r m)

abbrev pub IsGreatestHeld : RegionState → ℕ → Type 0
IsGreatestHeld r n = IsHeld r n × ((m : ℕ) → n < m → ¬ IsHeld r m)

abbrev pub IsLeastUnused : RegionState → ℕ → Type 0
IsLeastUnused r n = (n < r.most) × (¬ IsHeld r n) × ((m : ℕ) → m < n → IsHeld r m)

-- the free segment with the number is the active one of the group from now on, and the one before is closed
abbrev pub activated : ℕ → ℕ → Shape → Shape
activated g n s =
    record s {
      groups = slice_set s.groups g (record { active = Some n; guards = (group_at s.groups g).guards });
      slots = slice_set s.slots n (option_map (λ (b : Slot). record b { group = Some g }) (slot_at s.slots n));
    }

-- the segment with the number is free from now on
abbrev pub freed : ℕ → Shape → Shape
freed n s = record s { slots = slice_set s.slots n (option_map (λ (b : Slot). record b { group = None }) (slot_at s.slots n)) }
