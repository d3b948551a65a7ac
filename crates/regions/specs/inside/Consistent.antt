-- What holds of the fields of a region.
use Rattle.std.specs.Prelude.{◌≡◌, ℕ, ◌-◌, ◌<◌, ◌≤◌, Bool, true, false, cond, nat_le, List, length, replicate, Option, None, Some, IsSome, slice_index, slice_index_or, slice_set, map, refl}
use Rattle.std.specs.Coded.{Coded, code_by, coded×, coded_ℕ, coded_list}
use Rattle.std.specs.List.{sum}
use Rattle.layout.specs.Sizes.{segment, dense, most_segments}
use Rattle.regions.specs.Segments.{GroupState, group_code, idle, ended}
use Rattle.regions.specs.Shapes.{Slot, slot_at, group_in, active_in, is_held, is_free, is_begun, is_number, is_closed, is_closed_in}

-- what the table of live bytes has for a segment that is not closed in its group
abbrev pub not_closed : ℕ
not_closed = 4294967295

-- the live bytes of a segment that is closed in the group
abbrev pub closed_live : List GroupState → List (Option Slot) → List ℕ → ℕ → ℕ → ℕ
closed_live groups slots live g n = cond (is_closed_in groups slots g n) (slice_index live n) not_closed

-- the table once the active segment, which has that many live bytes, is closed
abbrev pub with_closed : Option ℕ → ℕ → List ℕ → List ℕ
with_closed None live table = table
with_closed (Some n) live table = slice_set table n live

-- so few live bytes make a segment sparse
abbrev pub is_sparse : ℕ → Bool
is_sparse live = nat_le live dense

-- what a region keeps of a group: the live bytes of the active segment, and by number those of the closed ones
pub record GroupFields : Type 0 where
  pub state : GroupState
  pub live : ℕ
  pub table : List ℕ

abbrev pub fields_code : Coded GroupFields
fields_code =
    code_by (GroupState × (ℕ × List ℕ)) (coded× group_code (coded× coded_ℕ (coded_list coded_ℕ))) (λ f. (f.state, (f.live, f.table)))
    (λ t. record { state = t.0; live = t.1.0; table = t.1.1 }) (λ _. refl)

-- of a group without segments and without guards
abbrev pub unused : ℕ → GroupFields
unused most = record { state = idle; live = 0; table = replicate most not_closed }

abbrev pub fields_at : List GroupFields → ℕ → GroupFields
fields_at groups g = slice_index_or groups g (unused 0)

-- the segment with the number is the active one from now on, and the one before is closed
abbrev pub begun : ℕ → GroupFields → GroupFields
begun n f = record { state = record f.state { active = Some n }; live = 0; table = with_closed f.state.active f.live f.table }

-- an object of so many bytes is dead
abbrev pub lost : ℕ → ℕ → GroupFields → GroupFields
lost n size f =
    cond (is_number f.state.active n) (record f { live = f.live - size }) (record f { table = slice_set f.table n (slice_index f.table n - size) })

-- no segment is of the group any more
abbrev pub cleared : GroupFields → GroupFields
cleared f = record { state = ended f.state; live = 0; table = replicate (length f.table) not_closed }

abbrev pub states : List GroupFields → List GroupState
states groups = map (λ (f : GroupFields). f.state) groups

pub record IsConsistent (most : ℕ) (groups : List GroupFields) (now_held now_free : List Bool) (slots : List (Option Slot)) (used live : List ℕ) : Type 0 where
  pub long : length slots ≡ most
  pub few : most ≤ most_segments
  pub some_group : 1 ≤ length groups
  pub few_groups : length groups ≤ 8
  pub held : now_held ≡ map is_held slots
  pub free : now_free ≡ map is_free slots
  -- the active segment of a group is one of it, and a group with a segment has an active one
  pub active : (g n : ℕ) → active_in (states groups) g ≡ Some n → group_in (slot_at slots n) ≡ Some g
  pub begins : (g n : ℕ) → group_in (slot_at slots n) ≡ Some g → IsSome (active_in (states groups) g)
  pub empty : (n : ℕ) → is_begun (slot_at slots n) ≡ false → (slice_index used n ≡ 0) × (slice_index live n ≡ 0)
  pub full : (n : ℕ) → is_closed (states groups) slots n ≡ true → dense < slice_index used n
  pub tabled : (g : ℕ) → g < length groups → length (fields_at groups g).table ≡ most
  pub table : (g n : ℕ) → g < length groups → n < most → slice_index (fields_at groups g).table n ≡ closed_live (states groups) slots live g n
  pub active_live : (g n : ℕ) → active_in (states groups) g ≡ Some n → (fields_at groups g).live ≡ slice_index live n

-- the live bytes of all segments together, each of which has at most its own bytes live
pub record IsTotal (total : ℕ) (live : List ℕ) : Type 0 where
  pub summed : total ≡ sum live
  pub within : (n : ℕ) → slice_index live n ≤ segment
