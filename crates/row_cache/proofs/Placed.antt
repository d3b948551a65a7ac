-- A row is written into a new object.
use Rattle.std.proofs.Common.{◌≡◌, ℕ, ◌+◌, ◌-◌, ◌%◌, ◌≤◌, inl, inr, List, length, Option, Some, None, refl, sym, ap, subst, ◌∙◌, arith}
use Rattle.std.specs.Prelude.{option_map, slice_index}
use Rattle.std.proofs.lemmas.Bool.Decides.{leb_tells}
use Rattle.std.proofs.lemmas.List.{get_or-set_same, set_past}
use Rattle.std.specs.List.{sum}
use Rattle.layout.specs.Sizes.{segment}
use Rattle.regions.specs.Segments.{RegionState}
use Rattle.regions.specs.Shapes.{Shape, active_in, active_of, shape}
use Rattle.regions.specs.Counts.{left, left_of, plus, used_counts}
use Rattle.regions.specs.Contents.{Item, Standing, ChangesAt, dead, item_if_live, holding, live_at, standing_at}
use Rattle.regions.specs.declared.place.Place.{Place}
use Rattle.row_bytes.specs.Rows.{row_in}
use Rattle.row_cache.specs.Rows.{AreGrouped, group_for, item_at, Stay}
use Rattle.row_cache.specs.inside.Tables.{Adds}
use Rattle.row_cache.proofs.States.{some_none, some_same, place_cases}

pub object_added : (r s : RegionState) (p : Place) (group : Option ℕ) (kind : ℕ) (ws : List ℕ) → ChangesAt p (Some (holding group kind ws)) r s → standing_at r p ≡ None
    → Adds p (record { group = group; kind = kind; content = ws }) (live_at r) (live_at s)
object_added r s p group kind ws change unused = record {
  absent = ap item_if_live unused;
  here = ap item_if_live change.here;
  others = λ q far. ap item_if_live (change.others q far);
}

pub object_stays : (r s : RegionState) (p : Place) (a : Option Standing) → ChangesAt p a r s → standing_at r p ≡ None → Stay r s
object_stays r s p a change unused = λ q i e. elim (place_cases q p) [
  | inl same ↦ some_none (sym (ap (λ y. item_at r y) same) ∙ e) (ap (option_map (λ (x : Standing). x.item)) unused)
  | inr far ↦ (i, ap (option_map (λ (x : Standing). x.item)) (change.others q far) ∙ e, inl refl)
]

-- ---- what is left of the active segment

fewer_left : (used : List ℕ) (n size : ℕ) → sum (plus n size used) ≡ sum used + size → 1 ≤ size → size ≤ segment - slice_index used n
    → (segment - slice_index (plus n size used) n) + size ≡ segment - slice_index used n
fewer_left used n size total some room = elim (leb_tells (length used) n) [
  | inl past ↦ absurd (let same : sum (plus n size used) ≡ sum used = ap (λ xs. sum xs) (set_past used n (slice_index used n + size) past.1) in omega (arith, same, total, some))
  | inr inside ↦ (let e : slice_index (plus n size used) n ≡ slice_index used n + size = get_or-set_same used n (slice_index used n + size) 0 inside.1 in omega (arith, e, room))
]

pub left_added : (r s : RegionState) (g n size : ℕ) → active_of r g ≡ Some n → active_of s g ≡ active_of r g → used_counts s ≡ plus n size (used_counts r)
    → sum (used_counts s) ≡ sum (used_counts r) + size → 1 ≤ size → size ≤ left r g → left s g + size ≡ left r g
left_added r s g n size active same used total some room =
    let was : left r g ≡ left_of (used_counts r) (Some n) = ap (left_of (used_counts r)) active in
    let now : left s g ≡ left_of (plus n size (used_counts r)) (Some n) = ap (left_of (used_counts s)) (same ∙ active) ∙ ap (λ u. left_of u (Some n)) used in
    let e = fewer_left (used_counts r) n size (sym (ap (λ u. sum u) used) ∙ total) some (omega (arith, was, room)) in
    omega (arith, was, now, e)

pub left_kept : (r s : RegionState) → used_counts s ≡ used_counts r → shape s ≡ shape r → (g : ℕ) → left s g ≡ left r g
left_kept r s used same g = ap (λ u. left_of u (active_of s g)) used ∙ ap (λ (x : Shape). left_of (used_counts r) (active_in x.groups g)) same

pub stays_same : (r s : RegionState) → s ≡ r → Stay r s
stays_same r s same = λ p i e. (i, ap (λ (y : RegionState). item_at y p) same ∙ e, inl refl)

-- a live object that is dead from now on stays
item_dead : (o : Option Standing) → option_map (λ (x : Standing). x.item) (option_map dead o) ≡ option_map (λ (x : Standing). x.item) o
item_dead None = refl
item_dead (Some s) = refl

pub killed_stays : (r s : RegionState) (p : Place) → ChangesAt p (option_map dead (standing_at r p)) r s → Stay r s
killed_stays r s p change = λ q i e. elim (place_cases q p) [
  | inl same ↦
      (i, ap (λ x. item_at s x) same ∙ (ap (option_map (λ (x : Standing). x.item)) change.here ∙ (item_dead (standing_at r p) ∙ (sym (ap (λ x. item_at r x) same) ∙ e))), inl refl)
  | inr far ↦ (i, ap (option_map (λ (x : Standing). x.item)) (change.others q far) ∙ e, inl refl)
]

-- ---- the groups of rows

-- where a row of its table's group comes
pub grouped_added : (r s : RegionState) (p : Place) (item : Item) → Adds p item (live_at r) (live_at s) → shape s ≡ shape r
    → item.group ≡ Some (group_for r (row_in item.content).key.table) → AreGrouped r → AreGrouped s
grouped_added r s p item adds same group all = λ q i e. elim (place_cases q p) [
  | inl here ↦
      (let is : item ≡ i = some_same adds.here (sym (ap (live_at s) here) ∙ e) in
      subst (λ (x : Item). x.group ≡ Some (group_for s (row_in x.content).key.table)) is
      (group ∙ ap (λ (x : Shape). Some ((row_in item.content).key.table % length x.groups)) (sym same)))
  | inr far ↦ all q i (sym (adds.others q far) ∙ e) ∙ ap (λ (x : Shape). Some ((row_in i.content).key.table % length x.groups)) (sym same)
]

none_dead : (o : Option Standing) → item_if_live (option_map dead o) ≡ None
none_dead None = refl
none_dead (Some s) = refl

-- where one goes
pub grouped_killed : (r s : RegionState) (p : Place) → ChangesAt p (option_map dead (standing_at r p)) r s → shape s ≡ shape r → AreGrouped r → AreGrouped s
grouped_killed r s p change same all = λ q i e. elim (place_cases q p) [
  | inl here ↦ some_none (sym (ap (live_at s) here) ∙ e) (ap item_if_live change.here ∙ none_dead (standing_at r p))
  | inr far ↦
      all q i (sym (ap item_if_live (change.others q far)) ∙ e) ∙ ap (λ (x : Shape). Some ((row_in i.content).key.table % length x.groups)) (sym same)
]
