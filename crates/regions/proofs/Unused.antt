-- A region without segments, and one whose segments are all free.
use Rattle.std.proofs.Common.{◌≡◌, ℕ, zero, suc, ◌<◌, ◌≤◌, Bool, false, cond, List, ◌∷◌, length, replicate, map, refl, sym, ap, ◌∙◌, subst, arith, get_or}
use Rattle.std.specs.Prelude.{Option, None, Some, option_map, slice_index}
use Rattle.std.proofs.lemmas.List.{length-map, length-replicate}
use Rattle.layout.specs.Sizes.{most_segments}
use Rattle.regions.specs.Segments.{SegmentState, idle, emptied}
use Rattle.regions.specs.Shapes.{Slot, slot_of, slots_of, slot_at, group_in, active_in, is_held, is_free, is_begun}
use Rattle.regions.specs.Counts.{used_in, live_in_each}
use Rattle.regions.specs.inside.Consistent.{GroupFields, states, fields_at, unused, not_closed}
use Rattle.regions.proofs.Updates.{slot-is, used-is, live-is}
use Rattle.regions.proofs.Groups.{none-there, closed-parts, open-of}
use Rattle.regions.proofs.Regions.{Fields, live-none}

none-there-at : (most m : ℕ) → get_or (replicate most (let s : Option SegmentState = None in s)) m None ≡ None
none-there-at zero m = refl
none-there-at (suc most) zero = refl
none-there-at (suc most) (suc m) = none-there-at most m

in-replicate : (most m x : ℕ) → m < most → slice_index (replicate most x) m ≡ x
in-replicate zero m x w = absurd (omega (arith, w))
in-replicate (suc most) zero x w = refl
in-replicate (suc most) (suc m) x w = in-replicate most m x (omega (arith, w))

-- groups of which no segment is
pub record AreUnused (most : ℕ) (groups : List GroupFields) : Type 0 where
  pub some_group : 1 ≤ length groups
  pub few_groups : length groups ≤ 8
  pub active : (g : ℕ) → active_in (states groups) g ≡ None
  pub table : (g : ℕ) → g < length groups → (fields_at groups g).table ≡ replicate most not_closed

-- fields that say that nothing is begun
pub nothing-begun : (most : ℕ) (groups : List GroupFields) (segs : List (Option SegmentState)) → most ≤ most_segments → length segs ≡ most → AreUnused most groups
    → ((m : ℕ) → (used_in (get_or segs m None) ≡ 0) × (is_begun (option_map slot_of (get_or segs m None)) ≡ false))
    → Fields most groups (map is_held (slots_of segs)) (map is_free (slots_of segs)) segs
nothing-begun most groups segs few long free unbegun =
    let none : (m : ℕ) → group_in (slot_at (slots_of segs) m) ≡ None = λ m. ap group_in (slot-is segs m) ∙ none-there (group_in (option_map slot_of (get_or segs m None))) (unbegun m).1 in
    record {
      long = length-map segs (λ s. option_map slot_of s) ∙ long;
      few = few;
      some_group = free.some_group;
      few_groups = free.few_groups;
      held = refl;
      free = refl;
      active = λ g m e. absurd (let clash : None ≡ Some m = sym (free.active g) ∙ e in cc);
      begins = λ g m e. absurd (let clash : None ≡ Some g = sym (none m) ∙ e in cc);
      empty = λ m e. (used-is segs m ∙ (unbegun m).0, live-is segs m ∙ live-none (get_or segs m None) (unbegun m).0);
      full = λ m e. absurd (let clash : None ≡ Some (closed-parts (states groups) (slots_of segs) m e).0 = sym (none m) ∙ (closed-parts (states groups) (slots_of segs) m e).1 in cc);
      tabled = λ g w. ap length (free.table g w) ∙ length-replicate most not_closed;
      table = λ g m w v.
          ap (λ t. slice_index t m) (free.table g w) ∙ in-replicate most m not_closed v
          ∙ sym (ap (λ b. cond b (slice_index (live_in_each segs) m) not_closed) (open-of (states groups) (slots_of segs) g m None (none m) refl));
      active_live = λ g m e. absurd (let clash : None ≡ Some m = sym (free.active g) ∙ e in cc);
    }

none-in : (p : Option Slot → Bool) (most : ℕ) → p None ≡ false → map p (slots_of (replicate most None)) ≡ replicate most false
none-in p zero e = refl
none-in p (suc most) e = ap (λ b. b ∷ map p (slots_of (replicate most None))) e ∙ ap (λ l. false ∷ l) (none-in p most e)

in-groups : (count most g : ℕ) → g < count → fields_at (replicate count (unused most)) g ≡ unused most
in-groups zero most g w = absurd (omega (arith, w))
in-groups (suc count) most zero w = refl
in-groups (suc count) most (suc g) w = in-groups count most g (omega (arith, w))

none-active : (count most g : ℕ) → active_in (states (replicate count (unused most))) g ≡ None
none-active zero most g = refl
none-active (suc count) most zero = refl
none-active (suc count) most (suc g) = none-active count most g

pub new-unused : (most count : ℕ) → 1 ≤ count → count ≤ 8 → AreUnused most (replicate count (unused most))
new-unused most count some few =
    let long : length (replicate count (unused most)) ≡ count = length-replicate count (unused most) in record {
      some_group = omega (arith, some, long);
      few_groups = omega (arith, few, long);
      active = none-active count most;
      table = λ g w. ap (λ (f : GroupFields). f.table) (in-groups count most g (omega (arith, w, long)));
    }

pub new-states : (most count : ℕ) → states (replicate count (unused most)) ≡ replicate count idle
new-states most zero = refl
new-states most (suc count) = ap (λ gs. idle ∷ gs) (new-states most count)

pub new-fields : (most count : ℕ) → most ≤ most_segments → 1 ≤ count → count ≤ 8 → Fields most (replicate count (unused most)) (replicate most false) (replicate most false) (replicate most None)
new-fields most count few some-groups few-groups =
    let segs : List (Option SegmentState) = replicate most None in
    let groups : List GroupFields = replicate count (unused most) in
    subst (λ h. Fields most groups h (replicate most false) segs) (none-in is_held most refl)
    (subst (λ f. Fields most groups (map is_held (slots_of segs)) f segs) (none-in is_free most refl)
    (nothing-begun most groups segs few (length-replicate most None) (new-unused most count some-groups few-groups)
    (λ m. (ap used_in (none-there-at most m), ap (λ s. is_begun (option_map slot_of s)) (none-there-at most m)))))

pub emptied-used : (s : Option SegmentState) → used_in (option_map emptied s) ≡ 0
emptied-used None = refl
emptied-used (Some h) = refl

pub emptied-unbegun : (s : Option SegmentState) → is_begun (option_map slot_of (option_map emptied s)) ≡ false
emptied-unbegun None = refl
emptied-unbegun (Some h) = refl
