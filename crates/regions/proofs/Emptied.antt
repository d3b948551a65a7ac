-- What emptying all segments leaves of a region.
use Rattle.std.proofs.Common.{◌≡◌, ℕ, zero, suc, ◌<◌, ◌≤◌, Bool, true, false, List, [], ◌∷◌, length, replicate, map, refl, sym, ap, ◌∙◌, subst, arith, get_or}
use Rattle.std.specs.Prelude.{Option, None, Some, option_map, slice_set}
use Rattle.std.specs.List.{count_by}
use Rattle.std.proofs.lemmas.List.{length-map, map-set}
use Rattle.std.proofs.Math.ListN.{get_or-map}
use Rattle.layout.specs.Sizes.{most_segments}
use Rattle.regions.specs.Segments.{SegmentState, RegionState, emptied, ended}
use Rattle.regions.specs.Shapes.{slot_of, slots_of, slot_at, active_in, is_held, is_free, is_begun}
use Rattle.regions.specs.Counts.{used_in, used_in_each, live_in_each}
use Rattle.regions.specs.inside.Consistent.{GroupFields, states, fields_at, cleared, not_closed}
use Rattle.number_set.specs.Numbers.{has, size}
use Rattle.regions.proofs.Numbers.{size-map, has-held}
use Rattle.regions.proofs.Updates.{slot-is}
use Rattle.regions.proofs.Groups.{held-within}
use Rattle.regions.proofs.Regions.{Fields, live-none}
use Rattle.regions.proofs.Unused.{AreUnused, nothing-begun, emptied-used, emptied-unbegun}

abbrev pub emptied-all : List (Option SegmentState) → List (Option SegmentState)
emptied-all segs = map (λ s. option_map emptied s) segs

pub emptied-at : (segs : List (Option SegmentState)) (m : ℕ) → get_or (emptied-all segs) m None ≡ option_map emptied (get_or segs m None)
emptied-at segs m = get_or-map (λ s. option_map emptied s) segs m None

-- each one that is held is held, and free
pub emptied-held-numbers : (segs : List (Option SegmentState)) → map is_held (slots_of (emptied-all segs)) ≡ map is_held (slots_of segs)
emptied-held-numbers [] = refl
emptied-held-numbers (None ∷ ss) = ap (λ l. false ∷ l) (emptied-held-numbers ss)
emptied-held-numbers (Some h ∷ ss) = ap (λ l. true ∷ l) (emptied-held-numbers ss)

pub emptied-free-numbers : (segs : List (Option SegmentState)) → map is_free (slots_of (emptied-all segs)) ≡ map is_held (slots_of segs)
emptied-free-numbers [] = refl
emptied-free-numbers (None ∷ ss) = ap (λ l. false ∷ l) (emptied-free-numbers ss)
emptied-free-numbers (Some h ∷ ss) = ap (λ l. true ∷ l) (emptied-free-numbers ss)

cleared-active : (groups : List GroupFields) (g : ℕ) → active_in (states (map cleared groups)) g ≡ None
cleared-active [] g = refl
cleared-active (f ∷ fs) zero = refl
cleared-active (f ∷ fs) (suc g) = cleared-active fs g

cleared-table : (groups : List GroupFields) (g : ℕ) → g < length groups → (fields_at (map cleared groups) g).table ≡ replicate (length (fields_at groups g).table) not_closed
cleared-table [] g w = absurd (omega (arith, w))
cleared-table (f ∷ fs) zero w = refl
cleared-table (f ∷ fs) (suc g) w = cleared-table fs g (omega (arith, w))

-- no segment is of a group once all are emptied
pub cleared-unused : (most : ℕ) (groups : List GroupFields) → 1 ≤ length groups → length groups ≤ 8 → ((g : ℕ) → g < length groups → length (fields_at groups g).table ≡ most) → AreUnused most (map cleared groups)
cleared-unused most groups some few long =
    let count = length-map groups cleared in record {
      some_group = omega (arith, some, count);
      few_groups = omega (arith, few, count);
      active = cleared-active groups;
      table = λ g w. (let v : g < length groups = omega (arith, w, count) in cleared-table groups g v ∙ ap (λ n. replicate n not_closed) (long g v));
    }

pub cleared-states : (groups : List GroupFields) → states (map cleared groups) ≡ map ended (states groups)
cleared-states [] = refl
cleared-states (f ∷ fs) = ap (λ gs. ended f.state ∷ gs) (cleared-states fs)

pub emptied-fields : (most : ℕ) (groups : List GroupFields) (held : List Bool) (segs : List (Option SegmentState)) → most ≤ most_segments → length segs ≡ most → held ≡ map is_held (slots_of segs) → AreUnused most groups
    → Fields most groups held held (emptied-all segs)
emptied-fields most groups held segs few long is free =
    subst (λ h. Fields most groups h held (emptied-all segs)) (emptied-held-numbers segs ∙ sym is)
    (subst (λ f. Fields most groups (map is_held (slots_of (emptied-all segs))) f (emptied-all segs)) (emptied-free-numbers segs ∙ sym is)
    (nothing-begun most groups (emptied-all segs) few (length-map segs (λ s. option_map emptied s) ∙ long) free
    (λ m. (ap used_in (emptied-at segs m) ∙ emptied-used (get_or segs m None), ap (λ s. is_begun (option_map slot_of s)) (emptied-at segs m) ∙ emptied-unbegun (get_or segs m None)))))

pub emptied-free : (s : Option SegmentState) → is_held (option_map slot_of s) ≡ true → is_free (option_map slot_of (option_map emptied s)) ≡ true
emptied-free None e = absurd (let clash : false ≡ true = e in cc)
emptied-free (Some h) e = refl

-- as many are held as before, and each is free
pub emptied-held : (segs : List (Option SegmentState)) → count_by is_held (slots_of (emptied-all segs)) ≡ count_by is_held (slots_of segs)
emptied-held segs = sym (size-map is_held (slots_of (emptied-all segs))) ∙ ap size (emptied-held-numbers segs) ∙ size-map is_held (slots_of segs)

pub emptied-counts : (segs : List (Option SegmentState)) → count_by is_free (slots_of (emptied-all segs)) ≡ count_by is_held (slots_of segs)
emptied-counts segs = sym (size-map is_free (slots_of (emptied-all segs))) ∙ ap size (emptied-free-numbers segs) ∙ size-map is_held (slots_of segs)

pub emptied-less : (segs : List (Option SegmentState)) (n : ℕ) → slice_set (emptied-all segs) n None ≡ emptied-all (slice_set segs n None)
emptied-less segs n = sym (map-set (λ s. option_map emptied s) segs n None)

-- no byte of them is used, and none is live
pub emptied-used-each : (segs : List (Option SegmentState)) → used_in_each (emptied-all segs) ≡ replicate (length segs) 0
emptied-used-each [] = refl
emptied-used-each (s ∷ ss) = ap (λ n. n ∷ used_in_each (emptied-all ss)) (emptied-used s) ∙ ap (λ ns. 0 ∷ ns) (emptied-used-each ss)

pub emptied-live-each : (segs : List (Option SegmentState)) → live_in_each (emptied-all segs) ≡ replicate (length segs) 0
emptied-live-each [] = refl
emptied-live-each (s ∷ ss) = ap (λ n. n ∷ live_in_each (emptied-all ss)) (live-none (option_map emptied s) (emptied-used s)) ∙ ap (λ ns. 0 ∷ ns) (emptied-live-each ss)

-- the place of a segment that was held, once all are emptied
pub emptied-place : (segs slots : List (Option SegmentState)) (held : List Bool) (n : ℕ) → slots ≡ emptied-all segs → held ≡ map is_held (slots_of segs) → has held n ≡ true
    → (n < length slots) × (is_free (option_map slot_of (get_or slots n None)) ≡ true)
emptied-place segs slots held n all is e =
    let there : is_held (slot_at (slots_of segs) n) ≡ true = sym (ap (λ h. has h n) is ∙ has-held (slots_of segs) n) ∙ e in
    let low = held-within (slots_of segs) n there in
    let long = length-map segs (λ s. option_map slot_of s) in let same = ap length all ∙ length-map segs (λ s. option_map emptied s) in (
      omega (arith, low, long, same),
      ap (λ s. is_free (option_map slot_of (get_or s n None))) all ∙ ap (λ s. is_free (option_map slot_of s)) (emptied-at segs n)
          ∙ emptied-free (get_or segs n None) (sym (ap is_held (slot-is segs n)) ∙ there),
    )

pub emptied-long : (r : RegionState) (slots : List (Option SegmentState)) (most : ℕ) → length (slots_of slots) ≡ most → slots ≡ r.segments → most ≡ r.most → length r.segments ≡ r.most
emptied-long r slots most long is same = sym (ap length is) ∙ sym (length-map slots (λ s. option_map slot_of s)) ∙ long ∙ same
