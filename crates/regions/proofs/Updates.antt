-- What a change of one segment does to the lists that are read from the segments.
use Rattle.std.proofs.Common.{◌≡◌, ◌≢◌, ℕ, zero, suc, ◌+◌, ◌<◌, List, [], ◌∷◌, length, sym, ap, ◌∙◌, arith, get_or}
use Rattle.std.specs.Prelude.{Option, None, Some, option_map, slice_index, slice_set}
use Rattle.std.proofs.lemmas.List.{map-set, get_or-set_same, get_or-set_other, length-map}
use Rattle.std.proofs.Math.Seq.{map-set_same}
use Rattle.std.proofs.Math.ListN.{get_or-map}
use Rattle.regions.specs.Segments.{SegmentState}
use Rattle.regions.specs.Shapes.{Slot, slot_of, slots_of, slot_at}
use Rattle.regions.specs.Counts.{used_in, live_in, used_in_each, live_in_each, plus}

-- what is there is within the list
pub within : {X : Type 0} (xs : List (Option X)) (n : ℕ) (x : X) → get_or xs n None ≡ Some x → n < length xs
within [] n x e = absurd (let clash : None ≡ Some x = e in cc)
within (y ∷ ys) zero x e = omega arith
within (y ∷ ys) (suc n) x e = let rest = within ys n x e in omega (arith, rest)

pub slot-is : (segs : List (Option SegmentState)) (n : ℕ) → slot_at (slots_of segs) n ≡ option_map slot_of (get_or segs n None)
slot-is segs n = get_or-map (λ s. option_map slot_of s) segs n None

pub used-is : (segs : List (Option SegmentState)) (n : ℕ) → slice_index (used_in_each segs) n ≡ used_in (get_or segs n None)
used-is segs n = get_or-map used_in segs n None

pub live-is : (segs : List (Option SegmentState)) (n : ℕ) → slice_index (live_in_each segs) n ≡ live_in (get_or segs n None)
live-is segs n = get_or-map live_in segs n None

-- a count that shrank is the greater one again
pub plus-back : (xs : List ℕ) (n k y : ℕ) → n < length xs → get_or xs n 0 ≡ y + k → xs ≡ plus n k (slice_set xs n y)
plus-back [] n k y inside e = absurd (omega (arith, inside))
plus-back (x ∷ xs) zero k y inside e = ap (λ z. z ∷ xs) e
plus-back (x ∷ xs) (suc n) k y inside e = ap (λ zs. x ∷ zs) (plus-back xs n k y (omega (arith, inside)) e)

module _ (segs : List (Option SegmentState)) (n : ℕ) (old new : SegmentState) (is : get_or segs n None ≡ Some old) where
  abbrev after : List (Option SegmentState)
  after = slice_set segs n (Some new)

  pub slots-same : slot_of new ≡ slot_of old → slots_of after ≡ slots_of segs
  slots-same e = map-set_same (λ s. option_map slot_of s) segs n (Some new) None (ap (λ (b : Slot). Some b) e ∙ sym (ap (λ s. option_map slot_of s) is))

  pub used-same : new.used ≡ old.used → used_in_each after ≡ used_in_each segs
  used-same e = map-set_same used_in segs n (Some new) None (e ∙ sym (ap used_in is))

  pub live-same : live_in (Some new) ≡ live_in (Some old) → live_in_each after ≡ live_in_each segs
  live-same e = map-set_same live_in segs n (Some new) None (e ∙ sym (ap live_in is))

  pub used-plus : (k : ℕ) → new.used ≡ old.used + k → used_in_each after ≡ plus n k (used_in_each segs)
  used-plus k e = map-set used_in segs n (Some new) ∙ ap (slice_set (used_in_each segs) n) (e ∙ ap (λ u. u + k) (sym (used-is segs n ∙ ap used_in is)))

  pub live-plus : (k : ℕ) → live_in (Some new) ≡ live_in (Some old) + k → live_in_each after ≡ plus n k (live_in_each segs)
  live-plus k e = map-set live_in segs n (Some new) ∙ ap (slice_set (live_in_each segs) n) (e ∙ ap (λ u. u + k) (sym (live-is segs n ∙ ap live_in is)))

  inside : n < length segs
  inside = within segs n old is

  pub live-minus : (k : ℕ) → live_in (Some old) ≡ live_in (Some new) + k → live_in_each segs ≡ plus n k (live_in_each after)
  live-minus k e =
      plus-back (live_in_each segs) n k (live_in (Some new)) (let l = length-map segs live_in in omega (arith, l, inside)) (live-is segs n ∙ ap live_in is ∙ e)
      ∙ ap (plus n k) (sym (map-set live_in segs n (Some new)))

  pub live-there : slice_index (live_in_each after) n ≡ live_in (Some new)
  live-there = live-is after n ∙ ap live_in (get_or-set_same segs n (Some new) None inside)

  pub live-others : (m : ℕ) → m ≢ n → slice_index (live_in_each after) m ≡ slice_index (live_in_each segs) m
  live-others m far = live-is after m ∙ ap live_in (get_or-set_other segs n m (Some new) None far) ∙ sym (live-is segs m)
