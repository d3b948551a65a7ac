-- What the sets of numbers say of the segments, and how many segments are held and free.
use Rattle.std.proofs.Common.{◌≡◌, ℕ, ◌+◌, ◌<◌, Bool, true, false, cond, List, length, map, refl, sym, ap, ◌∙◌, arith, get_or}
use Rattle.std.specs.Prelude.{Option, None, Some, IsSome, option_map, slice_set}
use Rattle.std.specs.List.{count_by}
use Rattle.std.proofs.lemmas.List.{length-map, map-set}
use Rattle.std.proofs.lemmas.List.Sums.{sum_by-set}
use Rattle.number_set.specs.Numbers.{has}
use Rattle.regions.specs.Segments.{SegmentState}
use Rattle.regions.specs.Shapes.{Slot, slot_of, slots_of, slot_at, is_held, is_free}
use Rattle.regions.proofs.Numbers.{has-held, has-free}
use Rattle.regions.proofs.Updates.{slot-is}
use Rattle.regions.proofs.Groups.{counted-as, held-within, free-held}
use Rattle.regions.proofs.Regions.{not-held}

-- the count of segments with another one at a number
pub counted-set : (p : Option Slot → Bool) (slots : List (Option Slot)) (n : ℕ) (s : Option Slot) → n < length slots → count_by p (slice_set slots n s) + counted-as (p (slot_at slots n)) ≡ count_by p slots + counted-as (p s)
counted-set p slots n s inside = sum_by-set (λ (x : Option Slot). cond (p x) 1 0) slots n s None inside

pub counted-change : (p : Option Slot → Bool) (segs : List (Option SegmentState)) (n : ℕ) (old new : Option SegmentState) → n < length segs → get_or segs n None ≡ old
    → count_by p (slots_of (slice_set segs n new)) + counted-as (p (option_map slot_of old)) ≡ count_by p (slots_of segs) + counted-as (p (option_map slot_of new))
counted-change p segs n old new inside is =
    let l = length-map segs (λ s. option_map slot_of s) in
    let there : p (slot_at (slots_of segs) n) ≡ p (option_map slot_of old) = ap p (slot-is segs n ∙ ap (λ s. option_map slot_of s) is) in
    ap (λ k. count_by p k + counted-as (p (option_map slot_of old))) (map-set (λ s. option_map slot_of s) segs n new)
    ∙ ap (λ b. count_by p (slice_set (slots_of segs) n (option_map slot_of new)) + counted-as b) (sym there) ∙ counted-set p (slots_of segs) n (option_map slot_of new) (omega (arith, inside, l))

-- what the sets of numbers say of the segments
module _ (segs : List (Option SegmentState)) (held free : List Bool) (held-is : held ≡ map is_held (slots_of segs)) (free-is : free ≡ map is_free (slots_of segs)) where
  pub says-held : (n : ℕ) → has held n ≡ is_held (slot_at (slots_of segs) n)
  says-held n = ap (λ h. has h n) held-is ∙ has-held (slots_of segs) n

  pub says-free : (n : ℕ) → has free n ≡ is_free (slot_at (slots_of segs) n)
  says-free n = ap (λ f. has f n) free-is ∙ has-free (slots_of segs) n

  pub held-long : length held ≡ length segs
  held-long = ap length held-is ∙ length-map (slots_of segs) is_held ∙ length-map segs (λ s. option_map slot_of s)

  pub unheld-at : (n : ℕ) → has held n ≡ false → get_or segs n None ≡ None
  unheld-at n e = not-held (get_or segs n None) (sym (ap is_held (slot-is segs n)) ∙ sym (says-held n) ∙ e)

  pub free-in : (n : ℕ) → has free n ≡ true → n < length segs
  free-in n e =
      let w = held-within (slots_of segs) n (free-held (slot_at (slots_of segs) n) (sym (says-free n) ∙ e)) in let l = length-map segs (λ s. option_map slot_of s) in omega (arith, w, l)

  pub free-at : (n : ℕ) → has free n ≡ true → is_free (option_map slot_of (get_or segs n None)) ≡ true
  free-at n e = sym (ap is_free (slot-is segs n)) ∙ sym (says-free n) ∙ e

pub free-there : (s : Option SegmentState) → is_free (option_map slot_of s) ≡ true → IsSome s
free-there None e = absurd (let clash : false ≡ true = e in cc)
free-there (Some h) e = refl
