-- The live bytes of a region, which it keeps.
use Rattle.std.proofs.Common.{◌≡◌, ℕ, zero, suc, ◌+◌, ◌-◌, ◌*◌, ◌<◌, ◌≤◌, inl, inr, Bool, List, [], ◌∷◌, length, replicate, refl, sym, ap, ◌∙◌, subst, arith}
use Rattle.std.specs.Prelude.{Option, None, option_map, slice_index}
use Rattle.std.specs.List.{sum}
use Rattle.std.proofs.lemmas.Bool.{cases_eq}
use Rattle.std.proofs.lemmas.List.{get_or-set_same, get_or-set_other, length-map}
use Rattle.std.proofs.lemmas.List.Sums.{sum_by-cons}
use Rattle.layout.specs.Sizes.{segment, most_segments}
use Rattle.regions.specs.Segments.{SegmentState}
use Rattle.regions.specs.Shapes.{slot_of}
use Rattle.regions.specs.Counts.{live_in, live_in_each, plus}
use Rattle.regions.specs.inside.Consistent.{GroupFields, IsTotal}
use Rattle.regions.proofs.Regions.{Fields}
use Rattle.regions.proofs.Sums.{sum-plus, sum-zeros}

-- a count is at most the sum
pub in-sum : (xs : List ℕ) (n : ℕ) → slice_index xs n ≤ sum xs
in-sum [] n = omega arith
in-sum (x ∷ xs) zero = let step = sum_by-cons (λ y. y) x xs in let here : slice_index (x ∷ xs) zero ≡ x = refl in omega (arith, step, here)
in-sum (x ∷ xs) (suc n) =
    let step = sum_by-cons (λ y. y) x xs in let rest = in-sum xs n in let there : slice_index (x ∷ xs) (suc n) ≡ slice_index xs n = refl in omega (arith, step, rest, there)

-- so many segments have at most their bytes live
sum-within : (xs : List ℕ) → ((n : ℕ) → slice_index xs n ≤ segment) → sum xs ≤ length xs * segment
sum-within [] all = omega arith
sum-within (x ∷ xs) all =
    let step = sum_by-cons (λ y. y) x xs in let here : x ≤ segment = all 0 in let rest = sum-within xs (λ n. all (suc n)) in omega (arith, step, here, rest)

-- so many segments at most are held
pub total-small : (most : ℕ) (groups : List GroupFields) (held free : List Bool) (segs : List (Option SegmentState)) (total : ℕ) → Fields most groups held free segs → IsTotal total (live_in_each segs)
    → total ≤ most_segments * segment
total-small most groups held free segs total c t =
    let sums = sum-within (live_in_each segs) t.within in let is = t.summed in
    let counts : length (live_in_each segs) ≡ length segs = length-map segs live_in in let slots = length-map segs (λ s. option_map slot_of s) in
    let long = c.long in let few = c.few in omega (arith, sums, is, counts, slots, long, few)

-- more bytes of one segment are live, which has room for them
pub total-more : (total more : ℕ) (live now : List ℕ) (n k : ℕ) → IsTotal total live → n < length live → slice_index live n + k ≤ segment → now ≡ plus n k live → more ≡ total + k → IsTotal more now
total-more total more live now n k t inside room grown is =
    let were = t.summed in let sums : sum now ≡ sum live + k = ap sum grown ∙ sum-plus live n k inside in
    record {
      summed = omega (arith, were, sums, is);
      within = λ m.
          elim (cases_eq m n) [
            | inl same ↦
                subst (λ j. slice_index now j ≤ segment) (sym same)
                (let here : slice_index now n ≡ slice_index live n + k = ap (λ l. slice_index l n) grown ∙ get_or-set_same live n (slice_index live n + k) 0 inside in omega (arith, here, room))
            | inr far ↦
                (let there : slice_index now m ≡ slice_index live m = ap (λ l. slice_index l m) grown ∙ get_or-set_other live n m (slice_index live n + k) 0 far in
                let most = t.within m in omega (arith, there, most))
          ];
    }

-- an object of one segment is dead
pub total-less : (total fewer : ℕ) (live now : List ℕ) (n k : ℕ) → IsTotal total live → n < length now → live ≡ plus n k now → fewer ≡ total - k → IsTotal fewer now
total-less total fewer live now n k t inside shrunk is =
    let were = t.summed in let sums : sum live ≡ sum now + k = ap sum shrunk ∙ sum-plus now n k inside in
    record {
      summed = omega (arith, were, sums, is);
      within = λ m.
          elim (cases_eq m n) [
            | inl same ↦
                subst (λ j. slice_index now j ≤ segment) (sym same)
                (let here : slice_index live n ≡ slice_index now n + k = ap (λ l. slice_index l n) shrunk ∙ get_or-set_same now n (slice_index now n + k) 0 inside in
                let most = t.within n in omega (arith, here, most))
            | inr far ↦
                (let there : slice_index live m ≡ slice_index now m = ap (λ l. slice_index l m) shrunk ∙ get_or-set_other now n m (slice_index now n + k) 0 far in
                let most = t.within m in omega (arith, there, most))
          ];
    }

-- no byte of these segments is live
zero-there : (k m : ℕ) → slice_index (replicate k 0) m ≡ 0
zero-there zero m = refl
zero-there (suc k) zero = refl
zero-there (suc k) (suc m) = zero-there k m

pub total-zeros : (k : ℕ) (live : List ℕ) → live ≡ replicate k 0 → IsTotal 0 live
total-zeros k live none =
    subst (λ l. IsTotal 0 l) (sym none) (record { summed = sym (sum-zeros k); within = λ m. (let e = zero-there k m in omega (arith, e)) })

pub none-live : (most : ℕ) → live_in_each (replicate most None) ≡ replicate most 0
none-live zero = refl
none-live (suc most) = ap (λ l. 0 ∷ l) (none-live most)

-- as many bytes of each segment are live
pub total-same : (total : ℕ) (live now : List ℕ) → IsTotal total live → now ≡ live → IsTotal total now
total-same total live now t same = subst (λ l. IsTotal total l) (sym same) t
