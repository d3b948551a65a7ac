-- How many bytes are live at least where every segment that was begun is dense, but for the active ones.
use Rattle.std.proofs.Common.{◌≡◌, ◌≢◌, inl, inr, ℕ, zero, suc, ◌+◌, ◌-◌, ◌*◌, ◌<◌, ◌≤◌, Bool, true, false, not, ◌||◌, cond, List, [], ◌∷◌, length, map, get_or, refl, sym, ap, ◌∙◌, arith, eq-eqb}
use Rattle.std.specs.Prelude.{Option, None, Some, is_some, slice_index}
use Rattle.std.specs.List.{sum, count_by}
use Rattle.std.proofs.lemmas.Bool.{cases_Bool, cases_eq, eqb-true, ne_eqb}
use Rattle.std.proofs.lemmas.List.{length-map}
use Rattle.std.proofs.lemmas.List.Sums.{sum_by-cons}
use Rattle.layout.specs.Sizes.{dense, greatest_object}
use Rattle.regions.specs.Segments.{SegmentState, GroupState, RegionState}
use Rattle.regions.specs.Shapes.{slot_of, slots_of, slot_at, shape, is_held, is_free, is_begun, is_number, is_closed_of, active_in, active_of, group_of, group_count, held_count, HasGroup}
use Rattle.regions.specs.Counts.{live_in, live_in_each, live_bytes_at, live_total, left}
use Rattle.compaction.specs.Sparse.{IsCompacted}

-- the number is one of these
abbrev among : List (Option ℕ) → ℕ → Bool
among [] n = false
among (o ∷ os) n = is_number o n || among os n

-- how many numbers they are
abbrev somes : List (Option ℕ) → ℕ
somes [] = 0
somes (None ∷ os) = somes os
somes (Some k ∷ os) = somes os + 1

-- the same of the segments behind the first one
abbrev lower : Option ℕ → Option ℕ
lower None = None
lower (Some zero) = None
lower (Some (suc k)) = Some k

abbrev without : ℕ → List (Option ℕ) → List (Option ℕ)
without g [] = []
without zero (o ∷ os) = None ∷ os
without (suc g) (o ∷ os) = o ∷ without g os

number-lower : (o : Option ℕ) (n : ℕ) → is_number (lower o) n ≡ is_number o (suc n)
number-lower None n = refl
number-lower (Some zero) n = sym (ne_eqb (suc n) 0 (λ e. omega (arith, e)))
number-lower (Some (suc k)) n =
    elim (cases_eq n k) [
      | inl same ↦ eq-eqb n k same ∙ sym (eq-eqb (suc n) (suc k) (ap (λ x. suc x) same))
      | inr far ↦ ne_eqb n k far ∙ sym (ne_eqb (suc n) (suc k) (λ e. far (omega (arith, e))))
    ]

among-lower : (os : List (Option ℕ)) (n : ℕ) → among (map lower os) n ≡ among os (suc n)
among-lower [] n = refl
among-lower (o ∷ os) n = ap (λ b. b || among (map lower os) n) (number-lower o n) ∙ ap (λ b. is_number o (suc n) || b) (among-lower os n)

-- there are fewer behind the first segment where it is one of them
somes-lower : (os : List (Option ℕ)) → somes (map lower os) + cond (among os 0) 1 0 ≤ somes os
somes-lower [] = omega arith
somes-lower (None ∷ os) = somes-lower os
somes-lower (Some zero ∷ os) = let rest = somes-lower os in omega (arith, rest)
somes-lower (Some (suc k) ∷ os) =
    let rest = somes-lower os in let none = ap (λ (b : Bool). let n : ℕ = cond (b || among os 0) 1 0 in n) (ne_eqb 0 (suc k) (λ e. omega (arith, e))) in omega (arith, rest, none)

each-dense-but : (segments : List (Option SegmentState)) (os : List (Option ℕ)) → ((n : ℕ) → among os n ≡ false → is_begun (slot_at (slots_of segments) n) ≡ true → dense < slice_index (live_in_each segments) n)
    → count_by is_held (slots_of segments) * (dense + 1) ≤ sum (live_in_each segments) + (count_by is_free (slots_of segments) + somes os) * (dense + 1)
each-dense-but [] os all = omega arith
each-dense-but (None ∷ segments) os all =
    let rest = each-dense-but segments (map lower os) (λ n far. all (suc n) (sym (among-lower os n) ∙ far)) in let few = somes-lower os in
    let sums = sum_by-cons (λ x. x) (live_in None) (live_in_each segments) in
    let held = sum_by-cons (λ s. cond (is_held s) 1 0) None (slots_of segments) in
    let free = sum_by-cons (λ s. cond (is_free s) 1 0) None (slots_of segments) in omega (arith, rest, few, sums, held, free)
each-dense-but (Some h ∷ segments) os all =
    let rest = each-dense-but segments (map lower os) (λ n far. all (suc n) (sym (among-lower os n) ∙ far)) in let few = somes-lower os in
    let sums = sum_by-cons (λ x. x) (live_in (Some h)) (live_in_each segments) in
    let held = sum_by-cons (λ s. cond (is_held s) 1 0) (Some (slot_of h)) (slots_of segments) in
    let free = sum_by-cons (λ s. cond (is_free s) 1 0) (Some (slot_of h)) (slots_of segments) in
    elim (cases_Bool (is_some h.group)) [
      | inl begun ↦ elim (cases_Bool (among os 0)) [
        | inl there ↦ let one = ap (λ (b : Bool). let k : ℕ = cond b 1 0 in k) there in omega (arith, rest, few, sums, held, free, one)
        | inr far ↦ let here : dense < live_in (Some h) = all 0 far begun in omega (arith, rest, few, sums, held, free, here)
      ]
      | inr none ↦ let one = ap (λ (b : Bool). let k : ℕ = cond (not b) 1 0 in k) none in omega (arith, rest, few, sums, held, free, one)
    ]

number-is : (o : Option ℕ) (n : ℕ) → is_number o n ≡ true → o ≡ Some n
number-is None n e = absurd (let clash : false ≡ true = e in cc)
number-is (Some m) n e = ap (λ k. Some k) (sym (eqb-true n m e))

some-there : (o : Option ℕ) → is_some o ≡ true → (g : ℕ) × (o ≡ Some g)
some-there None e = absurd (let clash : false ≡ true = e in cc)
some-there (Some g) e = (g, refl)

or-true : (b : Bool) → (b || true) ≡ true
or-true true = refl
or-true false = refl

among-at : (os : List (Option ℕ)) (g n : ℕ) → get_or os g None ≡ Some n → among os n ≡ true
among-at [] g n e = absurd (let clash : None ≡ Some n = e in cc)
among-at (o ∷ os) zero n e = ap (λ b. b || among os n) (ap (λ a. is_number a n) e ∙ eq-eqb n n refl)
among-at (o ∷ os) (suc g) n e = ap (λ b. is_number o n || b) (among-at os g n e) ∙ or-true (is_number o n)

without-other : (os : List (Option ℕ)) (g h : ℕ) → h ≢ g → get_or (without g os) h None ≡ get_or os h None
without-other [] g h far = refl
without-other (o ∷ os) zero zero far = absurd (far refl)
without-other (o ∷ os) zero (suc h) far = refl
without-other (o ∷ os) (suc g) zero far = refl
without-other (o ∷ os) (suc g) (suc h) far = without-other os g h (λ e. far (ap (λ k. suc k) e))

somes-most : (os : List (Option ℕ)) → somes os ≤ length os
somes-most [] = omega arith
somes-most (None ∷ os) = let rest = somes-most os in omega (arith, rest)
somes-most (Some k ∷ os) = let rest = somes-most os in omega (arith, rest)

somes-without : (os : List (Option ℕ)) (g : ℕ) → g < length os → somes (without g os) + 1 ≤ length os
somes-without [] g low = absurd (omega (arith, low))
somes-without (o ∷ os) zero low = let rest = somes-most os in omega (arith, rest)
somes-without (None ∷ os) (suc g) low = let rest = somes-without os g (omega (arith, low)) in omega (arith, rest)
somes-without (Some k ∷ os) (suc g) low = let rest = somes-without os g (omega (arith, low)) in omega (arith, rest)

abbrev actives : RegionState → List (Option ℕ)
actives r = map (λ (s : GroupState). s.active) (shape r).groups

active-at : (groups : List GroupState) (g : ℕ) → get_or (map (λ (s : GroupState). s.active) groups) g None ≡ active_in groups g
active-at [] g = refl
active-at (s ∷ ss) zero = refl
active-at (s ∷ ss) (suc g) = active-at ss g

-- a segment that was begun is closed or the active one of its group
begun-dense : (r : RegionState) (os : List (Option ℕ)) → IsCompacted r → ((g n : ℕ) → active_of r g ≡ Some n → among os n ≡ false → dense < live_bytes_at r n)
    → (n : ℕ) → among os n ≡ false → is_begun (slot_at (shape r).slots n) ≡ true → dense < live_bytes_at r n
begun-dense r os done active n far begun =
    let of = some-there (group_of r n) begun in
    elim (cases_Bool (is_number (active_of r of.0) n)) [
      | inl is ↦ active of.0 n (number-is (active_of r of.0) n is) far
      | inr other ↦ done.closed n (ap (λ o. is_closed_of (shape r).groups o n) of.1 ∙ ap not other)
    ]

-- all segments are dense but a free one and the active ones
pub most-where-compacted : (r : RegionState) → IsCompacted r → (held_count r - 1 - group_count r) * (dense + 1) ≤ live_total r
most-where-compacted r done =
    let there : (g n : ℕ) → active_of r g ≡ Some n → among (actives r) n ≡ false → dense < live_bytes_at r n = λ g n is far. absurd (let clash : true ≡ false = sym (among-at (actives r) g n (active-at (shape r).groups g ∙ is)) ∙ far in cc) in
    let all = each-dense-but r.segments (actives r) (begun-dense r (actives r) done there) in
    let free = done.free in let few = somes-most (actives r) in let long : length (actives r) ≡ group_count r = length-map (shape r).groups _ in omega (arith, all, free, few, long)

-- and that of a group in which it is full
pub live-where-compacted : (r : RegionState) (g : ℕ) → IsCompacted r → HasGroup r g → left r g < greatest_object → (held_count r - group_count r) * (dense + 1) ≤ live_total r
live-where-compacted r g done within full =
    let os = without g (actives r) in
    let there : (h n : ℕ) → active_of r h ≡ Some n → among (without g (actives r)) n ≡ false → dense < live_bytes_at r n = λ h n is far. elim (cases_eq h g) [
      | inl here ↦ elim (done.active g n (ap (active_of r) (sym here) ∙ is)) [ inl more ↦ more | inr roomy ↦ absurd (omega (arith, roomy, full)) ]
      | inr other ↦
          absurd (let clash : true ≡ false = sym (among-at (without g (actives r)) h n (without-other (actives r) g h other ∙ active-at (shape r).groups h ∙ is)) ∙ far in cc)
    ]
    in
    let all = each-dense-but r.segments os (begun-dense r os done there) in
    let free = done.free in let long : length (actives r) ≡ group_count r = length-map (shape r).groups _ in let few = somes-without (actives r) g (omega (arith, within, long)) in omega (arith, all, free, few, long)
