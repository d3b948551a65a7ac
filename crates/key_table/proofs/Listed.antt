-- How often a list of numbers that are placed has each.
use Rattle.std.proofs.Common.{◌≡◌, ◌≢◌, ℕ, zero, suc, ◌+◌, ◌<◌, ◌≤◌, inl, inr, List, [], ◌∷◌, ◌++◌, length, set, get_or, refl, sym, ap, subst, ◌∙◌, arith}
use Rattle.std.specs.Prelude.{◌==◌, if◌then◌else◌}
use Rattle.std.proofs.lemmas.Bool.{cases_eq, cases_lt}
use Rattle.std.proofs.lemmas.List.{length-set, length-append, get_or-set_same, get_or-set_other, get_or_append_left, get_or_at}
use Rattle.std.specs.List.{sum_by}
use Rattle.std.specs.Prelude.{IsPermutation}
use Rattle.std.proofs.lemmas.List.Sums.{sum_by-cons}
use Rattle.std.proofs.lemmas.List.Sorted.{sum_by-IsPermutation}
use Rattle.common_lemmas.specs.Lists.{times}
use Rattle.common_lemmas.proofs.Counts.{times_here, times_there, times_cons_le, length_below}
use Rattle.key_table.specs.Table.{AreSame}
use Rattle.key_table.specs.inside.Places.{ArePlaced}

pub at_listed : (xs : List ℕ) (k : ℕ) → k < length xs → 1 ≤ times (get_or xs k 0) xs
at_listed [] k inside = absurd (omega arith)
at_listed (x ∷ xs) zero inside = let h = times_here x xs in omega (arith, h)
at_listed (x ∷ xs) (suc k) inside = let h = at_listed xs k (omega arith) in let more = times_cons_le (get_or xs k 0) x xs in omega (arith, h, more)

pub record StandsIn (n : ℕ) (xs : List ℕ) : Type 0 where
  pub at : ℕ
  pub inside : at < length xs
  pub is : get_or xs at 0 ≡ n

pub listed_at : (n : ℕ) (xs : List ℕ) → 1 ≤ times n xs → StandsIn n xs
listed_at n [] h = absurd (omega arith)
listed_at n (x ∷ xs) h =
    elim (cases_eq x n) [
      | inl e ↦ record { at = zero; inside = omega arith; is = e }
      | inr far ↦ (let rest = listed_at n xs (subst (λ k. 1 ≤ k) (times_there n x xs far) h) in record { at = suc rest.at; inside = omega (arith, rest.inside); is = rest.is })
    ]

pub none_at : (n : ℕ) (xs : List ℕ) → ((k : ℕ) → k < length xs → get_or xs k 0 ≢ n) → times n xs ≡ 0
none_at n xs none =
    elim (cases_eq (times n xs) 0) [
      | inl e ↦ e
      | inr some ↦ (let there = listed_at n xs (omega (arith, some)) in absurd (none there.at there.inside there.is))
    ]

pub absent_at : (n : ℕ) (xs : List ℕ) → times n xs ≡ 0 → (k : ℕ) → k < length xs → get_or xs k 0 ≢ n
absent_at n xs none k inside e = let h = subst (λ m. 1 ≤ times m xs) e (at_listed xs k inside) in omega (arith, h, none)

abbrev pub one : ℕ → ℕ → ℕ
one y n = if y == n then 1 else 0

pub times_push : (n : ℕ) (xs : List ℕ) (y : ℕ) → times n (xs ++ y ∷ []) ≡ times n xs + one y n
times_push n [] y = omega arith
times_push n (x ∷ xs) y = ap (λ k. (if x == n then 1 else 0) + k) (times_push n xs y) ∙ omega arith

times_set : (n : ℕ) (xs : List ℕ) (k y : ℕ) → k < length xs → times n (set xs k y) + one (get_or xs k 0) n ≡ times n xs + one y n
times_set n [] k y inside = absurd (omega arith)
times_set n (x ∷ xs) zero y inside = omega arith
times_set n (x ∷ xs) (suc k) y inside = let rest = times_set n xs k y (omega arith) in omega (arith, rest)

set_past : (xs : List ℕ) (k y : ℕ) → length xs ≤ k → set xs k y ≡ xs
set_past [] k y past = refl
set_past (x ∷ xs) zero y past = absurd (omega arith)
set_past (x ∷ xs) (suc k) y past = ap (λ ys. x ∷ ys) (set_past xs k y (omega arith))

-- the last number takes the place of one that goes
pub removed : (numbers front : List ℕ) (last place n : ℕ) → numbers ≡ front ++ last ∷ [] → place < length numbers → get_or numbers place 0 ≡ n → AreSame numbers (n ∷ set front place last)
removed numbers front last place n is inside here m =
    let pushed : times m numbers ≡ times m front + one last m = ap (times m) is ∙ times_push m front last in
    let long : length numbers ≡ length front + 1 = ap (λ (xs : List ℕ). length xs) is ∙ length-append front (last ∷ []) in
    elim (cases_lt place (length front)) [
      | inl low ↦
          (let there : get_or front place 0 ≡ n = sym (ap (λ xs. get_or xs place 0) is ∙ get_or_append_left front (last ∷ []) 0 place low) ∙ here in
          let sets = times_set m front place last low in
          let same : one (get_or front place 0) m ≡ one n m = ap (λ k. one k m) there in
          omega (arith, pushed, sets, same))
      | inr high ↦
          (let end : place ≡ length front = omega (arith, inside, long, high) in
          let same : last ≡ n = sym (get_or_at front last [] 0 place (sym end)) ∙ (sym (ap (λ xs. get_or xs place 0) is) ∙ here) in
          let alike : one last m ≡ one n m = ap (λ k. one k m) same in
          let rest : times m (set front place last) ≡ times m front = ap (times m) (set_past front place last (omega (arith, end))) in
          omega (arith, pushed, alike, rest))
    ]

once : (xs : List ℕ) → ((j k : ℕ) → j < length xs → k < length xs → get_or xs j 0 ≡ get_or xs k 0 → j ≡ k) → (n : ℕ) → times n xs ≤ 1
once [] apart n = omega arith
once (x ∷ xs) apart n =
    let rest = once xs (λ j k a b e. (let same = apart (suc j) (suc k) (omega (arith, a)) (omega (arith, b)) e in omega (arith, same))) n in
    elim (cases_eq x n) [
      | inl e ↦
          (let none = none_at n xs (λ k inside there. (let same = apart zero (suc k) (omega arith) (omega (arith, inside)) (e ∙ sym there) in omega (arith, same))) in
          subst (λ m. times m (x ∷ xs) ≤ 1) e (let h = times_here x xs in let z : times x xs ≡ 0 = subst (λ m. times m xs ≡ 0) (sym e) none in omega (arith, h, z)))
      | inr far ↦ (let t = times_there n x xs far in omega (arith, t, rest))
    ]

pub placed_once : (bound : ℕ) (numbers places : List ℕ) (c d : ℕ) → ArePlaced bound numbers places c d → (n : ℕ) → times n numbers ≤ 1
placed_once bound numbers places c d is = once numbers (λ j k a b e. sym (is.at j a) ∙ (ap (λ m. get_or places m 0) e ∙ is.at k b))

-- a number of which each place says that it is not there
pub not_placed : (bound : ℕ) (numbers places : List ℕ) (c d n place : ℕ) → ArePlaced bound numbers places c d → (n < length places → get_or places n 0 ≡ place) → (place < length numbers → n < length places → get_or numbers place 0 ≢ n) → times n numbers ≡ 0
not_placed bound numbers places c d n place is here other =
    none_at n numbers (λ k inside there.
    (let fits : n < length places = subst (λ m. m < length places) there (is.placed k inside) in
    let same : place ≡ k = sym (here fits) ∙ (ap (λ m. get_or places m 0) (sym there) ∙ is.at k inside) in
    other (subst (λ j. j < length numbers) (sym same) inside) fits (ap (λ j. get_or numbers j 0) same ∙ there)))

-- one number more fits
pub one_more_fits : (bound n : ℕ) (numbers places : List ℕ) (c d : ℕ) → ArePlaced bound numbers places c d → n < bound → times n numbers ≡ 0 → length numbers < bound
one_more_fits bound n numbers places c d is below absent =
    length_below bound (n ∷ numbers)
    (λ m. elim (cases_eq n m) [
      | inl e ↦ subst (λ x. times x (n ∷ numbers) ≤ 1) e (let h = times_here n numbers in omega (arith, h, absent))
      | inr far ↦ (let t = times_there m n numbers far in let o = placed_once bound numbers places c d is m in omega (arith, t, o))
    ])
    (λ m past. (let t = times_there m n numbers (λ e. omega (arith, e, below, past)) in
    t ∙ none_at m numbers (λ k inside there. (let p = is.placed k inside in let f = is.few in omega (arith, p, f, there, past)))))

pub placed_more : (bound n : ℕ) (numbers places reached : List ℕ) (c d e f : ℕ) → ArePlaced bound numbers places c d → times n numbers ≡ 0
    → n < length reached → length places ≤ length reached → length reached ≤ bound → ((k : ℕ) → k < length places → get_or reached k 0 ≡ get_or places k 0) → bound ≤ e → bound ≤ f
    → ArePlaced bound (numbers ++ n ∷ []) (set reached n (length numbers)) e f
placed_more bound n numbers places reached c d e f is absent here long few same fit fit' =
    let long' = length-set reached n (length numbers) in
    let more = length-append numbers (n ∷ []) in
    let front : (k : ℕ) → k < length numbers → get_or (numbers ++ n ∷ []) k 0 ≡ get_or numbers k 0 = λ k inside. get_or_append_left numbers (n ∷ []) 0 k inside in
    let last : (k : ℕ) → k ≡ length numbers → get_or (numbers ++ n ∷ []) k 0 ≡ n = λ k q. get_or_at numbers n [] 0 k (sym q) in
    record {
      placed = λ k inside. elim (cases_lt k (length numbers)) [
        | inl low ↦ (let g = front k low in let p = is.placed k low in omega (arith, g, p, long, long'))
        | inr high ↦ (let g = last k (omega (arith, inside, more, high)) in omega (arith, g, here, long'))
      ];
      at = λ k inside. elim (cases_lt k (length numbers)) [
        | inl low ↦
            (let g = front k low in
            ap (λ m. get_or (set reached n (length numbers)) m 0) g
            ∙ (get_or-set_other reached n (get_or numbers k 0) (length numbers) 0 (absent_at n numbers absent k low)
            ∙ (same (get_or numbers k 0) (is.placed k low) ∙ is.at k low)))
        | inr high ↦
            (let q : k ≡ length numbers = omega (arith, inside, more, high) in
            ap (λ m. get_or (set reached n (length numbers)) m 0) (last k q) ∙ (get_or-set_same reached n (length numbers) 0 here ∙ sym q))
      ];
      few = omega (arith, few, long');
      numbers_fit = fit;
      places_fit = fit';
    }

pub placed_less : (bound : ℕ) (numbers front places : List ℕ) (c d e f last place : ℕ) → ArePlaced bound numbers places c d → numbers ≡ front ++ last ∷ [] → place < length numbers → bound ≤ e → bound ≤ f
    → ArePlaced bound (set front place last) (set places last place) e f
placed_less bound numbers front places c d e f last place is cut inside fit fit' =
    let long : length numbers ≡ length front + 1 = ap (λ (xs : List ℕ). length xs) cut ∙ length-append front (last ∷ []) in
    let long' = length-set front place last in
    let wide = length-set places last place in
    let at_end : get_or numbers (length front) 0 ≡ last = ap (λ xs. get_or xs (length front) 0) cut ∙ get_or_at front last [] 0 (length front) refl in
    let last_in : last < length places = (let p = is.placed (length front) (omega (arith, long)) in omega (arith, p, at_end)) in
    let before : (k : ℕ) → k < length front → get_or front k 0 ≡ get_or numbers k 0 = λ k low. sym (ap (λ xs. get_or xs k 0) cut ∙ get_or_append_left front (last ∷ []) 0 k low) in
    record {
      placed = λ k low. elim (cases_eq k place) [
        | inl q ↦ (let g : get_or (set front place last) k 0 ≡ last = ap (λ m. get_or (set front place last) m 0) q ∙ get_or-set_same front place last 0 (omega (arith, low, long', q)) in omega (arith, g, last_in, wide))
        | inr far ↦
            (let g : get_or (set front place last) k 0 ≡ get_or numbers k 0 = get_or-set_other front place k last 0 far ∙ before k (omega (arith, low, long')) in
            let p = is.placed k (omega (arith, low, long', long)) in omega (arith, g, p, wide))
      ];
      at = λ k low. elim (cases_eq k place) [
        | inl q ↦
            (let g : get_or (set front place last) k 0 ≡ last = ap (λ m. get_or (set front place last) m 0) q ∙ get_or-set_same front place last 0 (omega (arith, low, long', q)) in
            ap (λ m. get_or (set places last place) m 0) g ∙ (get_or-set_same places last place 0 last_in ∙ sym q))
        | inr far ↦
            (let g : get_or (set front place last) k 0 ≡ get_or numbers k 0 = get_or-set_other front place k last 0 far ∙ before k (omega (arith, low, long')) in
            let there = is.at k (omega (arith, low, long', long)) in
            let other : get_or numbers k 0 ≢ last = λ q.
            (let end = is.at (length front) (omega (arith, long)) in
            let same : k ≡ length front = sym there ∙ (ap (λ m. get_or places m 0) (q ∙ sym at_end) ∙ end) in
            omega (arith, same, low, long')) in
            ap (λ m. get_or (set places last place) m 0) g ∙ (get_or-set_other places last (get_or numbers k 0) place 0 other ∙ there))
      ];
      few = (let h = is.few in omega (arith, h, wide));
      numbers_fit = fit;
      places_fit = fit';
    }

-- ---- numbers that are sorted

times_sum : (n : ℕ) (xs : List ℕ) → times n xs ≡ sum_by (λ x. one x n) xs
times_sum n [] = refl
times_sum n (x ∷ xs) = ap (λ k. one x n + k) (times_sum n xs) ∙ sym (sum_by-cons (λ y. one y n) x xs)

pub times_permuted : (xs ys : List ℕ) → IsPermutation xs ys → AreSame xs ys
times_permuted xs ys moves n = times_sum n xs ∙ (sym (sum_by-IsPermutation (λ x. one x n) xs ys moves) ∙ sym (times_sum n ys))

pub apart_once : (xs : List ℕ) → ((n : ℕ) → times n xs ≤ 1) → (j k : ℕ) → j < length xs → k < length xs → get_or xs j 0 ≡ get_or xs k 0 → j ≡ k
apart_once [] is j k a b e = absurd (omega arith)
apart_once (x ∷ xs) is zero zero a b e = refl
apart_once (x ∷ xs) is zero (suc k) a b e = absurd (first x xs (is x) (subst (λ n. 1 ≤ times n xs) (sym e) (at_listed xs k (omega arith))))
  where
    first : (x : ℕ) (xs : List ℕ) → times x (x ∷ xs) ≤ 1 → 1 ≤ times x xs → ⊥
    first x xs o h = let t = times_here x xs in omega (arith, t, o, h)
apart_once (x ∷ xs) is (suc j) zero a b e = absurd (first x xs (is x) (subst (λ n. 1 ≤ times n xs) e (at_listed xs j (omega arith))))
  where
    first : (x : ℕ) (xs : List ℕ) → times x (x ∷ xs) ≤ 1 → 1 ≤ times x xs → ⊥
    first x xs o h = let t = times_here x xs in omega (arith, t, o, h)
apart_once (x ∷ xs) is (suc j) (suc k) a b e = ap (λ n. suc n) (apart_once xs (λ n. (let o = is n in let more = times_cons_le n x xs in omega (arith, o, more))) j k (omega arith) (omega arith) e)

pub placed_next : (numbers places : List ℕ) (at : ℕ) → ((n : ℕ) → times n numbers ≤ 1) → at < length numbers → get_or numbers at 0 < length places
    → ((k : ℕ) → k < at → get_or places (get_or numbers k 0) 0 ≡ k) → (k : ℕ) → k < at + 1 → get_or (set places (get_or numbers at 0) at) (get_or numbers k 0) 0 ≡ k
placed_next numbers places at is inside fits before k h =
    elim (cases_eq k at) [
      | inl e ↦ subst (λ m. get_or (set places (get_or numbers at 0) at) (get_or numbers m 0) 0 ≡ m) (sym e) (get_or-set_same places (get_or numbers at 0) at 0 fits)
      | inr far ↦
          (get_or-set_other places (get_or numbers at 0) (get_or numbers k 0) at 0 (λ e. far (apart_once numbers is k at (omega (arith, h, inside)) inside e)) ∙ before k (omega (arith, h, far)))
    ]

pub few_placed : (bound : ℕ) (numbers places : List ℕ) (c d : ℕ) → ArePlaced bound numbers places c d → length numbers ≤ bound
few_placed bound numbers places c d is =
    length_below bound numbers (placed_once bound numbers places c d is)
    (λ m past. none_at m numbers (λ k inside there. (let p = is.placed k inside in let f = is.few in omega (arith, p, f, there, past))))

-- sorted numbers have places as before
pub sorted_inside : (bound : ℕ) (numbers sorted places : List ℕ) (c d : ℕ) → ArePlaced bound numbers places c d → AreSame numbers sorted → (k : ℕ) → k < length sorted → get_or sorted k 0 < length places
sorted_inside bound numbers sorted places c d is same k inside =
    let n = get_or sorted k 0 in
    let there = listed_at n numbers (let s = same n in let h = at_listed sorted k inside in omega (arith, s, h)) in
    subst (λ m. m < length places) there.is (is.placed there.at there.inside)
