-- Blocks after one has lost an entry.
use Rattle.std.proofs.Common.{◌≡◌, ℕ, zero, suc, ◌+◌, ◌-◌, ◌<◌, List, [], ◌∷◌, ◌++◌, length, take, drop, get_or, set, refl, sym, ap, subst, ◌∙◌, arith, add-one}
use Rattle.std.proofs.lemmas.List.{nil_from_length}
use Rattle.std.specs.Prelude.{All}
use Rattle.std.proofs.lemmas.List.{take-set, drop-set-lt, get_or-set_other, get_or-set_same, set-set, set-get_or, length-set, take-set-le}
use Rattle.std.proofs.lemmas.List.Elements.{All-head, All-tail, All-nil, All-cons}
use Rattle.key_index.specs.declared.entries.Entry.{Entry}
use Rattle.key_index.specs.Order.{Each}
use Rattle.key_index.specs.inside.Dense.{AreDense, HasLost}
use Rattle.key_index.specs.inside.Blocks.{entries_of, entries_at, lens_of, IsBlock, IsFit}
use Rattle.std.proofs.lemmas.List.{length-map}
use Rattle.key_index.proofs.Edits.{len_at}
use Rattle.key_index.proofs.RowOrder.{each_append}
use Rattle.key_index.proofs.Density.{dense_remove, dense_merge, dense_join, dense_stay}

each_take : (P : ℕ → Type 0) (n : ℕ) (xs : List ℕ) → Each P xs → Each P (take n xs)
each_take P zero xs h = tt
each_take P (suc n) [] h = h
each_take P (suc n) (x ∷ xs) h = (h.0, each_take P n xs h.1)

each_drop : (P : ℕ → Type 0) (n : ℕ) (xs : List ℕ) → Each P xs → Each P (drop n xs)
each_drop P zero xs h = h
each_drop P (suc n) [] h = h
each_drop P (suc n) (x ∷ xs) h = each_drop P n xs h.1

each_set : (P : ℕ → Type 0) (k n : ℕ) (xs : List ℕ) → P n → Each P xs → Each P (set xs k n)
each_set P zero n [] p h = h
each_set P (suc k) n [] p h = h
each_set P zero n (x ∷ xs) p h = (p, h.1)
each_set P (suc k) n (x ∷ xs) p h = (h.0, each_set P k n xs p h.1)

pub lost_remove : (lens : List ℕ) (k : ℕ) → HasLost lens k → get_or lens k 0 ≡ 0 → AreDense (take k lens ++ drop (suc k) lens) × Each (λ n. 0 < n) (take k lens ++ drop (suc k) lens)
lost_remove lens k h none =
    let n = get_or lens k 0 + 1 in
    let l = set lens k n in
    let inside : k < length l = (let i = h.inside in omega (arith, i, length-set lens k n)) in
    let same : take k l ++ drop (suc k) l ≡ take k lens ++ drop (suc k) lens = ap (λ (xs : List ℕ). xs ++ drop (suc k) l) (take-set lens k n) ∙ ap (λ (xs : List ℕ). take k lens ++ xs) (drop-set-lt (suc k) lens k n (omega arith)) in (
      subst AreDense same (dense_remove l k h.dense h.some inside (get_or-set_same lens k n 0 h.inside ∙ (let e : n ≡ 1 = omega (arith, none) in e))),
      subst (Each (λ n. 0 < n)) same (each_append (λ n. 0 < n) (take k l) (drop (suc k) l) (each_take (λ n. 0 < n) k l h.some) (each_drop (λ n. 0 < n) (suc k) l h.some)),
    )

pub lost_merge : (lens : List ℕ) (k : ℕ) → HasLost lens k → suc k < length lens
    → AreDense (take k lens ++ (get_or lens k 0 + get_or lens (suc k) 0) ∷ drop (suc (suc k)) lens) × Each (λ n. 0 < n) (take k lens ++ (get_or lens k 0 + get_or lens (suc k) 0) ∷ drop (suc (suc k)) lens)
lost_merge lens k h more =
    let n = get_or lens k 0 + 1 in
    let l = set lens k n in
    let other : get_or l (suc k) 0 ≡ get_or lens (suc k) 0 = get_or-set_other lens k (suc k) n 0 (λ e. absurd (omega arith)) in
    let inside : suc k < length l = omega (arith, more, length-set lens k n) in
    let next : 0 < get_or lens (suc k) 0 = subst (λ x. 0 < x) other (at l (suc k) inside h.some) in
    let same : take k l ++ (get_or lens k 0 + get_or l (suc k) 0) ∷ drop (suc (suc k)) l ≡ take k lens ++ (get_or lens k 0 + get_or lens (suc k) 0) ∷ drop (suc (suc k)) lens =
    ap (λ (xs : List ℕ). xs ++ (get_or lens k 0 + get_or l (suc k) 0) ∷ drop (suc (suc k)) l) (take-set lens k n)
    ∙ ap (λ (x : ℕ). take k lens ++ (get_or lens k 0 + x) ∷ drop (suc (suc k)) l) other
    ∙ ap (λ (xs : List ℕ). take k lens ++ (get_or lens k 0 + get_or lens (suc k) 0) ∷ xs) (drop-set-lt (suc (suc k)) lens k n (omega arith)) in (
      subst AreDense same (dense_merge l k (get_or lens k 0) h.dense h.some inside (get_or-set_same lens k n 0 h.inside)),
      subst (Each (λ n. 0 < n)) same (each_append (λ n. 0 < n) (take k l) ((get_or lens k 0 + get_or l (suc k) 0) ∷ drop (suc (suc k)) l) (each_take (λ n. 0 < n) k l h.some)
          (omega (arith, next, other), each_drop (λ n. 0 < n) (suc (suc k)) l h.some)),
    )
  where
    at : (xs : List ℕ) (i : ℕ) → i < length xs → Each (λ n. 0 < n) xs → 0 < get_or xs i 0
    at [] i h e = absurd (omega arith)
    at (x ∷ xs) zero h e = e.0
    at (x ∷ xs) (suc i) h e = at xs i (omega arith) e.1

pub lost_join : (lens : List ℕ) (j : ℕ) → HasLost lens (suc j) → 0 < get_or lens (suc j) 0 → (suc (suc j) < length lens → 128 < get_or lens (suc j) 0 + get_or lens (suc (suc j)) 0)
    → AreDense (take j lens ++ (get_or lens j 0 + get_or lens (suc j) 0) ∷ drop (suc (suc j)) lens) × Each (λ n. 0 < n) (take j lens ++ (get_or lens j 0 + get_or lens (suc j) 0) ∷ drop (suc (suc j)) lens)
lost_join lens j h left more =
    let k = suc j in
    let m = get_or lens k 0 in
    let n = m + 1 in
    let l = set lens k n in
    let low : get_or l j 0 ≡ get_or lens j 0 = get_or-set_other lens k j n 0 (λ e. absurd (omega arith)) in
    let high : get_or l (suc k) 0 ≡ get_or lens (suc k) 0 = get_or-set_other lens k (suc k) n 0 (λ e. absurd (omega arith)) in
    let size = length-set lens k n in
    let inside : k < length l = (let i = h.inside in omega (arith, i, size)) in
    let same : take j l ++ (get_or l j 0 + m) ∷ drop (suc k) l ≡ take j lens ++ (get_or lens j 0 + m) ∷ drop (suc k) lens =
    ap (λ (xs : List ℕ). xs ++ (get_or l j 0 + m) ∷ drop (suc k) l) (take-set-le j lens k n (omega arith))
    ∙ ap (λ (x : ℕ). take j lens ++ (x + m) ∷ drop (suc k) l) low
    ∙ ap (λ (xs : List ℕ). take j lens ++ (get_or lens j 0 + m) ∷ xs) (drop-set-lt (suc k) lens k n (omega arith)) in (
      subst AreDense same (dense_join l j m h.dense h.some inside (λ i. subst (λ x. 128 < m + x) (sym high) (more (omega (arith, i, size))))),
      subst (Each (λ n. 0 < n)) same (each_append (λ n. 0 < n) (take j l) ((get_or l j 0 + m) ∷ drop (suc k) l) (each_take (λ n. 0 < n) j l h.some)
          (omega (arith, left), each_drop (λ n. 0 < n) (suc k) l h.some)),
    )

pub lost_stay : (lens : List ℕ) (k : ℕ) → HasLost lens k → 0 < get_or lens k 0 → (suc k < length lens → 128 < get_or lens k 0 + get_or lens (suc k) 0) → (0 < k → 128 < get_or lens (k - 1) 0 + get_or lens k 0)
    → AreDense lens × Each (λ n. 0 < n) lens
lost_stay lens k h left next before =
    let m = get_or lens k 0 in
    let n = m + 1 in
    let l = set lens k n in
    let size = length-set lens k n in
    let same : set l k m ≡ lens = set-set lens k n m ∙ set-get_or lens k 0 in (
      subst AreDense same (dense_stay l k m h.dense
          (λ i. subst (λ x. 128 < m + x) (sym (get_or-set_other lens k (suc k) n 0 (λ e. absurd (omega arith)))) (next (omega (arith, i, size))))
          (λ i. subst (λ x. 128 < x + m) (sym (get_or-set_other lens k (k - 1) n 0 (λ e. absurd (omega arith)))) (before i))),
      subst (Each (λ n. 0 < n)) same (each_set (λ n. 0 < n) k m l left h.some),
    )

-- fit blocks that have entries
pub all_blocks : (blocks : List (List Entry)) → All IsFit blocks → Each (λ n. 0 < n) (lens_of blocks) → All IsBlock blocks
all_blocks [] fit some = All-nil IsBlock
all_blocks (b ∷ blocks) fit some = (let here = All-head IsFit b blocks fit in All-cons IsBlock b blocks (some.0, here) (all_blocks blocks (All-tail IsFit b blocks fit) some.1))

pub lost_from : (lens : List ℕ) (k n : ℕ) → AreDense lens → Each (λ n. 0 < n) lens → k < length lens → n + 1 ≡ get_or lens k 0 → HasLost (set lens k n) k
lost_from lens k n dense some inside is =
    let here = get_or-set_same lens k n 0 inside in
    let same : lens ≡ set (set lens k n) k (get_or (set lens k n) k 0 + 1) =
    sym (ap (λ (x : ℕ). set (set lens k n) k (x + 1)) here ∙ set-set lens k n (n + 1) ∙ ap (λ (x : ℕ). set lens k x) is ∙ set-get_or lens k 0) in
    record { dense = subst AreDense same dense; some = subst (Each (λ n. 0 < n)) same some; inside = omega (arith, length-set lens k n, inside) }

pub entries_drop : (blocks : List (List Entry)) (k : ℕ) → k < length blocks → length (entries_at blocks k) ≡ 0 → entries_of (take k blocks ++ drop (suc k) blocks) ≡ entries_of blocks
entries_drop [] k h e = absurd (omega arith)
entries_drop (b ∷ blocks) zero h e = ap (λ (es : List Entry). es ++ entries_of blocks) (sym (nil_from_length b e))
entries_drop (b ∷ blocks) (suc k) h e = ap (λ (es : List Entry). b ++ es) (entries_drop blocks k (omega arith) e)

pub lens_drop : (blocks : List (List Entry)) (k : ℕ) → lens_of (take k blocks ++ drop (suc k) blocks) ≡ take k (lens_of blocks) ++ drop (suc k) (lens_of blocks)
lens_drop [] zero = refl
lens_drop [] (suc k) = refl
lens_drop (b ∷ blocks) zero = refl
lens_drop (b ∷ blocks) (suc k) = ap (λ (ns : List ℕ). length b ∷ ns) (lens_drop blocks k)

-- what a merge leaves
merged : (blocks : List (List Entry)) (k : ℕ)
    → take k (lens_of blocks) ++ (get_or (lens_of blocks) k 0 + get_or (lens_of blocks) (suc k) 0) ∷ drop (suc (suc k)) (lens_of blocks) ≡ take k (lens_of blocks) ++ (length (entries_at blocks k) + length (entries_at blocks (k + 1))) ∷ drop (k + 2) (lens_of blocks)
merged blocks k =
    let l = lens_of blocks in
    let two : suc (suc k) ≡ k + 2 = omega arith in
    ap (λ (x : ℕ). take k l ++ (x + get_or l (suc k) 0) ∷ drop (suc (suc k)) l) (len_at blocks k)
    ∙ ap (λ (x : ℕ). take k l ++ (length (entries_at blocks k) + x) ∷ drop (suc (suc k)) l) (len_at blocks (suc k) ∙ ap (λ (n : ℕ). length (entries_at blocks n)) (sym (add-one k)))
    ∙ ap (λ (n : ℕ). take k l ++ (length (entries_at blocks k) + length (entries_at blocks (k + 1))) ∷ drop n l) two

pub mend_drop : (blocks : List (List Entry)) (k : ℕ) → HasLost (lens_of blocks) k → length (entries_at blocks k) ≡ 0
    → AreDense (take k (lens_of blocks) ++ drop (suc k) (lens_of blocks)) × Each (λ n. 0 < n) (take k (lens_of blocks) ++ drop (suc k) (lens_of blocks))
mend_drop blocks k lost none = lost_remove (lens_of blocks) k lost (len_at blocks k ∙ none)

pub mend_merge : (blocks : List (List Entry)) (k : ℕ) (lens : List ℕ) → HasLost (lens_of blocks) k → k + 1 < length blocks
    → lens ≡ take k (lens_of blocks) ++ (length (entries_at blocks k) + length (entries_at blocks (k + 1))) ∷ drop (k + 2) (lens_of blocks) → AreDense lens × Each (λ n. 0 < n) lens
mend_merge blocks k lens lost inside is =
    let r = lost_merge (lens_of blocks) k lost (omega (arith, inside, length-map blocks (λ (b : List Entry). length b))) in
    (subst AreDense (merged blocks k ∙ sym is) r.0, subst (Each (λ n. 0 < n)) (merged blocks k ∙ sym is) r.1)

next_is : (blocks : List (List Entry)) (k : ℕ) → (k + 1 < length blocks → 128 < length (entries_at blocks k) + length (entries_at blocks (k + 1))) → suc k < length (lens_of blocks)
    → 128 < get_or (lens_of blocks) k 0 + get_or (lens_of blocks) (suc k) 0
next_is blocks k more i =
    let here = len_at blocks k in
    let behind = len_at blocks (suc k) ∙ ap (λ (n : ℕ). length (entries_at blocks n)) (sym (add-one k)) in
    let much = more (omega (arith, i, length-map blocks (λ (b : List Entry). length b))) in
    omega (arith, here, behind, much)

pub mend_first : (blocks : List (List Entry)) → HasLost (lens_of blocks) 0 → 0 < length (entries_at blocks 0) → (0 + 1 < length blocks → 128 < length (entries_at blocks 0) + length (entries_at blocks (0 + 1)))
    → AreDense (lens_of blocks) × Each (λ n. 0 < n) (lens_of blocks)
mend_first blocks lost left more =
    lost_stay (lens_of blocks) 0 lost (let l = len_at blocks 0 in omega (arith, l, left)) (next_is blocks 0 more) (λ z. absurd (omega arith))

pub mend_join : (blocks : List (List Entry)) (j : ℕ) (lens : List ℕ) → HasLost (lens_of blocks) (j + 1) → 0 < length (entries_at blocks (j + 1))
    → (j + 1 + 1 < length blocks → 128 < length (entries_at blocks (j + 1)) + length (entries_at blocks (j + 1 + 1)))
    → lens ≡ take j (lens_of blocks) ++ (length (entries_at blocks j) + length (entries_at blocks (j + 1))) ∷ drop (j + 2) (lens_of blocks) → AreDense lens × Each (λ n. 0 < n) lens
mend_join blocks j lens lost left more is =
    let k = add-one j in
    let lost2 : HasLost (lens_of blocks) (suc j) = subst (HasLost (lens_of blocks)) k lost in
    let here = len_at blocks (suc j) ∙ ap (λ (n : ℕ). length (entries_at blocks n)) (sym k) in
    let r = lost_join (lens_of blocks) j lost2 (omega (arith, here, left)) (λ i. next_is blocks (suc j) (subst (λ n. n + 1 < length blocks → 128 < length (entries_at blocks n) + length (entries_at blocks (n + 1))) k more) i) in
    (subst AreDense (merged blocks j ∙ sym is) r.0, subst (Each (λ n. 0 < n)) (merged blocks j ∙ sym is) r.1)

pub mend_stay : (blocks : List (List Entry)) (j : ℕ) → HasLost (lens_of blocks) (j + 1) → 0 < length (entries_at blocks (j + 1))
    → (j + 1 + 1 < length blocks → 128 < length (entries_at blocks (j + 1)) + length (entries_at blocks (j + 1 + 1)))
    → (j + 1 < length blocks → 128 < length (entries_at blocks j) + length (entries_at blocks (j + 1))) → j + 1 < length blocks
    → AreDense (lens_of blocks) × Each (λ n. 0 < n) (lens_of blocks)
mend_stay blocks j lost left more less inside =
    let k = add-one j in
    let lost2 : HasLost (lens_of blocks) (suc j) = subst (HasLost (lens_of blocks)) k lost in
    let here = len_at blocks (suc j) ∙ ap (λ (n : ℕ). length (entries_at blocks n)) (sym k) in
    let before : 128 < get_or (lens_of blocks) j 0 + get_or (lens_of blocks) (suc j) 0 = next_is blocks j less (omega (arith, inside, length-map blocks (λ (b : List Entry). length b))) in
    lost_stay (lens_of blocks) (suc j) lost2 (omega (arith, here, left)) (λ i. next_is blocks (suc j) (subst (λ n. n + 1 < length blocks → 128 < length (entries_at blocks n) + length (entries_at blocks (n + 1))) k more) i)
    (λ z. subst (λ n. 128 < get_or (lens_of blocks) n 0 + get_or (lens_of blocks) (suc j) 0) (let e : j ≡ suc j - 1 = omega arith in e) before)
