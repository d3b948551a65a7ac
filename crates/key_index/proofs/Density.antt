-- Blocks that are not too empty.
use Rattle.std.proofs.Common.{◌≡◌, ℕ, zero, suc, ◌+◌, ◌-◌, ◌*◌, ◌<◌, ◌≤◌, List, [], ◌∷◌, ◌++◌, length, take, drop, get_or, set, refl, sym, ap, subst, ◌∙◌, arith, length-append, add-one}
use Rattle.std.proofs.lemmas.List.{length-map}
use Rattle.key_index.specs.declared.entries.Entry.{Entry}
use Rattle.key_index.specs.Order.{Each}
use Rattle.key_index.specs.inside.Dense.{AreDense}
use Rattle.key_index.specs.inside.Blocks.{entries_of, lens_of}

dense_tail : (a : ℕ) (lens : List ℕ) → AreDense (a ∷ lens) → AreDense lens
dense_tail a [] h = tt
dense_tail a (b ∷ lens) h = h.1

total : List ℕ → ℕ
total [] = 0
total (a ∷ lens) = a + total lens

-- so many blocks have so many entries
few : (lens : List ℕ) → AreDense lens → 129 * length lens ≤ 2 * total lens + 129
unfolding total
few [] h = omega arith
few (a ∷ []) h = omega arith
few (a ∷ b ∷ lens) h = let more = few lens (dense_tail b lens h.1) in let here = h.0 in omega (arith, more, here)

total_is : (blocks : List (List Entry)) → total (lens_of blocks) ≡ length (entries_of blocks)
unfolding total
total_is [] = refl
total_is (b ∷ blocks) = ap (λ n. length b + n) (total_is blocks) ∙ sym (length-append b (entries_of blocks))

pub few_blocks : (blocks : List (List Entry)) → AreDense (lens_of blocks) → 129 * length blocks ≤ 2 * length (entries_of blocks) + 129
few_blocks blocks h = let f = few (lens_of blocks) h in let t = total_is blocks in let l = length-map blocks (λ (b : List Entry). length b) in omega (arith, f, t, l)

-- a block that grows
pub dense_set : (lens : List ℕ) (k n : ℕ) → AreDense lens → get_or lens k 0 ≤ n → AreDense (set lens k n)
dense_set [] zero n h le = tt
dense_set [] (suc k) n h le = tt
dense_set (a ∷ []) zero n h le = tt
dense_set (a ∷ b ∷ lens) zero n h le = (let here = h.0 in omega (arith, here), h.1)
dense_set (a ∷ []) (suc zero) n h le = tt
dense_set (a ∷ []) (suc (suc k)) n h le = tt
dense_set (a ∷ b ∷ lens) (suc zero) n h le = (let here = h.0 in omega (arith, here), dense_set (b ∷ lens) zero n h.1 le)
dense_set (a ∷ b ∷ lens) (suc (suc k)) n h le = (h.0, dense_set (b ∷ lens) (suc k) n h.1 le)

-- a block that is cut in two
pub dense_cut : (lens : List ℕ) (k : ℕ) → AreDense lens → Each (λ n. 0 < n) lens → k < length lens → get_or lens k 0 ≡ 256 → AreDense (take k lens ++ 128 ∷ 128 ∷ drop (k + 1) lens)
dense_cut lens k h some inside full = subst (λ n. AreDense (take k lens ++ 128 ∷ 128 ∷ drop n lens)) (sym (add-one k)) (go lens k h some inside full)
  where
    go : (lens : List ℕ) (k : ℕ) → AreDense lens → Each (λ n. 0 < n) lens → k < length lens → get_or lens k 0 ≡ 256 → AreDense (take k lens ++ 128 ∷ 128 ∷ drop (suc k) lens)
    go [] k h some inside full = absurd (omega arith)
    go (a ∷ []) zero h some inside full = (omega arith, tt)
    go (a ∷ b ∷ lens) zero h some inside full = (omega arith, (let s = some.1.0 in omega (arith, s), h.1))
    go (a ∷ []) (suc k) h some inside full = absurd (omega arith)
    go (a ∷ b ∷ lens) (suc zero) h some inside full = (let s = some.0 in omega (arith, s), go (b ∷ lens) zero h.1 some.1 (omega arith) full)
    go (a ∷ b ∷ lens) (suc (suc k)) h some inside full = (h.0, go (b ∷ lens) (suc k) h.1 some.1 (omega arith) full)

pub dense_one : (lens : List ℕ) → length lens ≤ 1 → AreDense lens
dense_one [] h = tt
dense_one (a ∷ []) h = tt
dense_one (a ∷ b ∷ lens) h = absurd (omega arith)

-- ---- a block that loses an entry

-- it is empty, and goes
pub dense_remove : (lens : List ℕ) (k : ℕ) → AreDense lens → Each (λ n. 0 < n) lens → k < length lens → get_or lens k 0 ≡ 1 → AreDense (take k lens ++ drop (suc k) lens)
dense_remove [] k h some inside one = absurd (omega arith)
dense_remove (a ∷ []) zero h some inside one = tt
dense_remove (a ∷ b ∷ lens) zero h some inside one = h.1
dense_remove (a ∷ []) (suc k) h some inside one = absurd (omega arith)
dense_remove (a ∷ b ∷ []) (suc zero) h some inside one = tt
dense_remove (a ∷ b ∷ c ∷ lens) (suc zero) h some inside one = ((let x = h.0 in let y = some.1.1.0 in omega (arith, x, y, one)), h.1.1)
dense_remove (a ∷ b ∷ []) (suc (suc k)) h some inside one = absurd (omega arith)
dense_remove (a ∷ b ∷ c ∷ lens) (suc (suc k)) h some inside one = (h.0, dense_remove (b ∷ c ∷ lens) (suc k) h.1 some.1 (omega arith) one)

-- the block behind joins it
pub dense_merge : (lens : List ℕ) (k n : ℕ) → AreDense lens → Each (λ n. 0 < n) lens → suc k < length lens → get_or lens k 0 ≡ n + 1 → AreDense (take k lens ++ (n + get_or lens (suc k) 0) ∷ drop (suc (suc k)) lens)
dense_merge [] k n h some inside is = absurd (omega arith)
dense_merge (a ∷ []) k n h some inside is = absurd (omega arith)
dense_merge (a ∷ b ∷ []) zero n h some inside is = tt
dense_merge (a ∷ b ∷ c ∷ lens) zero n h some inside is = ((let x = h.1.0 in omega (arith, x)), h.1.1)
dense_merge (a ∷ b ∷ []) (suc k) n h some inside is = absurd (omega arith)
dense_merge (a ∷ b ∷ c ∷ lens) (suc zero) n h some inside is = ((let x = h.0 in let y = some.1.1.0 in omega (arith, x, y, is)), dense_merge (b ∷ c ∷ lens) zero n h.1 some.1 (omega arith) is)
dense_merge (a ∷ b ∷ c ∷ lens) (suc (suc k)) n h some inside is = (h.0, dense_merge (b ∷ c ∷ lens) (suc k) n h.1 some.1 (omega arith) is)

-- it joins the block before
pub dense_join : (lens : List ℕ) (k n : ℕ) → AreDense lens → Each (λ n. 0 < n) lens → suc k < length lens → (suc (suc k) < length lens → 128 < n + get_or lens (suc (suc k)) 0)
    → AreDense (take k lens ++ (get_or lens k 0 + n) ∷ drop (suc (suc k)) lens)
dense_join [] k n h some inside more = absurd (omega arith)
dense_join (a ∷ []) k n h some inside more = absurd (omega arith)
dense_join (a ∷ b ∷ []) zero n h some inside more = tt
dense_join (a ∷ b ∷ c ∷ lens) zero n h some inside more = ((let x = more (omega arith) in omega (arith, x)), h.1.1)
dense_join (a ∷ b ∷ []) (suc k) n h some inside more = absurd (omega arith)
dense_join (a ∷ b ∷ c ∷ lens) (suc zero) n h some inside more = ((let x = h.0 in omega (arith, x)), dense_join (b ∷ c ∷ lens) zero n h.1 some.1 (omega arith) (λ i. more (omega arith)))
dense_join (a ∷ b ∷ c ∷ lens) (suc (suc k)) n h some inside more = (h.0, dense_join (b ∷ c ∷ lens) (suc k) n h.1 some.1 (omega arith) (λ i. more (omega arith)))

-- it stays
pub dense_stay : (lens : List ℕ) (k n : ℕ) → AreDense lens → (suc k < length lens → 128 < n + get_or lens (suc k) 0) → (0 < k → 128 < get_or lens (k - 1) 0 + n) → AreDense (set lens k n)
dense_stay [] zero n h next before = tt
dense_stay [] (suc k) n h next before = tt
dense_stay (a ∷ []) zero n h next before = tt
dense_stay (a ∷ b ∷ lens) zero n h next before = (next (omega arith), h.1)
dense_stay (a ∷ []) (suc zero) n h next before = tt
dense_stay (a ∷ []) (suc (suc k)) n h next before = tt
dense_stay (a ∷ b ∷ lens) (suc zero) n h next before = (before (omega arith), dense_stay (b ∷ lens) zero n h.1 (λ i. next (omega arith)) (λ z. absurd (omega arith)))
dense_stay (a ∷ b ∷ lens) (suc (suc k)) n h next before =
    (h.0, dense_stay (b ∷ lens) (suc k) n h.1 (λ i. next (omega arith)) (λ z. subst (λ m. 128 < get_or (a ∷ b ∷ lens) m 0 + n) (index k) (before (omega arith))))
  where
    index : (k : ℕ) → suc (suc k) - 1 ≡ suc (suc k - 1)
    index k = omega arith
