-- Chains of tickets, after a word changes.
use Rattle.std.proofs.Common.{◌≡◌, ◌≢◌, ℕ, zero, suc, ◌<◌, ◌≤◌, cond, List, [], ◌∷◌, length, set, sym, refl, ap, ◌∙◌, subst, arith, get_or-set_other, get_or-set_same, eq-eqb, ne_eqb}
use mathlib.Core.Logic.{dite}
use native.Mathlib.Decide.{ℕ_discrete}
use Rattle.foreign_list.specs.inside.Words.{word_at, link_to, IsChain, chain, same, times}

pub same_here : (t : ℕ) → same t t ≡ 1
same_here t = ap (λ b. cond b 1 0) (eq-eqb t t refl)

pub same_is : (t u : ℕ) → t ≡ u → same t u ≡ 1
same_is t u e = ap (λ b. cond b 1 0) (eq-eqb t u e)

pub same_not : (t u : ℕ) → t ≢ u → same t u ≡ 0
same_not t u n = ap (λ b. cond b 1 0) (ne_eqb t u n)

pub apart : (t u : ℕ) → same t u ≡ 0 → t ≢ u
apart t u z e = let a = same_is t u e in absurd (omega arith)

pub together : (t u : ℕ) → 0 < same t u → t ≡ u
together t u p = dite (ℕ_discrete t u) (λ e. e) (λ n. let a = same_not t u n in absurd (omega arith))

-- the next word of a ticket that is not on the chain
pub chain_off : (words : List ℕ) (word t n : ℕ) (ts : List ℕ) → times t ts ≡ 0 → IsChain words word ts → IsChain (set words (suc t) n) word ts
chain_off words word t n [] off c = c
chain_off words word t n (u ∷ us) off c =
    let other : u ≢ t = λ e. (let a = same_is t u (sym e) in absurd (omega arith)) in
    let step : word_at (set words (suc t) n) (suc u) ≡ word_at words (suc u) = get_or-set_other words (suc t) (suc u) n 0 (λ (e : suc u ≡ suc t). other (omega arith)) in
    (c.0, subst (λ k. IsChain (set words (suc t) n) k us) (sym step) (chain_off words (word_at words (suc u)) t n us (omega arith) c.1))

-- the head
pub chain_head : (words : List ℕ) (word n : ℕ) (ts : List ℕ) → IsChain words word ts → IsChain (set words 0 n) word ts
chain_head words word n [] c = c
chain_head words word n (u ∷ us) c =
    let step : word_at (set words 0 n) (suc u) ≡ word_at words (suc u) = get_or-set_other words 0 (suc u) n 0 (λ (e : suc u ≡ 0). absurd (omega arith)) in
    (c.0, subst (λ k. IsChain (set words 0 n) k us) (sym step) (chain_head words (word_at words (suc u)) n us c.1))

-- a won swing puts its ticket in front
pub chain_front : (words : List ℕ) (t : ℕ) (ts : List ℕ) → 0 < length words → word_at words (suc t) ≡ word_at words 0 → IsChain words (word_at words 0) ts → IsChain (set words 0 (suc t)) (word_at (set words 0 (suc t)) 0) (t ∷ ts)
chain_front words t ts some next c =
    let step : word_at (set words 0 (suc t)) (suc t) ≡ word_at words 0 = get_or-set_other words 0 (suc t) (suc t) 0 (λ (e : suc t ≡ 0). absurd (omega arith)) ∙ next in
    (get_or-set_same words 0 (suc t) 0 some, subst (λ k. IsChain (set words 0 (suc t)) k ts) (sym step) (chain_head words (word_at words 0) (suc t) ts c))

-- a chain begins at the word that leads to its first
pub chain_link : (words : List ℕ) (word : ℕ) (ts : List ℕ) → IsChain words word ts → word ≡ link_to ts
chain_link words word [] c = c
chain_link words word (u ∷ us) c = c.0

-- a word other than none leads to a first
pub link_first : (ts : List ℕ) (word t : ℕ) → word ≡ link_to ts → word ≡ suc t → (left : List ℕ) × (ts ≡ t ∷ left)
link_first [] word t is next = absurd (omega arith)
link_first (u ∷ us) word t is next = (us, ap (λ k. k ∷ us) (let e : u ≡ t = omega arith in e))

-- what is left of a chain, once its first is gone
pub chain_rest : (words : List ℕ) (t : ℕ) (ts : List ℕ) → IsChain words (suc t) (t ∷ ts) → IsChain words (link_to ts) ts
chain_rest words t ts c = subst (λ k. IsChain words k ts) (chain_link words (word_at words (suc t)) ts c.1) c.1

-- a chain that is no longer than the links is what the words give
pub chain_is : (links : ℕ) (words : List ℕ) (word : ℕ) (ts : List ℕ) → length ts ≤ links → IsChain words word ts → chain links words word ≡ ts
chain_is zero words word [] short c = refl
chain_is zero words word (u ∷ us) short c = absurd (omega arith)
chain_is (suc links) words word [] short c = subst (λ w. chain (suc links) words w ≡ []) (sym c) refl
chain_is (suc links) words word (u ∷ us) short c = subst (λ w. chain (suc links) words w ≡ u ∷ us) (sym c.0) (ap (λ vs. u ∷ vs) (chain_is links words (word_at words (suc u)) us (omega arith) c.1))
