-- Which bytes are allocated, as extents come and go.
use Rattle.std.proofs.Common.{◌≡◌, ℕ, ◌+◌, ◌<◌, ◌≤◌, Bool, true, false, cond, not, ◌==◌, ◌&&◌, ◌||◌, List, [], ◌∷◌, ◌++◌, length}
use Rattle.std.proofs.Common.{take, drop, refl, sym, ap, ◌∙◌, subst, ◌⊎◌, inl, inr, arith, take-append-drop, length-take-le, length-drop, length-append, leb, ltb, eqb, eq-eqb}
use Rattle.std.specs.Prelude.{All, Contains, filter, slice_index_or}
use Rattle.std.specs.List.{list_any}
use Rattle.std.proofs.Math.Nat.{eq-or-lt_of_le}
use Rattle.std.proofs.lemmas.List.{get_or_default}
use Rattle.std.proofs.lemmas.Bool.Decides.{leb_tells}
use Rattle.std.proofs.lemmas.Bool.{le-leb, lt-leb, lt-ltb, le-ltb, ne_eqb}
use Rattle.std.proofs.lemmas.List.Elements.{All-cons, All-head, All-tail, All-filter, All-contains}
use Rattle.std.proofs.lemmas.List.Kept.{AllPairs-cons, AllPairs-filter}
use Rattle.std.proofs.lemmas.List.Folds.{list_any_none, list_any_at}
use Rattle.layout.specs.Extents.{Extent, Disjoint, IsWithin, AreDisjoint}
use Rattle.raw_range.specs.Memory.{remove_extent, written}
use Rattle.raw_range.specs.inside.Covered.{covers, is_allocated}

eqb-same : (n : ℕ) → eqb n n ≡ true
eqb-same n = eq-eqb n n refl

abbrev pub IsIn : Extent → ℕ → Type 0
IsIn p k = (p.start ≤ k) × (k < p.start + p.len)

abbrev pub IsBeside : Extent → ℕ → Type 0
IsBeside p k = (k < p.start) ⊎ (p.start + p.len ≤ k)

pub covers-in : (p : Extent) (k : ℕ) → IsIn p k → covers p k ≡ true
covers-in p k h = rw (le-leb p.start k h.0, lt-ltb k (p.start + p.len) h.1) refl

pub covers-beside : (p : Extent) (k : ℕ) → IsBeside p k → covers p k ≡ false
covers-beside p k (inl h) = rw (lt-leb p.start k h) refl
covers-beside p k (inr h) = elim (leb p.start k) as (λ b. (b && ltb k (p.start + p.len)) ≡ false) [ true ↦ le-ltb k (p.start + p.len) h | false ↦ refl ]

pub beside-apart : (p q : Extent) (k : ℕ) → Disjoint p q → IsIn p k → IsBeside q k
beside-apart p q k (inl a) h = inl (omega (arith, a, h.0, h.1))
beside-apart p q k (inr a) h = inr (omega (arith, a, h.0, h.1))

pub apart-sym : (p q : Extent) → Disjoint p q → Disjoint q p
apart-sym p q (inl a) = inr a
apart-sym p q (inr a) = inl a

-- an extent that is apart from those allocated has no byte allocated
pub is_allocated-apart : (allocated : List Extent) (p : Extent) (k : ℕ) → All (Disjoint p) allocated → IsIn p k → is_allocated allocated k ≡ false
is_allocated-apart allocated p k apart h =
    list_any_none (λ q. covers q k) allocated (λ i d w. covers-beside (slice_index_or allocated i d) k (beside-apart p (slice_index_or allocated i d) k (apart i d w) h))

-- behind the end of all extents no byte is allocated
pub is_allocated-behind : (size : ℕ) (allocated : List Extent) (k : ℕ) → All (IsWithin size) allocated → size ≤ k → is_allocated allocated k ≡ false
is_allocated-behind size allocated k within h =
    list_any_none (λ q. covers q k) allocated (λ i d w. let q = slice_index_or allocated i d in covers-beside q k (inr (omega (arith, (within i d w).1, h))))

pub is_allocated-cons_in : (allocated : List Extent) (p : Extent) (k : ℕ) → IsIn p k → is_allocated (p ∷ allocated) k ≡ true
is_allocated-cons_in allocated p k h = rw (covers-in p k h) refl

pub is_allocated-cons_beside : (allocated : List Extent) (p : Extent) (k : ℕ) → IsBeside p k → is_allocated allocated k ≡ is_allocated (p ∷ allocated) k
is_allocated-cons_beside allocated p k h = rw (covers-beside p k h) refl

any-filter_same : {X : Type 0} (t f : X → Bool) (xs : List X) → All (λ x. (t x ≡ true) ⊎ (f x ≡ false)) xs → list_any f (filter t xs) ≡ list_any f xs
any-filter_same t f [] h = refl
any-filter_same {X} t f (x ∷ xs) h =
    let P : X → Type 0 = λ y. (t y ≡ true) ⊎ (f y ≡ false) in
    let rest = any-filter_same t f xs (All-tail P x xs h) in
    elim (All-head P x xs h) [
      | inl e ↦ rw e (rw rest refl)
      | inr e ↦ elim (t x) as (λ b. list_any f (cond b (x ∷ filter t xs) (filter t xs)) ≡ (f x || list_any f xs)) [ true ↦ rw rest refl | false ↦ rw (e, rest) refl ]
    ]

any-filter_none : {X : Type 0} (t f : X → Bool) (xs : List X) → All (λ x. (t x ≡ false) ⊎ (f x ≡ false)) xs → list_any f (filter t xs) ≡ false
any-filter_none t f [] h = refl
any-filter_none {X} t f (x ∷ xs) h =
    let P : X → Type 0 = λ y. (t y ≡ false) ⊎ (f y ≡ false) in
    let rest = any-filter_none t f xs (All-tail P x xs h) in
    elim (All-head P x xs h) [
      | inl e ↦ rw e rest
      | inr e ↦ elim (t x) as (λ b. list_any f (cond b (x ∷ filter t xs) (filter t xs)) ≡ false) [ true ↦ rw e rest | false ↦ rest ]
    ]

-- two blocks that begin at one place are one, and others are apart
same_or_apart : (size : ℕ) (allocated : List Extent) (p : Extent) → AreDisjoint size allocated → Contains allocated p → (i : ℕ) (d : Extent) → i < length allocated
    → (slice_index_or allocated i d ≡ p) ⊎ Disjoint p (slice_index_or allocated i d)
same_or_apart size allocated p blocks has i d w =
    let j = has.0 in
    let at_j : slice_index_or allocated j d ≡ p = get_or_default allocated j d p has.1 ∙ has.2 in
    elim (leb_tells i j) [
      | inl low ↦ elim (eq-or-lt_of_le low.1) [
        | inl e ↦ inl (ap (λ k. slice_index_or allocated k d) e ∙ at_j)
        | inr below ↦ inr (apart-sym (slice_index_or allocated i d) p (subst (λ q. Disjoint (slice_index_or allocated i d) q) at_j (blocks.1 i j d below has.1)))
      ]
      | inr high ↦ inr (subst (λ q. Disjoint q (slice_index_or allocated i d)) at_j (blocks.1 j i d high.1 w))
    ]

-- a place that begins where p does is not apart from p
begins_elsewhere : (p q : Extent) → 0 < p.len → 0 < q.len → Disjoint p q → eqb q.start p.start ≡ false
begins_elsewhere p q some more (inl a) = ne_eqb q.start p.start (λ e. omega (arith, a, some, e))
begins_elsewhere p q some more (inr a) = ne_eqb q.start p.start (λ e. omega (arith, a, more, e))

pub is_allocated-has : (allocated : List Extent) (p : Extent) (k : ℕ) → Contains allocated p → IsIn p k → is_allocated allocated k ≡ true
is_allocated-has allocated p k has h = list_any_at (λ q. covers q k) allocated has.0 p has.1 (rw has.2 (covers-in p k h))

module _ (size : ℕ) (allocated : List Extent) (p : Extent) (blocks : AreDisjoint size allocated) (has : Contains allocated p) where
  pub within_blocks : IsWithin size p
  within_blocks = All-contains (IsWithin size) allocated p blocks.0 has

  pub is_allocated-without_in : (k : ℕ) → IsIn p k → is_allocated (remove_extent p allocated) k ≡ false
  is_allocated-without_in k h =
      any-filter_none (λ q. not (q.start == p.start)) (λ q. covers q k) allocated (λ i d w.
      elim (same_or_apart size allocated p blocks has i d w) [
        | inl e ↦ inl (rw e (rw (eqb-same p.start) refl))
        | inr a ↦ inr (covers-beside (slice_index_or allocated i d) k (beside-apart p (slice_index_or allocated i d) k a h))
      ])

  pub is_allocated-without_beside : (k : ℕ) → IsBeside p k → is_allocated allocated k ≡ is_allocated (remove_extent p allocated) k
  is_allocated-without_beside k h =
      sym (any-filter_same (λ q. not (q.start == p.start)) (λ q. covers q k) allocated (λ i d w.
      elim (same_or_apart size allocated p blocks has i d w) [
        | inl e ↦ inr (rw e (covers-beside p k h))
        | inr a ↦ inl (rw (begins_elsewhere p (slice_index_or allocated i d) within_blocks.0 (blocks.0 i d w).0 a) refl)
      ]))

  pub AreDisjoint-remove_extent : AreDisjoint size (remove_extent p allocated)
  AreDisjoint-remove_extent = (All-filter (λ q. not (q.start == p.start)) (IsWithin size) allocated blocks.0, AllPairs-filter Disjoint (λ q. not (q.start == p.start)) allocated blocks.1)

-- the bytes before a place, in it and behind it
pub three_parts : (at n : ℕ) (xs : List ℕ) → xs ≡ take at xs ++ (take n (drop at xs) ++ drop n (drop at xs))
three_parts at n xs = sym (take-append-drop at xs) ∙ ap (λ ys. take at xs ++ ys) (sym (take-append-drop n (drop at xs)))

pub in_place : (p : Extent) (k m l : ℕ) → m ≡ p.start → l ≡ p.len → m ≤ k → k < m + l → IsIn p k
in_place p k m l e f low high = (omega (arith, e, f, low), omega (arith, e, f, high))

pub beside_place : (p : Extent) (k m l : ℕ) → m ≡ p.start → l ≡ p.len → (k < m) ⊎ (m + l ≤ k) → IsBeside p k
beside_place p k m l e f (inl h) = inl (omega (arith, e, f, h))
beside_place p k m l e f (inr h) = inr (omega (arith, e, f, h))

pub AreDisjoint-cons : (size : ℕ) (p : Extent) (allocated : List Extent) → IsWithin size p → All (Disjoint p) allocated → AreDisjoint size allocated → AreDisjoint size (p ∷ allocated)
AreDisjoint-cons size p allocated within apart blocks = (All-cons (IsWithin size) p allocated within blocks.0, AllPairs-cons Disjoint p allocated apart blocks.1)

pub length-written : (bytes ws : List ℕ) (at : ℕ) → at + length ws ≤ length bytes → length (written bytes at ws) ≡ length bytes
length-written bytes ws at h =
    length-append (take at bytes) (ws ++ drop (at + length ws) bytes)
    ∙ omega (arith, h, length-take-le at bytes (omega (arith, h)), length-append ws (drop (at + length ws) bytes), length-drop (at + length ws) bytes)
