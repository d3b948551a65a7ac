-- Keys in the order of their bytes.
use Rattle.std.proofs.Common.{◌≡◌, ℕ, ◌<◌, zero, suc, Bool, true, false, cond, List, [], ◌∷◌, length, length-set, take, Some, get_or, set, map, filter, arith, refl, sym, ap, ◌∙◌, add-one, true≢false, Ordering, Less, Equal, Greater, is_lt, IsPermutation, IsSorted}
use Rattle.std.specs.Prelude.{All}
use Rattle.std.specs.Ordering.{is_le, is_some_and, ordering_reverse, nat_cmp}
use Rattle.std.specs.Cmp.Lexicographic.{slice_cmp, slice_partial_cmp, lists_agrees}
use Rattle.std.specs.List.{swap}
use Rattle.std.specs.List.Sorted.{IsSortedByKey}
use Rattle.std.proofs.lemmas.Cmp.{nat_list_cmp_total, tied_itself, alike_right}
use Rattle.std.proofs.lemmas.List.{map-id}
use Rattle.std.proofs.lemmas.List.Elements.{All-head, All-tail, All-cons, All-filter, All-take}
use Rattle.std.proofs.lemmas.List.Sorted.{IsPermutation-keeps, IsPermutation-map}
use Rattle.std.proofs.lemmas.Map.Lookups.{exact_bytes}
use denote.Ref.{Bor}
use Rattle.rows.specs.Apply.{is_at_most, in_order, put_in_order}

-- each key is at most the next
abbrev pub IsBefore : List ℕ → List (List ℕ) → Type 0
IsBefore key [] = Unit {0}
IsBefore key (other ∷ others) = is_at_most key other ≡ true

abbrev pub IsInOrder : List (List ℕ) → Type 0
IsInOrder [] = Unit {0}
IsInOrder (key ∷ keys) = IsBefore key keys × IsInOrder keys

-- ---- the order is total

itself : (a : List ℕ) → is_at_most a a ≡ true
itself a = ap is_le (tied_itself nat_list_cmp_total a)

reversed_le : (o : Ordering) → is_le o ≡ false → is_le (ordering_reverse o) ≡ true
reversed_le Less e = cc
reversed_le Equal e = refl
reversed_le Greater e = refl

other_way : (a b : List ℕ) → is_at_most a b ≡ false → is_at_most b a ≡ true
other_way a b e = ap is_le (nat_list_cmp_total.antisymm b a) ∙ reversed_le (slice_cmp nat_cmp a b) e

tied : (o : Ordering) → is_le o ≡ true → is_le (ordering_reverse o) ≡ true → o ≡ Equal
tied Less e f = cc
tied Equal e f = refl
tied Greater e f = cc

same : (a b : List ℕ) → is_at_most a b ≡ true → is_at_most b a ≡ true → a ≡ b
same a b e f =
    exact_bytes a b (tied (slice_cmp nat_cmp a b) e (sym (ap is_le (nat_list_cmp_total.antisymm b a)) ∙ f))

through : (a b c : List ℕ) → is_at_most a b ≡ true → is_at_most b c ≡ true → is_at_most a c ≡ true
through a b c e f = go (slice_cmp nat_cmp a b) (slice_cmp nat_cmp b c) refl refl e f
  where
    go : (o p : Ordering) → slice_cmp nat_cmp a b ≡ o → slice_cmp nat_cmp b c ≡ p → is_le o ≡ true → is_le p ≡ true → is_at_most a c ≡ true
    go Less Less s t e f = ap is_le (nat_list_cmp_total.trans a b c s t)
    go Less Equal s t e f = ap is_le (sym (alike_right nat_list_cmp_total b c a t) ∙ s)
    go Less Greater s t e f = cc
    go Equal p s t e f = ap is_le (nat_list_cmp_total.congr a b c s ∙ t) ∙ f
    go Greater p s t e f = cc

not_through : (a b c : List ℕ) → is_at_most a c ≡ true → is_at_most b c ≡ false → is_at_most b a ≡ false
not_through a b c e f = go (is_at_most b a) refl
  where
    go : (o : Bool) → is_at_most b a ≡ o → is_at_most b a ≡ false
    go true s = absurd (true≢false (sym (through b a c s e) ∙ f))
    go false s = s

-- a comparison of the bytes
pub at_most_compares : (a b : List ℕ) → is_some_and is_le (slice_partial_cmp (λ x y. Some (nat_cmp x y)) a b) ≡ is_at_most a b
at_most_compares a b = ap (is_some_and is_le) (lists_agrees (λ x y. refl) a b)

-- ---- keys are put in one after another, in any order

pair : (a b : List ℕ) (rest : List (List ℕ)) → cond (is_at_most a b) (a ∷ b ∷ rest) (b ∷ a ∷ rest) ≡ cond (is_at_most b a) (b ∷ a ∷ rest) (a ∷ b ∷ rest)
pair a b rest = go (is_at_most a b) (is_at_most b a) refl refl
  where
    go : (o p : Bool) → is_at_most a b ≡ o → is_at_most b a ≡ p → cond o (a ∷ b ∷ rest) (b ∷ a ∷ rest) ≡ cond p (b ∷ a ∷ rest) (a ∷ b ∷ rest)
    go true true e f = let alike = same a b e f in rw alike refl
    go true false e f = refl
    go false true e f = refl
    go false false e f = absurd (true≢false (sym (other_way a b e) ∙ f))

commute : (a b : List ℕ) (keys : List (List ℕ)) → put_in_order a (put_in_order b keys) ≡ put_in_order b (put_in_order a keys)
commute a b [] = pair a b []
commute a b (c ∷ keys) = go (is_at_most a c) (is_at_most b c) refl refl (commute a b keys)
  where
    go : (o p : Bool) → is_at_most a c ≡ o → is_at_most b c ≡ p → put_in_order a (put_in_order b keys) ≡ put_in_order b (put_in_order a keys)
        → put_in_order a (cond p (b ∷ c ∷ keys) (c ∷ put_in_order b keys)) ≡ put_in_order b (cond o (a ∷ c ∷ keys) (c ∷ put_in_order a keys))
    go true true e f more = rw (e, f) (pair a b (c ∷ keys))
    go true false e f more = rw (e, not_through a b c e f, f) refl
    go false true e f more = rw (f, not_through b a c f e, e) refl
    go false false e f more = rw (e, f) (ap (λ ks. c ∷ ks) more)

-- what is put in can be taken out
taken : List ℕ → List (List ℕ) → List (List ℕ)
taken key [] = []
taken key (other ∷ others) = cond (is_at_most key other) others (other ∷ taken key others)

taken-put : (a : List ℕ) (keys : List (List ℕ)) → taken a (put_in_order a keys) ≡ keys
unfolding taken
taken-put a [] = rw (itself a) refl
taken-put a (c ∷ keys) = go (is_at_most a c) refl (taken-put a keys)
  where
    go : (o : Bool) → is_at_most a c ≡ o → taken a (put_in_order a keys) ≡ keys → taken a (cond o (a ∷ c ∷ keys) (c ∷ put_in_order a keys)) ≡ c ∷ keys
    go true e more = rw (itself a) refl
    go false e more = rw e (ap (λ ks. c ∷ ks) more)

-- ---- the order of a list does not depend on how it was permuted

put-set : (keys : List (List ℕ)) (i : ℕ) (key d : List ℕ) → i < length keys
    → put_in_order (get_or keys i d) (in_order (set keys i key)) ≡ put_in_order key (in_order keys)
put-set [] i key d within = absurd (omega arith)
put-set (k ∷ keys) zero key d within = commute k key (in_order keys)
put-set (k ∷ keys) (suc i) key d within =
    commute (get_or keys i d) k (in_order (set keys i key))
    ∙ ap (put_in_order k) (put-set keys i key d (omega arith))
    ∙ commute k key (in_order keys)

get-set : (keys : List (List ℕ)) (i j : ℕ) (d : List ℕ) → j < length keys → get_or (set keys i (get_or keys j d)) j d ≡ get_or keys j d
get-set [] i j d within = absurd (omega arith)
get-set (k ∷ keys) zero zero d within = refl
get-set (k ∷ keys) zero (suc j) d within = refl
get-set (k ∷ keys) (suc i) zero d within = refl
get-set (k ∷ keys) (suc i) (suc j) d within = get-set keys i j d (omega arith)

in_order-swap : (keys : List (List ℕ)) (i j : ℕ) → i < length keys → j < length keys → in_order (swap keys i j) ≡ in_order keys
in_order-swap [] i j first second = refl
in_order-swap (d ∷ ks) i j first second =
    let keys = d ∷ ks in
    let a = get_or keys i d in
    let b = get_or keys j d in
    let half = set keys i b in
    let step : put_in_order (get_or half j d) (in_order (set half j a)) ≡ put_in_order a (in_order half) = put-set half j a d (omega (arith, length-set keys i b)) in
    let through_both : put_in_order b (in_order (set half j a)) ≡ put_in_order b (in_order keys) =
    ap (λ k. put_in_order k (in_order (set half j a))) (sym (get-set keys i j d second)) ∙ step ∙ put-set keys i b d first in
    sym (taken-put b (in_order (set half j a))) ∙ ap (taken b) through_both ∙ taken-put b (in_order keys)

in_order-permutation : (keys others : List (List ℕ)) → IsPermutation keys others → in_order others ≡ in_order keys
in_order-permutation keys others moved =
    IsPermutation-keeps keys (λ ks. in_order ks ≡ in_order keys) refl (λ ks i j first second so_far. in_order-swap ks i j first second ∙ so_far) others moved

-- ---- a list in order stays

put-first : (key : List ℕ) (keys : List (List ℕ)) → IsBefore key keys → put_in_order key keys ≡ key ∷ keys
put-first key [] before = refl
put-first key (other ∷ others) before = rw before refl

pub in_order-stays : (keys : List (List ℕ)) → IsInOrder keys → in_order keys ≡ keys
in_order-stays [] are = refl
in_order-stays (key ∷ keys) are = ap (put_in_order key) (in_order-stays keys are.1) ∙ put-first key keys are.0

before-put : (c key : List ℕ) (keys : List (List ℕ)) → is_at_most c key ≡ true → IsBefore c keys → IsBefore c (put_in_order key keys)
before-put c key [] here later = here
before-put c key (other ∷ others) here later = go (is_at_most key other)
  where
    go : (o : Bool) → IsBefore c (cond o (key ∷ other ∷ others) (other ∷ put_in_order key others))
    go true = here
    go false = later

put-in_order : (key : List ℕ) (keys : List (List ℕ)) → IsInOrder keys → IsInOrder (put_in_order key keys)
put-in_order key [] are = (tt, tt)
put-in_order key (c ∷ keys) are = go (is_at_most key c) refl (put-in_order key keys are.1)
  where
    go : (o : Bool) → is_at_most key c ≡ o → IsInOrder (put_in_order key keys) → IsInOrder (cond o (key ∷ c ∷ keys) (c ∷ put_in_order key keys))
    go true e more = (e, are)
    go false e more = (before-put c key keys (other_way key c e) are.0, more)

in_order-is : (keys : List (List ℕ)) → IsInOrder (in_order keys)
in_order-is [] = tt
in_order-is (key ∷ keys) = put-in_order key (in_order keys) (in_order-is keys)

before-take : (key : List ℕ) (n : ℕ) (keys : List (List ℕ)) → IsBefore key keys → IsBefore key (take n keys)
before-take key zero keys before = tt
before-take key (suc n) [] before = tt
before-take key (suc n) (other ∷ others) before = before

take-in_order : (n : ℕ) (keys : List (List ℕ)) → IsInOrder keys → IsInOrder (take n keys)
take-in_order zero keys are = tt
take-in_order (suc n) [] are = tt
take-in_order (suc n) (key ∷ keys) are = (before-take key n keys are.0, take-in_order n keys are.1)

-- the first keys of a list in order are in order
pub first_stay : (n : ℕ) (keys : List (List ℕ)) → in_order (take n (in_order keys)) ≡ take n (in_order keys)
first_stay n keys = in_order-stays (take n (in_order keys)) (take-in_order n (in_order keys) (in_order-is keys))

-- ---- what a sort gives

abbrev pub key_cmp : Bor (List ℕ) → Bor (List ℕ) → Ordering
key_cmp a b = slice_cmp nat_cmp a.now b.now

not_below : (o : Ordering) → is_lt o ≡ false → is_le (ordering_reverse o) ≡ true
not_below Less e = cc
not_below Equal e = refl
not_below Greater e = refl

-- what is sorted by its keys has keys in order
from_sorted : {X : Type 0} (key : X → List ℕ) (xs : List X) → IsSortedByKey key (slice_cmp nat_cmp) xs → IsInOrder (map key xs)
from_sorted key [] sorted = tt
from_sorted key (a ∷ []) sorted = (tt, tt)
from_sorted key (a ∷ b ∷ xs) sorted =
    let first : is_lt (slice_cmp nat_cmp (key b) (key a)) ≡ false = sorted 0 a (omega arith) (omega arith) in
    let tail : IsSortedByKey key (slice_cmp nat_cmp) (b ∷ xs) = λ k d p q. rw add-one (rw add-one at (sorted (suc k) d (omega arith) (omega arith))) in
    (ap is_le (nat_list_cmp_total.antisymm (key a) (key b)) ∙ not_below (slice_cmp nat_cmp (key b) (key a)) first, from_sorted key (b ∷ xs) tail)

sorted_by : {X : Type 0} (key : X → List ℕ) (xs sorted : List X) → IsPermutation xs sorted → IsSortedByKey key (slice_cmp nat_cmp) sorted → map key sorted ≡ in_order (map key xs)
sorted_by key xs sorted moved rises =
    sym (in_order-stays (map key sorted) (from_sorted key sorted rises))
    ∙ in_order-permutation (map key xs) (map key sorted) (IsPermutation-map key xs sorted moved)

-- the keys sorted by their bytes
pub sorted_is : (keys sorted : List (Bor (List ℕ))) → IsPermutation keys sorted → IsSorted key_cmp sorted
    → map (λ key. key.now) sorted ≡ in_order (map (λ key. key.now) keys)
sorted_is keys sorted moved rises = sorted_by (λ key. key.now) keys sorted moved rises

-- keys in order are the one sorted list of them
pub sorted_one : (keys sorted : List (List ℕ)) → IsPermutation keys sorted → IsSorted (slice_cmp nat_cmp) sorted → in_order keys ≡ sorted
sorted_one keys sorted moved rises =
    let are : IsInOrder sorted = rw map-id at (from_sorted (λ key. key) sorted rises) in
    sym (in_order-permutation keys sorted moved) ∙ in_order-stays sorted are

-- ---- what holds of all keys holds of those in order

All-put : (P : List ℕ → Type 0) (key : List ℕ) (keys : List (List ℕ)) → P key → All P keys → All P (put_in_order key keys)
All-put P key [] here all = All-cons P key [] here all
All-put P key (c ∷ keys) here all = go (is_at_most key c) (All-put P key keys here (All-tail P c keys all))
  where
    go : (o : Bool) → All P (put_in_order key keys) → All P (cond o (key ∷ c ∷ keys) (c ∷ put_in_order key keys))
    go true more = All-cons P key (c ∷ keys) here all
    go false more = All-cons P c (put_in_order key keys) (All-head P c keys all) more

pub All-in_order : (P : List ℕ → Type 0) (keys : List (List ℕ)) → All P keys → All P (in_order keys)
All-in_order P [] all = all
All-in_order P (key ∷ keys) all = All-put P key (in_order keys) (All-head P key keys all) (All-in_order P keys (All-tail P key keys all))

pub All-scanned : (P : List ℕ → Type 0) (p : List ℕ → Bool) (n : ℕ) (keys : List (List ℕ)) → All P keys → All P (take n (in_order (filter p keys)))
All-scanned P p n keys all = All-take P n (in_order (filter p keys)) (All-in_order P (filter p keys) (All-filter p P keys all))
