-- Two lists of keys made one: what its first keys are, that it has all of the keys, and that it is in order where both are.
use Rattle.std.proofs.Common.{◌≡◌, ℕ, ◌≤◌, zero, suc, Bool, true, false, cond, List, [], ◌∷◌, ◌++◌, take, arith, refl, ap, ◌∙◌, add-one, append-nil, take-take, Ordering, Less, Equal, Greater, is_le, is_lt, nat_cmp, IsPermutation, IsSorted}
use Rattle.std.specs.Ordering.{ordering_reverse}
use Rattle.std.specs.Cmp.Lexicographic.{slice_cmp}
use Rattle.std.specs.List.Sorted.{IsStrictlySortedBy}
use Rattle.std.proofs.lemmas.Cmp.{nat_list_cmp_total}
use Rattle.std.proofs.lemmas.List.Sorted.{IsPermutation-cons, IsPermutation-middle, IsPermutation-refl, IsPermutation-trans}
use Rattle.rows.specs.Apply.{is_at_most}
use Rattle.report_text.specs.inside.Merged.{merged, put_among}

-- ---- the first keys of both lists need the first of the others alone

first-among : (key : List ℕ) (after : List (List ℕ) → List (List ℕ)) → ((n m : ℕ) (others : List (List ℕ)) → n ≤ m → take n (after (take m others)) ≡ take n (after others))
    → (n m : ℕ) (others : List (List ℕ)) → n ≤ m → take n (put_among key after (take m others)) ≡ take n (put_among key after others)
first-among key after few zero m others up = refl
first-among key after few (suc n) zero others up = absurd (omega (arith, up))
first-among key after few (suc n) (suc m) [] up = refl
first-among key after few (suc n) (suc m) (other ∷ others) up = go (is_at_most key other) (first-among key after few n m others (omega (arith, up)))
  where
    go : (o : Bool) → take n (put_among key after (take m others)) ≡ take n (put_among key after others)
        → take (suc n) (cond o (key ∷ after (other ∷ take m others)) (other ∷ put_among key after (take m others)))
        ≡ take (suc n) (cond o (key ∷ after (other ∷ others)) (other ∷ put_among key after others))
    go true later = ap (λ keys. key ∷ keys) (few n (suc m) (other ∷ others) (omega (arith, up)))
    go false later = ap (λ keys. other ∷ keys) later

first-merged : (keys : List (List ℕ)) (n m : ℕ) (others : List (List ℕ)) → n ≤ m → take n (merged keys (take m others)) ≡ take n (merged keys others)
first-merged [] n m others up = take-take n m others up
first-merged (key ∷ keys) n m others up = first-among key (merged keys) (first-merged keys) n m others up

pub first_are : (n : ℕ) (keys others : List (List ℕ)) → take n (merged keys (take n others)) ≡ take n (merged keys others)
first_are n keys others = first-merged keys n n others (omega arith)

-- ---- all keys of both

all-among : (key : List ℕ) (keys : List (List ℕ)) (after : List (List ℕ) → List (List ℕ)) → ((others : List (List ℕ)) → IsPermutation (others ++ keys) (after others))
    → (others : List (List ℕ)) → IsPermutation (others ++ key ∷ keys) (put_among key after others)
all-among key keys after all [] = IsPermutation-cons key keys (after []) (all [])
all-among key keys after all (other ∷ others) = go (is_at_most key other) (all-among key keys after all others)
  where
    go : (o : Bool) → IsPermutation (others ++ key ∷ keys) (put_among key after others)
        → IsPermutation (other ∷ (others ++ key ∷ keys)) (cond o (key ∷ after (other ∷ others)) (other ∷ put_among key after others))
    go true later =
        IsPermutation-trans (other ∷ (others ++ key ∷ keys)) (key ∷ other ∷ (others ++ keys)) (key ∷ after (other ∷ others))
        (IsPermutation-middle (other ∷ others) key keys) (IsPermutation-cons key (other ∷ (others ++ keys)) (after (other ∷ others)) (all (other ∷ others)))
    go false later = IsPermutation-cons other (others ++ key ∷ keys) (put_among key after others) later

pub all_are : (keys others : List (List ℕ)) → IsPermutation (others ++ keys) (merged keys others)
all_are [] others = rw append-nil (IsPermutation-refl others)
all_are (key ∷ keys) others = all-among key keys (merged keys) (all_are keys) others

-- ---- keys in order

abbrev pub IsBefore : List ℕ → List (List ℕ) → Type 0
IsBefore key [] = Unit {0}
IsBefore key (other ∷ others) = is_at_most key other ≡ true

abbrev pub AreInOrder : List (List ℕ) → Type 0
AreInOrder [] = Unit {0}
AreInOrder (key ∷ keys) = IsBefore key keys × AreInOrder keys

above : (o : Ordering) → is_le o ≡ false → is_le (ordering_reverse o) ≡ true
above Less e = cc
above Equal e = refl
above Greater e = refl

other_way : (a b : List ℕ) → is_at_most a b ≡ false → is_at_most b a ≡ true
other_way a b e = ap is_le (nat_list_cmp_total.antisymm b a) ∙ above (slice_cmp nat_cmp a b) e

before-among : (first key : List ℕ) (after : List (List ℕ) → List (List ℕ)) (others : List (List ℕ)) → is_at_most first key ≡ true → IsBefore first others
    → IsBefore first (put_among key after others)
before-among first key after [] here there = here
before-among first key after (other ∷ others) here there = go (is_at_most key other)
  where
    go : (o : Bool) → IsBefore first (cond o (key ∷ after (other ∷ others)) (other ∷ put_among key after others))
    go true = here
    go false = there

before-merged : (first : List ℕ) (keys others : List (List ℕ)) → IsBefore first keys → IsBefore first others → IsBefore first (merged keys others)
before-merged first [] others here there = there
before-merged first (key ∷ keys) others here there = before-among first key (merged keys) others here there

ordered-among : (key : List ℕ) (keys : List (List ℕ)) → IsBefore key keys → ((others : List (List ℕ)) → AreInOrder others → AreInOrder (merged keys others))
    → (others : List (List ℕ)) → AreInOrder others → AreInOrder (put_among key (merged keys) others)
ordered-among key keys before each [] are = (before-merged key keys [] before tt, each [] tt)
ordered-among key keys before each (other ∷ others) are = go (is_at_most key other) refl (ordered-among key keys before each others are.1)
  where
    go : (o : Bool) → is_at_most key other ≡ o → AreInOrder (put_among key (merged keys) others)
        → AreInOrder (cond o (key ∷ merged keys (other ∷ others)) (other ∷ put_among key (merged keys) others))
    go true e later = (before-merged key keys (other ∷ others) before e, each (other ∷ others) are)
    go false e later = (before-among other key (merged keys) others (other_way key other e) are.0, later)

ordered-merged : (keys others : List (List ℕ)) → AreInOrder keys → AreInOrder others → AreInOrder (merged keys others)
ordered-merged [] others are others-are = others-are
ordered-merged (key ∷ keys) others are others-are = ordered-among key keys are.0 (λ list. ordered-merged keys list are.1) others others-are

-- ---- the same by indices

not_above : (o : Ordering) → is_le o ≡ true → is_lt (ordering_reverse o) ≡ false
not_above Less e = refl
not_above Equal e = refl
not_above Greater e = cc

not_below : (o : Ordering) → is_lt o ≡ false → is_le (ordering_reverse o) ≡ true
not_below Less e = cc
not_below Equal e = refl
not_below Greater e = refl

by_index : (keys : List (List ℕ)) → AreInOrder keys → IsSorted (slice_cmp nat_cmp) keys
by_index [] are k d from within = absurd (omega (arith, within))
by_index (a ∷ []) are k d from within = absurd (omega (arith, within))
by_index (a ∷ b ∷ keys) are zero d from within = ap is_lt (nat_list_cmp_total.antisymm b a) ∙ not_above (slice_cmp nat_cmp a b) are.0
by_index (a ∷ b ∷ keys) are (suc k) d from within = rw add-one (rw add-one at (by_index (b ∷ keys) are.1 k d (omega arith) (omega (arith, within))))

from_index : (keys : List (List ℕ)) → IsSorted (slice_cmp nat_cmp) keys → AreInOrder keys
from_index [] sorted = tt
from_index (a ∷ []) sorted = (tt, tt)
from_index (a ∷ b ∷ keys) sorted =
    let rest : IsSorted (slice_cmp nat_cmp) (b ∷ keys) = λ k d from within. rw add-one (rw add-one at (sorted (suc k) d (omega arith) (omega (arith, within)))) in
    (ap is_le (nat_list_cmp_total.antisymm a b) ∙ not_below (slice_cmp nat_cmp b a) (sorted 0 a (omega arith) (omega arith)), from_index (b ∷ keys) rest)

from_rising : (keys : List (List ℕ)) → IsStrictlySortedBy (slice_cmp nat_cmp) keys → AreInOrder keys
unfolding IsStrictlySortedBy
from_rising [] rising = tt
from_rising (a ∷ []) rising = (tt, tt)
from_rising (a ∷ b ∷ keys) rising = (ap is_le rising.0.0, from_rising (b ∷ keys) rising.1)

pub merged_sorted : (keys others : List (List ℕ)) → IsStrictlySortedBy (slice_cmp nat_cmp) keys → IsSorted (slice_cmp nat_cmp) others → IsSorted (slice_cmp nat_cmp) (merged keys others)
merged_sorted keys others rising others-sorted =
    by_index (merged keys others) (ordered-merged keys others (from_rising keys rising) (from_index others others-sorted))
