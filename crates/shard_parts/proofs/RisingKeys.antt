-- Keys that rise one after the other are in order, and each is at the first bound or above it.
use Rattle.std.proofs.Common.{◌≡◌, ℕ, Bool, true, false, ◌&&◌, List, [], ◌∷◌, refl, ap, ◌∙◌, Ordering, Less, Equal, Greater}
use Rattle.std.specs.Ordering.{is_le, is_lt, nat_cmp}
use Rattle.std.specs.Cmp.Lexicographic.{slice_cmp}
use Rattle.std.specs.List.{All, AllByRecursion}
use Rattle.std.specs.List.Sorted.{IsStrictlySortedBy}
use Rattle.std.proofs.lemmas.Cmp.{nat_list_cmp_total}
use Rattle.std.proofs.lemmas.List.Elements.{All-from_recursion, recursion_from_All}
use Rattle.rows.specs.Apply.{is_at_most}
use Rattle.shard_parts.specs.inside.Rising.{may_follow, rise}

abbrev pub IsBelow : List ℕ → List ℕ → Type 0
IsBelow a b = slice_cmp nat_cmp a b ≡ Less

less-of : (o : Ordering) → is_lt o ≡ true → o ≡ Less
less-of Less e = refl
less-of Equal e = cc
less-of Greater e = cc

false-true : false ≡ true → ⊥
false-true e = cc

both-of : (a b : Bool) → (a && b) ≡ true → (a ≡ true) × (b ≡ true)
both-of true b e = (refl, e)
both-of false b e = (e, absurd (false-true e))

and-true : (a b : Bool) → a ≡ true → b ≡ true → (a && b) ≡ true
and-true true b e f = f
and-true false b e f = e

each : {X : Type 0} (P Q : X → Type 0) → ((x : X) → P x → Q x) → (xs : List X) → AllByRecursion P xs → AllByRecursion Q xs
each P Q f [] all = tt
each P Q f (x ∷ xs) all = (f x all.0, each P Q f xs all.1)

above-all : (before : List ℕ) (keys : List (List ℕ)) → rise false before keys ≡ true
    → AllByRecursion (IsBelow before) keys × IsStrictlySortedBy (slice_cmp nat_cmp) keys
unfolding IsStrictlySortedBy
above-all before [] e = (tt, tt)
above-all before (key ∷ keys) e =
    let parts = both-of (may_follow false before key) (rise false key keys) e in
    let less : IsBelow before key = less-of (slice_cmp nat_cmp before key) parts.0 in
    let others = above-all key keys parts.1 in
    ((less, each (IsBelow key) (IsBelow before) (λ other below. nat_list_cmp_total.trans before key other less below) keys others.0), others)

risen : (before : List ℕ) (keys : List (List ℕ)) → AllByRecursion (IsBelow before) keys → IsStrictlySortedBy (slice_cmp nat_cmp) keys → rise false before keys ≡ true
unfolding IsStrictlySortedBy
risen before [] all sorted = refl
risen before (key ∷ keys) all sorted = and-true (may_follow false before key) (rise false key keys) (ap is_lt all.0) (risen key keys sorted.0 sorted.1)

below-or-at : (o : Ordering) (a b c : List ℕ) → slice_cmp nat_cmp a b ≡ o → is_le o ≡ true → IsBelow b c → is_at_most a c ≡ true
below-or-at Less a b c s e below = ap is_le (nat_list_cmp_total.trans a b c s below)
below-or-at Equal a b c s e below = ap is_le (nat_list_cmp_total.congr a b c s ∙ below)
below-or-at Greater a b c s e below = cc

pub found : (from : List ℕ) (keys : List (List ℕ)) → rise true from keys ≡ true
    → IsStrictlySortedBy (slice_cmp nat_cmp) keys × All (λ key. is_at_most from key ≡ true) keys
unfolding IsStrictlySortedBy
found from [] e = (tt, All-from_recursion (λ key. is_at_most from key ≡ true) [] tt)
found from (key ∷ keys) e =
    let parts = both-of (may_follow true from key) (rise false key keys) e in
    let others = above-all key keys parts.1 in (
      others,
      All-from_recursion (λ other. is_at_most from other ≡ true) (key ∷ keys)
          (parts.0, each (IsBelow key) (λ other. is_at_most from other ≡ true) (λ other below. below-or-at (slice_cmp nat_cmp from key) from key other refl parts.0 below) keys others.0),
    )

pub finds : (from : List ℕ) (keys : List (List ℕ)) → IsStrictlySortedBy (slice_cmp nat_cmp) keys → All (λ key. is_at_most from key ≡ true) keys
    → rise true from keys ≡ true
unfolding IsStrictlySortedBy
finds from [] sorted all = refl
finds from (key ∷ keys) sorted all =
    and-true (may_follow true from key) (rise false key keys) (recursion_from_All (λ other. is_at_most from other ≡ true) (key ∷ keys) all).0 (risen key keys sorted.0 sorted.1)
