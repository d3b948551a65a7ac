-- Lists: prefixes, and what is of a list that was filtered or mapped.
use mathlib.Core.List.{IsPrefix}
use Rattle.std.proofs.Common.{◌≡◌, ℕ, zero, suc, ◌≤◌, ◌<◌, Bool, true, false, true≢false, cond, List, [], ◌∷◌, length, map, get_or, slice_get, arith, refl, sym, ap, subst, ◌∙◌, Some}
use Rattle.std.specs.List.{All, Contains, filter}
use Rattle.std.proofs.lemmas.List.{get_or-map, length-append, length-map, take_all}
use Rattle.std.proofs.lemmas.List.Elements.{All-head, All-tail}
use Rattle.part_lemmas.proofs.OwnParts.NextPart.{front-taken}

pub prefix-shorter : {X : Type 0} (xs ys : List X) → IsPrefix xs ys → length xs ≤ length ys
prefix-shorter xs ys front =
    let long = length-append xs front.0 in
    let whole = ap length front.1 in
    omega (arith, long, whole)

-- one that is as long as the whole
pub prefix-whole : {X : Type 0} (xs ys : List X) → IsPrefix xs ys → length ys ≤ length xs → xs ≡ ys
prefix-whole xs ys front long = front-taken xs ys front ∙ take_all (length xs) ys long

pub is-there : {X : Type 0} (xs : List X) (k : ℕ) → k < length xs → (x : X) × (slice_get xs k ≡ Some x)
is-there [] k below = absurd (omega (arith, below))
is-there (x ∷ xs) zero below = (x, refl)
is-there (x ∷ xs) (suc k) below = is-there xs k (omega (arith, below))

-- what holds of all that is mapped
pub all-unmapped : {X Y : Type 0} (P : Y → Type 0) (f : X → Y) (xs : List X) → All P (map f xs) → All (λ x. P (f x)) xs
all-unmapped P f xs all k d below =
    let many = length-map xs f in
    subst P (get_or-map f xs k d (f d) below) (all k (f d) (omega (arith, many, below)))

-- and what is among it
pub contains-unmapped : {X Y : Type 0} (f : X → Y) (xs : List X) (y : Y) → Contains (map f xs) y → (x : X) × Contains xs x × (f x ≡ y)
contains-unmapped f [] y there = absurd (let below = there.1 in omega (arith, below))
contains-unmapped f (x ∷ xs) y (zero, below, is) = (x, (0, omega arith, refl), is)
contains-unmapped f (x ∷ xs) y (suc k, below, is) =
    let rest = contains-unmapped f xs y (k, (omega (arith, below)), is) in
    (rest.0, (suc rest.1.0, (let within = rest.1.1 in omega (arith, within)), rest.1.2), rest.2)

-- what holds of all that a filter keeps
pub all-unfiltered : {X : Type 0} (P : X → Type 0) (p : X → Bool) (xs : List X) → All P (filter p xs) → (k : ℕ) (d : X) → k < length xs
    → p (get_or xs k d) ≡ true → P (get_or xs k d)
all-unfiltered P p [] all k d below passes = absurd (omega (arith, below))
all-unfiltered {X} P p (x ∷ xs) all k d below passes = go (p x) refl k below passes all (λ rest j. all-unfiltered P p xs rest j d)
  where
    go : (b : Bool) → p x ≡ b → (k : ℕ) → k < suc (length xs) → p (get_or (x ∷ xs) k d) ≡ true → All P (cond b (x ∷ filter p xs) (filter p xs))
        → (All P (filter p xs) → (j : ℕ) → j < length xs → p (get_or xs j d) ≡ true → P (get_or xs j d)) → P (get_or (x ∷ xs) k d)
    go true is zero below passes all later = All-head P x (filter p xs) all
    go true is (suc k) below passes all later = later (All-tail P x (filter p xs) all) k (omega (arith, below)) passes
    go false is zero below passes all later = absurd (true≢false (sym passes ∙ is))
    go false is (suc k) below passes all later = later all k (omega (arith, below)) passes

pub contains-mapped : {X Y : Type 0} (f : X → Y) (xs : List X) (x : X) → Contains xs x → Contains (map f xs) (f x)
contains-mapped f xs x there =
    let many = length-map xs f in
    let below = there.1 in
    (there.0, omega (arith, many, below), get_or-map f xs there.0 x (f x) below ∙ ap f there.2)
