-- What stands at a place of a list.
use Rattle.std.proofs.Common.{◌≡◌, ℕ, zero, suc, ◌<◌, ◌⊎◌, inl, inr, List, [], ◌∷◌, ◌++◌, length, map, take, set, get_or, Some, slice_get, refl, ap, subst, ◌∙◌, arith}
use Rattle.std.specs.Prelude.{Result, Ok, Err, OnErr, is_ok, if◌then◌else◌}
use Rattle.std.specs.List.{All, insert}
use Rattle.std.specs.Option.{option_map}
use Rattle.std.proofs.lemmas.Option.{get_or_from_slice_get, slice_get-get_or, slice_get-map, slice_get_within, same_Some}

pub get_set_same : {X : Type 0} (xs : List X) (i : ℕ) (x : X) → i < length xs → slice_get (set xs i x) i ≡ Some x
get_set_same [] i x h = absurd (omega arith)
get_set_same (y ∷ ys) zero x h = refl
get_set_same (y ∷ ys) (suc i) x h = get_set_same ys i x (omega arith)

pub get_set_other : {X : Type 0} (xs : List X) (i j : ℕ) (x : X) → (j ≡ i → ⊥) → slice_get (set xs i x) j ≡ slice_get xs j
get_set_other [] i j x h = refl
get_set_other (y ∷ ys) zero zero x h = absurd (h refl)
get_set_other (y ∷ ys) zero (suc j) x h = refl
get_set_other (y ∷ ys) (suc i) zero x h = refl
get_set_other (y ∷ ys) (suc i) (suc j) x h = get_set_other ys i j x (λ e. h (ap suc e))

pub get_in_front : {X : Type 0} (xs ys : List X) (i : ℕ) (x : X) → slice_get xs i ≡ Some x → slice_get (xs ++ ys) i ≡ Some x
get_in_front [] ys i x h = absurd (let w = slice_get_within [] i x h in omega (arith, w))
get_in_front (z ∷ zs) ys zero x h = h
get_in_front (z ∷ zs) ys (suc i) x h = get_in_front zs ys i x h

pub get_front : {X : Type 0} (xs ys : List X) (i : ℕ) → i < length xs → slice_get (xs ++ ys) i ≡ slice_get xs i
get_front [] ys i h = absurd (omega arith)
get_front (z ∷ zs) ys zero h = refl
get_front (z ∷ zs) ys (suc i) h = get_front zs ys i (omega arith)

-- an element of a list with one more at its end is one of the list, or that one
pub before_or_last : {X : Type 0} (xs : List X) (x y : X) (i : ℕ) → slice_get (xs ++ x ∷ []) i ≡ Some y → (slice_get xs i ≡ Some y) ⊎ ((i ≡ length xs) × (x ≡ y))
before_or_last [] x y zero e = inr (refl, same_Some x y e)
before_or_last [] x y (suc i) e = absurd (let w = slice_get_within (x ∷ []) (suc i) y e in omega (arith, w))
before_or_last (z ∷ zs) x y zero e = inl e
before_or_last (z ∷ zs) x y (suc i) e = elim (before_or_last zs x y i e) [ inl l ↦ inl l | inr r ↦ inr (ap suc r.0, r.1) ]

pub get_last : {X : Type 0} (xs : List X) (x : X) → slice_get (xs ++ x ∷ []) (length xs) ≡ Some x
get_last [] x = refl
get_last (z ∷ zs) x = get_last zs x

pub get_between : {X : Type 0} (xs : List X) (x : X) (ys : List X) → slice_get (xs ++ x ∷ ys) (length xs) ≡ Some x
get_between [] x ys = refl
get_between (z ∷ zs) x ys = get_between zs x ys

pub get_taken : {X : Type 0} (xs : List X) (n i : ℕ) → i < n → slice_get (take n xs) i ≡ slice_get xs i
get_taken xs zero i h = absurd (omega arith)
get_taken [] (suc n) i h = refl
get_taken (x ∷ xs) (suc n) zero h = refl
get_taken (x ∷ xs) (suc n) (suc i) h = get_taken xs n i (omega arith)

-- below its length it has something
pub something_at : {X : Type 0} (xs : List X) (i : ℕ) → i < length xs → (x : X) × (slice_get xs i ≡ Some x)
something_at [] i h = absurd (omega arith)
something_at (x ∷ xs) zero h = (x, refl)
something_at (x ∷ xs) (suc i) h = something_at xs i (omega arith)

-- what an insertion at the front leaves, where it succeeds
pub inserted : {X U E : Type 0} (xs ys : List X) (x : X) (r : Result U E) (u : U) → ys ≡ (if is_ok r then insert xs 0 x else xs) → r ≡ Ok u → ys ≡ x ∷ xs
inserted xs ys x r u h e = subst (λ s. ys ≡ (if is_ok s then insert xs 0 x else xs)) e h

-- what holds in any case holds where there is an error
pub on_error : {T E : Type 0} (r : Result T E) (P : Type 0) → P → OnErr r P
on_error (Ok x) P p = tt
on_error (Err e) P p = p

-- what stands at a place of a list that was mapped
pub unmapped : {X Y : Type 0} (f : X → Y) (xs : List X) (k : ℕ) (y : Y) → slice_get (map f xs) k ≡ Some y → (x : X) × (slice_get xs k ≡ Some x) × (f x ≡ y)
unmapped f [] k y at = absurd (let w = slice_get_within [] k y at in omega (arith, w))
unmapped f (x ∷ xs) zero y at = (x, refl, same_Some (f x) y at)
unmapped f (x ∷ xs) (suc k) y at = unmapped f xs k y at

pub mapped : {X Y : Type 0} (f : X → Y) (xs : List X) (k : ℕ) (x : X) → slice_get xs k ≡ Some x → slice_get (map f xs) k ≡ Some (f x)
mapped f xs k x at = slice_get-map f xs k ∙ ap (option_map f) at

-- the same place of two lists that map to one
pub across : {X Y Z : Type 0} (f : X → Z) (g : Y → Z) (xs : List X) (ys : List Y) (k : ℕ) (x : X) → map f xs ≡ map g ys → slice_get xs k ≡ Some x
    → (y : Y) × (slice_get ys k ≡ Some y) × (g y ≡ f x)
across f g xs ys k x same at = unmapped g ys k (f x) (subst (λ l. slice_get l k ≡ Some (f x)) same (mapped f xs k x at))

-- what holds of all holds at each place, and the other way round
pub all_at : {X : Type 0} (P : X → Type 0) (xs : List X) (k : ℕ) (x : X) → All P xs → slice_get xs k ≡ Some x → P x
all_at P xs k x all at = subst P (get_or_from_slice_get xs k x x at) (all k x (slice_get_within xs k x at))

pub all_mapped : {X Y : Type 0} (P : Y → Type 0) (f : X → Y) (xs : List X) → ((k : ℕ) (x : X) → slice_get xs k ≡ Some x → P (f x)) → All P (map f xs)
all_mapped P f xs each k d below =
    let at = unmapped f xs k (get_or (map f xs) k d) (slice_get-get_or (map f xs) k d below) in
    subst P at.2 (each k at.0 at.1)
