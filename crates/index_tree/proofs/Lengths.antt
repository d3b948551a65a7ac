-- How long lists of places are of which none is there twice.
use Rattle.std.proofs.Common.{◌≡◌, ◌≢◌, ℕ, zero, suc, ◌≤◌, List, [], ◌∷◌, length, Some, refl, sym, ap, ◌∙◌, arith}
use Rattle.std.specs.List.{slice_get}
use Rattle.regions.specs.declared.place.Place.{Place}
use Rattle.index_tree.proofs.Lists.{Among, AreApart, apart_behind}
use Rattle.place_lemmas.proofs.Places.{some_is, some_none}

pub one_apart : (p : Place) → AreApart (p ∷ [])
one_apart p zero zero q e f = refl
one_apart p zero (suc j) q e f = some_none f refl
one_apart p (suc i) j q e f = some_none e refl

pub one_place : (p q : Place) → Among q (p ∷ []) → p ≡ q
one_place p q (zero, e) = some_is e
one_place p q (suc i, e) = some_none e refl

-- a list without the place at an index
abbrev without : ℕ → List Place → List Place
without i [] = []
without zero (x ∷ xs) = xs
without (suc i) (x ∷ xs) = x ∷ without i xs

one_less : (xs : List Place) (i : ℕ) (p : Place) → slice_get xs i ≡ Some p → length xs ≡ suc (length (without i xs))
one_less [] i p e = some_none e refl
one_less (x ∷ xs) zero p e = refl
one_less (x ∷ xs) (suc i) p e = (let rest = one_less xs i p e in omega (arith, rest))

others_stay : (xs : List Place) (i j : ℕ) (p q : Place) → slice_get xs i ≡ Some p → slice_get xs j ≡ Some q → p ≢ q → Among q (without i xs)
others_stay [] i j p q at_i at_j far = some_none at_i refl
others_stay (x ∷ xs) zero zero p q at_i at_j far = absurd (far (sym (some_is at_i) ∙ some_is at_j))
others_stay (x ∷ xs) zero (suc j) p q at_i at_j far = (j, at_j)
others_stay (x ∷ xs) (suc i) zero p q at_i at_j far = (zero, at_j)
others_stay (x ∷ xs) (suc i) (suc j) p q at_i at_j far = (let w = others_stay xs i j p q at_i at_j far in (suc w.0, w.1))

-- a list whose places are all in another is no longer than that
pub no_longer : (xs ys : List Place) → AreApart xs → ((p : Place) → Among p xs → Among p ys) → length xs ≤ length ys
no_longer [] ys apart within = omega arith
no_longer (x ∷ xs) ys apart within =
    let here = within x (zero, refl) in
    let rest : length xs ≤ length (without here.0 ys) =
    no_longer xs (without here.0 ys) (apart_behind (x ∷ []) xs apart)
    (λ p among.
    let there = within p (suc among.0, among.1) in
    others_stay ys here.0 there.0 x p here.1 there.1
    (λ e. (let same : zero ≡ suc among.0 = apart zero (suc among.0) p (ap (λ (q : Place). Some q) e) among.1 in omega (arith, same)))) in
    let one : length ys ≡ suc (length (without here.0 ys)) = one_less ys here.0 x here.1 in
    omega (arith, rest, one)

pub same_length : (xs ys : List Place) → AreApart xs → AreApart ys → ((p : Place) → Among p xs → Among p ys) → ((p : Place) → Among p ys → Among p xs) → length xs ≡ length ys
same_length xs ys apart_x apart_y there back =
    let a = no_longer xs ys apart_x there in
    let b = no_longer ys xs apart_y back in
    omega (arith, a, b)
