-- A function of each element of a list, from the front on.
use Rattle.std.proofs.Common.{◌≡◌, ℕ, zero, suc, ◌+◌, ◌<◌, List, [], ◌∷◌, ◌++◌, length, map, take, drop, get_or, set, refl, ap, subst, ◌∙◌, arith}
use Rattle.regions.specs.declared.place.Place.{Place}

step : (h : Place → Place) (xs : List Place) (i : ℕ) (d : Place) → i < length xs
    → set (map h (take i xs) ++ drop i xs) i (h (get_or (map h (take i xs) ++ drop i xs) i d)) ≡ map h (take (suc i) xs) ++ drop (suc i) xs
step h [] i d short = absurd (omega (arith, short))
step h (x ∷ xs) zero d short = refl
step h (x ∷ xs) (suc i) d short = ap (λ ps. h x ∷ ps) (step h xs i d (omega (arith, short)))

pub one_more : (h : Place → Place) (xs now : List Place) (i : ℕ) (d p : Place) → i < length xs → now ≡ map h (take i xs) ++ drop i xs → p ≡ h (get_or now i d)
    → set now i p ≡ map h (take (i + 1) xs) ++ drop (i + 1) xs
one_more h xs now i d p short is here =
    ap (λ q. set now i q) here
    ∙ (ap (λ (ps : List Place). set ps i (h (get_or ps i d))) is
    ∙ subst (λ n. set (map h (take i xs) ++ drop i xs) i (h (get_or (map h (take i xs) ++ drop i xs) i d)) ≡ map h (take n xs) ++ drop n xs) {x = suc i} {y = i + 1} (omega arith) (step h xs i d short))
