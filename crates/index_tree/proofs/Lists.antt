-- Lists of places: which are in them, that none is in one twice, and how the lists of a node's children lie in that of the node.
use Rattle.std.proofs.Common.{◌≡◌, ℕ, zero, suc, ◌+◌, ◌<◌, ◌⊎◌, inl, inr, List, [], ◌∷◌, ◌++◌, length, Some, refl, sym, ap, subst, ◌∙◌, arith, zero-add, append_assoc}
use Rattle.std.specs.List.{flat_map, slice_get}
use Rattle.regions.specs.declared.place.Place.{Place}
use Rattle.place_lemmas.proofs.Places.{some_is, some_none}

-- the place is in the list
abbrev pub Among : Place → List Place → Type 0
Among p ps = (i : ℕ) × (slice_get ps i ≡ Some p)

-- no place is in the list twice
abbrev pub AreApart : List Place → Type 0
AreApart ps = (i j : ℕ) (p : Place) → slice_get ps i ≡ Some p → slice_get ps j ≡ Some p → i ≡ j

pub got_front : (xs ys : List Place) (i : ℕ) (p : Place) → slice_get xs i ≡ Some p → slice_get (xs ++ ys) i ≡ Some p
got_front [] ys i p e = some_none e refl
got_front (x ∷ xs) ys zero p e = e
got_front (x ∷ xs) ys (suc i) p e = got_front xs ys i p e

pub got_behind : (xs ys : List Place) (i : ℕ) (p : Place) → slice_get ys i ≡ Some p → slice_get (xs ++ ys) (length xs + i) ≡ Some p
got_behind [] ys i p e = subst (λ k. slice_get ys k ≡ Some p) (sym (zero-add i)) e
got_behind (x ∷ xs) ys i p e =
    let k : suc (length xs + i) ≡ length (x ∷ xs) + i = omega arith in
    subst (λ n. slice_get (x ∷ (xs ++ ys)) n ≡ Some p) k (got_behind xs ys i p e)

pub got_either : (xs ys : List Place) (i : ℕ) (p : Place) → slice_get (xs ++ ys) i ≡ Some p → (slice_get xs i ≡ Some p) ⊎ ((j : ℕ) × (i ≡ length xs + j) × (slice_get ys j ≡ Some p))
got_either [] ys i p e = inr (i, sym (zero-add i), e)
got_either (x ∷ xs) ys zero p e = inl e
got_either (x ∷ xs) ys (suc i) p e = elim (got_either xs ys i p e) [
  | inl h ↦ inl h
  | inr h ↦ inr (h.0, (let k = h.1 in omega (arith, k)), h.2)
]

pub got_below : (xs : List Place) (i : ℕ) (p : Place) → slice_get xs i ≡ Some p → i < length xs
got_below [] i p e = some_none e refl
got_below (x ∷ xs) zero p e = omega arith
got_below (x ∷ xs) (suc i) p e = (let k : i < length xs = got_below xs i p e in omega arith)

pub among_either : (xs ys : List Place) (p : Place) → Among p (xs ++ ys) → Among p xs ⊎ Among p ys
among_either xs ys p (i, e) = elim (got_either xs ys i p e) [ inl h ↦ inl (i, h) | inr h ↦ inr (h.0, h.2) ]

pub among_front : (xs ys : List Place) (p : Place) → Among p xs → Among p (xs ++ ys)
among_front xs ys p (i, e) = (i, got_front xs ys i p e)

pub among_behind : (xs ys : List Place) (p : Place) → Among p ys → Among p (xs ++ ys)
among_behind xs ys p (i, e) = (length xs + i, got_behind xs ys i p e)

pub apart_front : (xs ys : List Place) → AreApart (xs ++ ys) → AreApart xs
apart_front xs ys apart i j p at_i at_j = apart i j p (got_front xs ys i p at_i) (got_front xs ys j p at_j)

pub apart_behind : (xs ys : List Place) → AreApart (xs ++ ys) → AreApart ys
apart_behind xs ys apart i j p at_i at_j =
    let k : length xs + i ≡ length xs + j = apart (length xs + i) (length xs + j) p (got_behind xs ys i p at_i) (got_behind xs ys j p at_j) in
    omega (arith, k)

pub apart_both : (xs ys : List Place) (p : Place) → AreApart (xs ++ ys) → Among p xs → Among p ys → ⊥
apart_both xs ys p apart (i, at_i) (j, at_j) =
    let k : i ≡ length xs + j = apart i (length xs + j) p (got_front xs ys i p at_i) (got_behind xs ys j p at_j) in
    let short : i < length xs = got_below xs i p at_i in
    omega (arith, k, short)

pub apart_append : (xs ys : List Place) → AreApart xs → AreApart ys → ((p : Place) → Among p xs → Among p ys → ⊥) → AreApart (xs ++ ys)
apart_append xs ys left right never i j p at_i at_j = elim (got_either xs ys i p at_i) [
  | inl a ↦
      elim (got_either xs ys j p at_j) [
        | inl b ↦ left i j p a b
        | inr b ↦ absurd (never p (i, a) (b.0, b.2))
      ]
  | inr a ↦
      elim (got_either xs ys j p at_j) [
        | inl b ↦ absurd (never p (j, b) (a.0, a.2))
        | inr b ↦ (let k : a.0 ≡ b.0 = right a.0 b.0 p a.2 b.2 in let m = a.1 in let n = b.1 in omega (arith, k, m, n))
      ]
]

-- ---- what is gathered of links

pub among_flat : (f : ℕ → List Place) (xs : List ℕ) (i x : ℕ) (p : Place) → slice_get xs i ≡ Some x → Among p (f x) → Among p (flat_map f xs)
among_flat f [] i x p e among = some_none e refl
among_flat f (y ∷ xs) zero x p e among = among_front (f y) (flat_map f xs) p (subst (λ z. Among p (f z)) (sym (some_is e)) among)
among_flat f (y ∷ xs) (suc i) x p e among = among_behind (f y) (flat_map f xs) p (among_flat f xs i x p e among)

pub in_flat : (f : ℕ → List Place) (xs : List ℕ) (p : Place) → Among p (flat_map f xs) → (i : ℕ) × (x : ℕ) × (slice_get xs i ≡ Some x) × Among p (f x)
in_flat f [] p (i, e) = some_none e refl
in_flat f (x ∷ xs) p among = elim (among_either (f x) (flat_map f xs) p among) [
  | inl h ↦ (zero, x, refl, h)
  | inr h ↦ (let w = in_flat f xs p h in (suc w.0, w.1, w.2, w.3))
]

-- a place is gathered of one link alone
pub apart_index : (f : ℕ → List Place) (xs : List ℕ) → AreApart (flat_map f xs) → (i j x y : ℕ) (p : Place) → slice_get xs i ≡ Some x → slice_get xs j ≡ Some y
    → Among p (f x) → Among p (f y) → i ≡ j
apart_index f [] apart i j x y p at_i at_j in_x in_y = some_none at_i refl
apart_index f (z ∷ xs) apart zero zero x y p at_i at_j in_x in_y = refl
apart_index f (z ∷ xs) apart zero (suc j) x y p at_i at_j in_x in_y =
    absurd (apart_both (f z) (flat_map f xs) p apart (subst (λ w. Among p (f w)) (sym (some_is at_i)) in_x) (among_flat f xs j y p at_j in_y))
apart_index f (z ∷ xs) apart (suc i) zero x y p at_i at_j in_x in_y =
    absurd (apart_both (f z) (flat_map f xs) p apart (subst (λ w. Among p (f w)) (sym (some_is at_j)) in_y) (among_flat f xs i x p at_i in_x))
apart_index f (z ∷ xs) apart (suc i) (suc j) x y p at_i at_j in_x in_y =
    ap (λ n. suc n) (apart_index f xs (apart_behind (f z) (flat_map f xs) apart) i j x y p at_i at_j in_x in_y)

pub apart_within : (f : ℕ → List Place) (xs : List ℕ) → AreApart (flat_map f xs) → (i x : ℕ) → slice_get xs i ≡ Some x → AreApart (f x)
apart_within f [] apart i x e = some_none e refl
apart_within f (y ∷ xs) apart zero x e = subst (λ z. AreApart (f z)) (some_is e) (apart_front (f y) (flat_map f xs) apart)
apart_within f (y ∷ xs) apart (suc i) x e = apart_within f xs (apart_behind (f y) (flat_map f xs) apart) i x e

-- what is gathered of less is apart too
pub apart_less : (f g : ℕ → List Place) (xs : List ℕ) → ((x : ℕ) → AreApart (g x) → AreApart (f x)) → ((x : ℕ) (p : Place) → Among p (f x) → Among p (g x))
    → ((p : Place) → Among p (flat_map f xs) → Among p (flat_map g xs)) × (AreApart (flat_map g xs) → AreApart (flat_map f xs))
apart_less f g [] each less = (λ p among. among, λ apart. apart)
apart_less f g (x ∷ xs) each less =
    let rest = apart_less f g xs each less in
    let over : (p : Place) → Among p (flat_map f xs) → Among p (flat_map g xs) = rest.0 in (
      λ p among. elim (among_either (f x) (flat_map f xs) p among) [
        | inl h ↦ among_front (g x) (flat_map g xs) p (less x p h)
        | inr h ↦ among_behind (g x) (flat_map g xs) p (over p h)
      ],
      λ apart. apart_append (f x) (flat_map f xs) (each x (apart_front (g x) (flat_map g xs) apart)) (rest.1 (apart_behind (g x) (flat_map g xs) apart))
          (λ p a b. apart_both (g x) (flat_map g xs) p apart (less x p a) (over p b)),
    )

-- the list of one link, of the first one, and of two that follow, in what is gathered
pub split_one : (f : ℕ → List Place) (xs : List ℕ) (i x : ℕ) → slice_get xs i ≡ Some x → (before : List Place) × (behind : List Place) × (flat_map f xs ≡ before ++ (f x ++ behind))
split_one f [] i x e = some_none e refl
split_one f (y ∷ xs) zero x e = ([], flat_map f xs, ap (λ z. f z ++ flat_map f xs) (some_is e))
split_one f (y ∷ xs) (suc i) x e =
    let w = split_one f xs i x e in
    (f y ++ w.0, w.1, ap (λ ps. f y ++ ps) w.2 ∙ sym (append_assoc (f y) w.0 (f x ++ w.1)))

pub split_first : (f : ℕ → List Place) (xs : List ℕ) (x : ℕ) → slice_get xs zero ≡ Some x → (behind : List Place) × (flat_map f xs ≡ f x ++ behind)
split_first f [] x e = some_none e refl
split_first f (y ∷ xs) x e = (flat_map f xs, ap (λ z. f z ++ flat_map f xs) (some_is e))

pub split_two : (f : ℕ → List Place) (xs : List ℕ) (i x y : ℕ) → slice_get xs i ≡ Some x → slice_get xs (suc i) ≡ Some y
    → (before : List Place) × (behind : List Place) × (flat_map f xs ≡ before ++ (f x ++ (f y ++ behind)))
split_two f [] i x y e next = some_none e refl
split_two f (z ∷ xs) zero x y e next =
    let w = split_first f xs y next in
    ([], w.0, ap (λ k. f k ++ flat_map f xs) (some_is e) ∙ ap (λ ps. f x ++ ps) w.1)
split_two f (z ∷ xs) (suc i) x y e next =
    let w = split_two f xs i x y e next in
    (f z ++ w.0, w.1, ap (λ ps. f z ++ ps) w.2 ∙ sym (append_assoc (f z) w.0 (f x ++ (f y ++ w.1))))
