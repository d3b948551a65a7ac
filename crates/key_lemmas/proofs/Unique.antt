-- Rows in the order of their keys are in one order.
use Rattle.std.proofs.Common.{◌≡◌, ◌≢◌, ℕ, zero, suc, ◌⊎◌, inl, inr, List, [], ◌∷◌, ◌++◌, refl, sym, ap, subst, ◌∙◌, arith, Less}
use Rattle.std.specs.Prelude.{Contains}
use Rattle.std.proofs.lemmas.List.Elements.{Contains-append_left, Contains-append_right, Contains-append_cases}
use Rattle.rows.specs.Key.{Key}
use Rattle.key_index.specs.Order.{key_cmp, Each, AreAbove, AreRising, PutsIn, TakesOut}
use Rattle.key_lemmas.proofs.Orders.{less_less, less_apart, rising_right, rising_apart}

first_in : (x : ℕ) (xs : List ℕ) → Contains (x ∷ xs) x
first_in x xs = (0, omega arith, refl)

later_in : (x y : ℕ) (xs : List ℕ) → Contains xs y → Contains (x ∷ xs) y
later_in x y xs h = (suc h.0, (let i = h.1 in omega (arith, i)), h.2)

cases_in : (x y : ℕ) (xs : List ℕ) → Contains (x ∷ xs) y → (x ≡ y) ⊎ Contains xs y
cases_in x y xs (zero, i, e) = inl e
cases_in x y xs (suc k, i, e) = inr (k, omega (arith, i), e)

none_in : (y : ℕ) → Contains [] y → ⊥
none_in y (k, i, e) = omega (arith, i)

each_in : (P : ℕ → Type 0) (xs : List ℕ) (y : ℕ) → Each P xs → Contains xs y → P y
each_in P [] y e h = absurd (none_in y h)
each_in P (x ∷ xs) y e h = elim (cases_in x y xs h) [ inl same ↦ subst P same e.0 | inr more ↦ each_in P xs y e.1 more ]

-- two rising lists of the same rows are one
pub one_order : (key_of : ℕ → Key) (xs ys : List ℕ) → AreRising key_of xs → AreRising key_of ys → ((row : ℕ) → Contains xs row → Contains ys row) → ((row : ℕ) → Contains ys row → Contains xs row) → xs ≡ ys
one_order key_of [] [] f g there back = refl
one_order key_of [] (y ∷ ys) f g there back = absurd (none_in y (back y (first_in y ys)))
one_order key_of (x ∷ xs) [] f g there back = absurd (none_in x (there x (first_in x xs)))
one_order key_of (x ∷ xs) (y ∷ ys) f g there back =
    ap (λ (r : ℕ). r ∷ xs) same ∙ ap (λ (rows : List ℕ). y ∷ rows) (one_order key_of xs ys f.1 g.1 in_ys in_xs)
  where
    apart : (a b : ℕ) → key_cmp (key_of a) (key_of b) ≡ Less → a ≡ b → ⊥
    apart a b e s = less_apart (key_of a) (key_of b) e (ap key_of s)

    same : x ≡ y
    same = elim (cases_in y x ys (there x (first_in x xs))) [
      | inl e ↦ sym e
      | inr below ↦ elim (cases_in x y xs (back y (first_in y ys))) [
        | inl e ↦ e
        | inr above ↦ absurd (apart x x (less_less (key_of x) (key_of y) (key_of x) (each_in (λ r. key_cmp (key_of x) (key_of r) ≡ Less) xs y f.0 above) (each_in (λ r. key_cmp (key_of y) (key_of r) ≡ Less) ys x g.0 below)) refl)
      ]
    ]

    in_ys : (row : ℕ) → Contains xs row → Contains ys row
    in_ys row h = elim (cases_in y row ys (there row (later_in x row xs h))) [
      | inl e ↦ absurd (apart x row (each_in (λ r. key_cmp (key_of x) (key_of r) ≡ Less) xs row f.0 h) (same ∙ e))
      | inr more ↦ more
    ]

    in_xs : (row : ℕ) → Contains ys row → Contains xs row
    in_xs row h = elim (cases_in x row xs (back row (later_in y row ys h))) [
      | inl e ↦ absurd (apart y row (each_in (λ r. key_cmp (key_of y) (key_of r) ≡ Less) ys row g.0 h) (sym same ∙ e))
      | inr more ↦ more
    ]

-- a list with a row in between has the row and the others
with_row : (xs ys : List ℕ) (x y : ℕ) → Contains (xs ++ x ∷ ys) y → (y ≡ x) ⊎ Contains (xs ++ ys) y
with_row xs ys x y h = elim (Contains-append_cases xs (x ∷ ys) y h) [
  | inl e ↦ inr (Contains-append_left xs ys y e)
  | inr e ↦ elim (cases_in x y ys e) [ inl same ↦ inl (sym same) | inr more ↦ inr (Contains-append_right xs ys y more) ]
]

of_others : (xs ys : List ℕ) (x y : ℕ) → Contains (xs ++ ys) y → Contains (xs ++ x ∷ ys) y
of_others xs ys x y h = elim (Contains-append_cases xs ys y h) [ inl e ↦ Contains-append_left xs (x ∷ ys) y e | inr e ↦ Contains-append_right xs (x ∷ ys) y (later_in x y ys e) ]

pub put_in : (key_of : ℕ → Key) (row other : ℕ) (before after : List ℕ) → PutsIn key_of row before after
    → (Contains after other → (other ≡ row) ⊎ Contains before other) × Contains after row × (Contains before other → Contains after other)
put_in key_of row other before after is = (
  (λ h. elim (with_row is.front is.back row other (subst (λ (xs : List ℕ). Contains xs other) is.are h)) [ inl e ↦ inl e | inr e ↦ inr (subst (λ (xs : List ℕ). Contains xs other) (sym is.were) e) ]),
  subst (λ (xs : List ℕ). Contains xs row) (sym is.are) (Contains-append_right is.front (row ∷ is.back) row (first_in row is.back)),
  (λ h. subst (λ (xs : List ℕ). Contains xs other) (sym is.are) (of_others is.front is.back row other (subst (λ (xs : List ℕ). Contains xs other) is.were h))),
)

pub taken_out : (key_of : ℕ → Key) (row other : ℕ) (before after : List ℕ) → TakesOut row before after → AreRising key_of before
    → (Contains before other → (other ≡ row) ⊎ Contains after other) × (Contains after other → Contains before other × (other ≢ row))
taken_out key_of row other before after is rising = (
  (λ h. elim (with_row is.front is.back row other (subst (λ (xs : List ℕ). Contains xs other) is.were h)) [ inl e ↦ inl e | inr e ↦ inr (subst (λ (xs : List ℕ). Contains xs other) (sym is.are) e) ]),
  (λ h. (subst (λ (xs : List ℕ). Contains xs other) (sym is.were) (of_others is.front is.back row other (subst (λ (xs : List ℕ). Contains xs other) is.are h)), apart (Contains-append_cases is.front is.back other (subst (λ (xs : List ℕ). Contains xs other) is.are h)))),
)
  where
    whole : AreRising key_of (is.front ++ row ∷ is.back)
    whole = subst (AreRising key_of) is.were rising

    apart : Contains is.front other ⊎ Contains is.back other → other ≢ row
    apart (inl e) = λ same. less_apart (key_of other) (key_of row) (each_in (λ r. AreAbove key_of (key_of r) (row ∷ is.back)) is.front other (rising_apart key_of is.front (row ∷ is.back) whole) e).0 (ap key_of same)
    apart (inr e) = λ same. less_apart (key_of row) (key_of other) (each_in (λ r. key_cmp (key_of row) (key_of r) ≡ Less) is.back other (rising_right key_of is.front (row ∷ is.back) whole).0 e) (ap key_of (sym same))

-- rows of one key are one
pub one_row : (key_of : ℕ → Key) (xs : List ℕ) (x y : ℕ) → AreRising key_of xs → Contains xs x → Contains xs y → key_of x ≡ key_of y → x ≡ y
one_row key_of [] x y rising h i same = absurd (none_in x h)
one_row key_of (z ∷ xs) x y rising h i same = elim (cases_in z x xs h) [
  | inl e ↦ elim (cases_in z y xs i) [
    | inl f ↦ sym e ∙ f
    | inr f ↦ absurd (less_apart (key_of z) (key_of y) (each_in (λ r. key_cmp (key_of z) (key_of r) ≡ Less) xs y rising.0 f) (ap key_of e ∙ same))
  ]
  | inr e ↦ elim (cases_in z y xs i) [
    | inl f ↦ absurd (less_apart (key_of z) (key_of x) (each_in (λ r. key_cmp (key_of z) (key_of r) ≡ Less) xs x rising.0 e) (ap key_of f ∙ sym same))
    | inr f ↦ one_row key_of xs x y rising.1 e f same
  ]
]
