-- What the links of an index say of its neighbours in the list, and those of a sentinel of the ends.
use Rattle.std.proofs.Common.{◌≡◌, ◌≢◌, ℕ, ◌+◌, ◌<◌, ◌≤◌, ◌⊎◌, inl, inr, List, [], ◌∷◌, length, get_or, slice_get, cond, Option, Some, None, sym, ap, subst, ◌∙◌, arith}
use Rattle.std.proofs.lemmas.Bool.Decides.{eqb_tells}
use Rattle.std.specs.List.{last_or}
use Rattle.common_lemmas.specs.Lists.{times}
use Rattle.common_lemmas.proofs.Counts.{times_here, times_there, times_cons_le}
use Rattle.index_lists.specs.Lists.{list_at, after, before, before_from}
use Rattle.index_lists.specs.inside.Links.{Path, IsConsistent, rings_from, leads_to}
use Rattle.index_lists.proofs.Paths.{last_held}
use Rattle.index_lists.proofs.Linked.{lists_of}
use Rattle.index_lists.proofs.Sentinels.{leads_end, leads_on}

-- the link out of an index leads to the end, or to the index behind it
after_on_path : (next prev : List ℕ) (a : ℕ) (xs : List ℕ) (b x : ℕ) → Path next prev a xs b → 1 ≤ times x xs → ((get_or next x 0 ≡ b) × (after x xs ≡ None)) ⊎ ((1 ≤ times (get_or next x 0) xs) × (after x xs ≡ Some (get_or next x 0)))
after_on_path next prev a [] b x p h = absurd (omega arith)
after_on_path next prev a (y ∷ []) b x p h =
    elim (eqb_tells y x) [
      | inl e ↦ inl (ap (λ z. get_or next z 0) (sym e.1) ∙ p.2.0, ap (λ t. cond t None None) e.0)
      | inr n ↦ absurd (let t = times_there x y [] n.1 in omega (arith, t, h))
    ]
after_on_path next prev a (y ∷ z ∷ zs) b x p h =
    elim (eqb_tells y x) [
      | inl e ↦
          (let to : get_or next x 0 ≡ z = ap (λ w. get_or next w 0) (sym e.1) ∙ p.2.0 in
          inr (
            subst (λ w. 1 ≤ times w (y ∷ z ∷ zs)) (sym to) (let t = times_here z zs in let l = times_cons_le z y (z ∷ zs) in omega (arith, t, l)),
            ap (λ t. cond t (Some z) (after x (z ∷ zs))) e.0 ∙ ap (λ w. Some w) (sym to),
          ))
      | inr n ↦
          (let skip : after x (y ∷ z ∷ zs) ≡ after x (z ∷ zs) = ap (λ t. cond t (Some z) (after x (z ∷ zs))) n.0 in
          elim (after_on_path next prev y (z ∷ zs) b x p.2 (subst (λ t. 1 ≤ t) (times_there x y (z ∷ zs) n.1) h)) [
            | inl q ↦ inl (q.0, skip ∙ q.1)
            | inr q ↦ inr ((let l = times_cons_le (get_or next x 0) y (z ∷ zs) in let m = q.0 in omega (arith, l, m)), skip ∙ q.1)
          ])
    ]

-- the link back leads to the start, or to the index before it
before_on_path : (next prev : List ℕ) (a : ℕ) (o : Option ℕ) (xs : List ℕ) (b x : ℕ) → Path next prev a xs b → 1 ≤ times x xs → ((get_or prev x 0 ≡ a) × (before_from o x xs ≡ o)) ⊎ ((1 ≤ times (get_or prev x 0) xs) × (before_from o x xs ≡ Some (get_or prev x 0)))
before_on_path next prev a o [] b x p h = absurd (omega arith)
before_on_path next prev a o (y ∷ ys) b x p h =
    elim (eqb_tells y x) [
      | inl e ↦ inl (ap (λ z. get_or prev z 0) (sym e.1) ∙ p.1, ap (λ t. cond t o (before_from (Some y) x ys)) e.0)
      | inr n ↦
          (let skip : before_from o x (y ∷ ys) ≡ before_from (Some y) x ys = ap (λ t. cond t o (before_from (Some y) x ys)) n.0 in
          elim (before_on_path next prev y (Some y) ys b x p.2 (subst (λ t. 1 ≤ t) (times_there x y ys n.1) h)) [
            | inl q ↦ inr (subst (λ w. 1 ≤ times w (y ∷ ys)) (sym q.0) (let t = times_here y ys in omega (arith, t)), skip ∙ q.1 ∙ ap (λ w. Some w) (sym q.0))
            | inr q ↦ inr ((let l = times_cons_le (get_or prev x 0) y ys in let m = q.0 in omega (arith, l, m)), skip ∙ q.1)
          ])
    ]

-- the link back from the end leads to the start, or to the last index
last_on_path : (next prev : List ℕ) (a : ℕ) (xs : List ℕ) (b : ℕ) → Path next prev a xs b → last_or (Some a) xs ≡ Some (get_or prev b 0)
last_on_path next prev a [] b p = ap (λ w. Some w) (sym p.1)
last_on_path next prev a (x ∷ xs) b p = last_on_path next prev x xs b p.2

-- an index of a list is not one that the list lacks
held_is_other : (xs : List ℕ) (x y : ℕ) → 1 ≤ times x xs → times y xs ≡ 0 → x ≢ y
held_is_other xs x y held none e = absurd (let some : 1 ≤ times y xs = subst (λ w. 1 ≤ times w xs) e held in omega (arith, some, none))

-- what the links of a sentinel lead to, and those of an index in the ring

front_on_path : (next prev : List ℕ) (a : ℕ) (xs : List ℕ) (b : ℕ) → Path next prev a xs b → times b xs ≡ 0 → leads_to b (get_or next a 0) ≡ slice_get xs 0
front_on_path next prev a [] b p none = leads_end b _ p.0
front_on_path next prev a (x ∷ xs) b p none =
    let held : 1 ≤ times (get_or next a 0) (x ∷ xs) = subst (λ w. 1 ≤ times w (x ∷ xs)) (sym p.0) (let t = times_here x xs in omega (arith, t)) in
    leads_on b _ (held_is_other (x ∷ xs) _ b held none) ∙ ap (λ w. Some w) p.0

back_on_path : (next prev : List ℕ) (a : ℕ) (xs : List ℕ) (b : ℕ) → Path next prev a xs b → times a xs ≡ 0 → leads_to a (get_or prev b 0) ≡ last_or None xs
back_on_path next prev a [] b p none = leads_end a _ p.1
back_on_path next prev a (x ∷ xs) b p none =
    elim (last_held next prev a (x ∷ xs) b p) [
      | inl e ↦ absurd (let here = times_here x xs in elim (last_held next prev x xs b p.2) [
        | inl f ↦ (let same : x ≡ a = sym f ∙ e in let t = times_here x xs in let z : times x (x ∷ xs) ≡ 0 = subst (λ w. times w (x ∷ xs) ≡ 0) (sym same) none in omega (arith, t, z))
        | inr q ↦ (let l = times_cons_le (get_or prev b 0) x xs in let z : times (get_or prev b 0) (x ∷ xs) ≡ 0 = subst (λ w. times w (x ∷ xs) ≡ 0) (sym e) none in omega (arith, l, q, z))
      ])
      | inr q ↦ leads_on a _ (held_is_other (x ∷ xs) _ a q none) ∙ sym (last_on_path next prev x xs b p.2)
    ]

module _ (n : ℕ) (next prev ns : List ℕ) (h : IsConsistent n next prev ns (rings_from n next ns)) (k : ℕ) (inside : k < length (rings_from n next ns)) where
  no_sentinel : times (n + k) (list_at (lists_of n next ns) k) ≡ 0
  no_sentinel = h.inside k (n + k) inside (omega arith)

  pub front_is : leads_to (n + k) (get_or next (n + k) 0) ≡ slice_get (list_at (lists_of n next ns) k) 0
  front_is = front_on_path next prev (n + k) _ (n + k) (h.rings k inside) no_sentinel

  pub back_is : leads_to (n + k) (get_or prev (n + k) 0) ≡ last_or None (list_at (lists_of n next ns) k)
  back_is = back_on_path next prev (n + k) _ (n + k) (h.rings k inside) no_sentinel

  pub next_is : (x : ℕ) → 1 ≤ times x (list_at (lists_of n next ns) k) → leads_to (n + k) (get_or next x 0) ≡ after x (list_at (lists_of n next ns) k)
  next_is x held =
      elim (after_on_path next prev (n + k) _ (n + k) x (h.rings k inside) held) [
        | inl r ↦ leads_end (n + k) _ r.0 ∙ sym r.1
        | inr r ↦ leads_on (n + k) _ (held_is_other _ _ (n + k) r.0 no_sentinel) ∙ sym r.1
      ]

  pub prev_is : (x : ℕ) → 1 ≤ times x (list_at (lists_of n next ns) k) → leads_to (n + k) (get_or prev x 0) ≡ before x (list_at (lists_of n next ns) k)
  prev_is x held =
      elim (before_on_path next prev (n + k) None _ (n + k) x (h.rings k inside) held) [
        | inl r ↦ leads_end (n + k) _ r.0 ∙ sym r.1
        | inr r ↦ leads_on (n + k) _ (held_is_other _ _ (n + k) r.0 no_sentinel) ∙ sym r.1
      ]
