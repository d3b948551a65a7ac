-- The nodes of one level in order, and what is left of them.
use mathlib.Core.List.{Sublist, nil-sublist}
use mathlib.Core.List.Sublist
use Rattle.std.proofs.Common.{◌≡◌, ℕ, zero, suc, ◌<◌, inl, inr, Bool, false, cond, List, [], ◌∷◌, ◌++◌, Option, Some, None, refl, sym, ap, subst, ◌∙◌, append_assoc, arith}
use Rattle.std.specs.Prelude.{◌==◌}
use Rattle.std.specs.List.{flat_map}
use Rattle.std.proofs.lemmas.Bool.Decides.{eqb_tells}
use Rattle.regions.specs.declared.place.Place.{Place}
use Rattle.regions.specs.Places.{led_to}
use Rattle.index_tree.specs.Links.{Nodes}
use Rattle.index_tree.specs.Trees.{children_of, if_level, row_below}

-- lists that are equal to such two
pub left_between : {xs ys vs ws : List Place} → xs ≡ vs → Sublist vs ws → ws ≡ ys → Sublist xs ys
left_between {xs} {ys} {vs} {ws} front some back = subst (λ (t : List Place). Sublist xs t) back (subst (λ (t : List Place). Sublist t ws) (sym front) some)

pub left_same : {xs ys : List Place} → xs ≡ ys → Sublist xs ys
left_same {xs} {ys} same = subst (λ (t : List Place). Sublist xs t) same (Sublist.refl xs)

flat_none : (f : ℕ → List Place) (links : List ℕ) → ((link : ℕ) → f link ≡ []) → flat_map f links ≡ []
flat_none f [] none = refl
flat_none f (link ∷ links) none = ap (λ (t : List Place). t ++ flat_map f links) (none link) ∙ flat_none f links none

-- the nodes of a level below the children of the node at a place
abbrev pub kids_row : Nodes → ℕ → ℕ → Place → List Place
kids_row nodes k level p = flat_map (λ link. row_below nodes k level (led_to link)) (children_of (nodes p))

-- no node below a place is of a higher level
other_level : (k level : ℕ) (p : Place) → level < k → if_level k level p ≡ []
other_level k level p less = elim (eqb_tells k level) [
  | inl here ↦ absurd (let same = here.1 in omega (arith, same, less))
  | inr far ↦ ap (λ (b : Bool). cond {A = List Place} b (p ∷ []) []) far.0
]

none_higher : (nodes : Nodes) (k level : ℕ) → level < k → (o : Option Place) → row_below nodes k level o ≡ []
none_higher nodes k zero less None = refl
none_higher nodes k zero less (Some p) = other_level k zero p less
none_higher nodes k (suc level) less None = refl
none_higher nodes k (suc level) less (Some p) =
    ap (λ (t : List Place). t ++ kids_row nodes k level p) (other_level k (suc level) p less)
    ∙ flat_none (λ link. row_below nodes k level (led_to link)) (children_of (nodes p)) (λ link. none_higher nodes k level (omega arith) (led_to link))

no_kids : (nodes : Nodes) (k level : ℕ) (p : Place) → level < k → kids_row nodes k level p ≡ []
no_kids nodes k level p less = flat_none (λ link. row_below nodes k level (led_to link)) (children_of (nodes p)) (λ link. none_higher nodes k level less (led_to link))

-- two inner nodes side by side, made even or made one
module _ (nodes new : Nodes) (k level : ℕ) (p q : Place) where
  pub rows_even : kids_row new k level p ++ (kids_row new k level q ++ []) ≡ kids_row nodes k level p ++ (kids_row nodes k level q ++ [])
      → row_below new k (suc level) (Some p) ++ (row_below new k (suc level) (Some q) ++ []) ≡ row_below nodes k (suc level) (Some p) ++ (row_below nodes k (suc level) (Some q) ++ [])
  rows_even same = elim (eqb_tells k (suc level)) [
    | inl here ↦ (let at = here.1 in only new (omega (arith, at)) ∙ sym (only nodes (omega (arith, at))))
    | inr far ↦ past new far.0 ∙ (same ∙ sym (past nodes far.0))
  ]
    where
      only : (n : Nodes) → level < k → row_below n k (suc level) (Some p) ++ (row_below n k (suc level) (Some q) ++ []) ≡ (if_level k (suc level) p ++ []) ++ ((if_level k (suc level) q ++ []) ++ [])
      only n less =
          ap (λ (t : List Place). (if_level k (suc level) p ++ t) ++ ((if_level k (suc level) q ++ kids_row n k level q) ++ [])) (no_kids n k level p less)
          ∙ ap (λ (t : List Place). (if_level k (suc level) p ++ []) ++ ((if_level k (suc level) q ++ t) ++ [])) (no_kids n k level q less)

      past : (n : Nodes) → (k == suc level) ≡ false → row_below n k (suc level) (Some p) ++ (row_below n k (suc level) (Some q) ++ []) ≡ kids_row n k level p ++ (kids_row n k level q ++ [])
      past n far =
          ap (λ (b : Bool). (cond {A = List Place} b (p ∷ []) [] ++ kids_row n k level p) ++ ((cond {A = List Place} b (q ∷ []) [] ++ kids_row n k level q) ++ [])) far

  pub rows_one : kids_row new k level p ++ [] ≡ kids_row nodes k level p ++ (kids_row nodes k level q ++ [])
      → Sublist (row_below new k (suc level) (Some p) ++ []) (row_below nodes k (suc level) (Some p) ++ (row_below nodes k (suc level) (Some q) ++ []))
  rows_one same =
      let here : List Place = if_level k (suc level) p in
      let other : List Place = if_level k (suc level) q in
      let kids : List Place = kids_row nodes k level p in
      let more : List Place = kids_row nodes k level q in
      left_between (append_assoc here (kids_row new k level p) [] ∙ ap (λ (t : List Place). here ++ t) same)
      (Sublist.append (Sublist.refl here) (Sublist.append (Sublist.refl kids) (Sublist.append (nil-sublist other) (Sublist.refl (more ++ [])))))
      (ap (λ (t : List Place). here ++ (kids ++ t)) (sym (append_assoc other more [])) ∙ sym (append_assoc here kids ((other ++ more) ++ [])))
