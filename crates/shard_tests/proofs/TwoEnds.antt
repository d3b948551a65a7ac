-- The two ends of a mesh of two.
use Rattle.std.proofs.Common.{◌≡◌, ◌+◌, List, [], ◌∷◌, ◌++◌, length, Option, Some, Vec, slice_get, refl, sym, ap, subst, ◌∙◌, arith, length-append}
use Rattle.std.specs.declared.alloc.Global.{Global}
use Rattle.std.specs.Option.{option_to_list}
use Rattle.shard_rings.specs.Lanes.{ArePair}
use Rattle.shard_rings.specs.Links.{LinkState, end_of}
use Rattle.shard_rings.specs.Mesh.{Ends, IsMesh}

-- what was popped stood at the end
pub popped : {X : Type 0} (xs ys : List X) (last : Option X) (x : X) → xs ≡ ys ++ option_to_list last → last ≡ Some x
    → xs ≡ ys ++ x ∷ []
popped xs ys last x e some = e ∙ ap (λ o. ys ++ option_to_list o) some

only : (ends front : List LinkState) (x : LinkState) → length ends + 1 ≡ 2 → ends ≡ front ++ x ∷ []
    → slice_get ends 0 ≡ Some x
only ends [] x one e = subst (λ l. slice_get l 0 ≡ Some x) (sym e) refl
only ends (y ∷ ys) x one e = absurd (let l = ap length e ∙ length-append (y ∷ ys) (x ∷ []) in omega (arith, l, one))

both : (shards front : Ends) (first second : Vec LinkState Global) → length shards ≡ 2
    → shards ≡ (front ++ first ∷ []) ++ second ∷ [] → shards ≡ first ∷ second ∷ []
both shards [] first second two e = e
both shards (y ∷ ys) first second two e = absurd (
    let l = ap length e ∙ length-append ((y ∷ ys) ++ first ∷ []) (second ∷ []) in
    let m = length-append (y ∷ ys) (first ∷ []) in
    omega (arith, l, m, two))

pub are_pair : (shards fewer front : Ends) (first second : Vec LinkState Global) (xs ys : List LinkState)
    (x y : LinkState) → IsMesh shards → length shards ≡ 2 → shards ≡ fewer ++ second ∷ [] → fewer ≡ front ++ first ∷ []
    → first.items ≡ xs ++ x ∷ [] → second.items ≡ ys ++ y ∷ [] → ArePair (end_of x) (end_of y)
are_pair shards fewer front first second xs ys x y mesh two of_second of_first of_x of_y =
    let whole = both shards front first second two (of_second ∙ ap (λ l. l ++ second ∷ []) of_first) in
    let first_at : slice_get shards 0 ≡ Some first = subst (λ l. slice_get l 0 ≡ Some first) (sym whole) refl in
    let second_at : slice_get shards 1 ≡ Some second = subst (λ l. slice_get l 1 ≡ Some second) (sym whole) refl in
    mesh.pairs 0 0 x y (omega arith)
    (record {
      own = first;
      own_at = first_at;
      end_at = only first.items xs x (mesh.lengths 0 first first_at ∙ two) of_x;
    })
    (record {
      own = second;
      own_at = second_at;
      end_at = only second.items ys y (mesh.lengths 1 second second_at ∙ two) of_y;
    })
