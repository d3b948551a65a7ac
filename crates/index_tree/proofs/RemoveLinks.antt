-- The children of nodes that changed, as rows.
use Rattle.std.proofs.Common.{◌≡◌, ℕ, suc, ◌+◌, ◌-◌, ◌<◌, ◌≤◌, ◌^◌, List, [], ◌∷◌, ◌++◌, All, length, take, drop, map, Some, refl, sym, ap, subst, ◌∙◌, append_assoc, arith, length-append}
use Rattle.std.specs.Prelude.{insert, remove, slice_set}
use Rattle.std.proofs.lemmas.List.{drop-drop, drop-map, drop_at, length-drop, length-map, length-take-le, map-append, set-append_right, take-append-drop, take-map, take_at}
use Rattle.std.proofs.lemmas.List.Edits.{length-remove, remove-append_left}
use Rattle.std.proofs.lemmas.List.Elements.{All-append, All-cons, All-drop, All-nil, All-tail, All-take, All-weaker}
use Rattle.regions.specs.declared.place.Place.{Place}
use Rattle.tree_nodes.specs.Nodes.{Entry, no_place}
use Rattle.regions.specs.Places.{link_to}
use Rattle.index_tree.specs.Inserts.{Branch}
use Rattle.index_tree.proofs.Frame.{all_front}
use Rattle.index_tree.proofs.FrameRows.{branch, links_of}
use Rattle.index_tree.proofs.RemoveInner.{HasLinks}
use Rattle.index_tree.proofs.InsertNode.{length-links}

abbrev IsNone : ℕ → Type 0
IsNone link = link ≡ no_place

abbrev IsSmall : ℕ → Type 0
IsSmall link = link < 2 ^ 64

none_small : (links : List ℕ) → All IsNone links → All IsSmall links
none_small links all = All-weaker IsNone IsSmall (λ l e. omega (arith, e)) links all

abbrev link_in : Branch → ℕ
link_in b = link_to (Some b.place)

-- ---- such children, and none behind them

pub from_parts : (links rest : List ℕ) (first : Place) (bs : List Branch) → links ≡ links_of first bs ++ rest → length links ≡ 17 → All IsSmall (links_of first bs) → All IsNone rest → HasLinks links first bs
from_parts links rest first bs are size small none = record {
  size = size;
  small = subst (λ (t : List ℕ). All IsSmall t) (sym are) (All-append IsSmall (links_of first bs) rest small (none_small rest none));
  front = ap (λ (t : List ℕ). take (suc (length bs)) t) are ∙ take_at (links_of first bs) rest (suc (length bs)) (length-links first bs);
  others = subst (λ (t : List ℕ). All IsNone t) (sym (ap (λ (t : List ℕ). drop (suc (length bs)) t) are ∙ drop_at (links_of first bs) rest (suc (length bs)) (length-links first bs))) none;
}

module _ {links : List ℕ} {first : Place} {bs : List Branch} (has : HasLinks links first bs) where
  abbrev rest_of : List ℕ
  rest_of = drop (suc (length bs)) links

  parts : links ≡ links_of first bs ++ drop (suc (length bs)) links
  parts = sym (take-append-drop (suc (length bs)) links) ∙ ap (λ (t : List ℕ). t ++ drop (suc (length bs)) links) has.front

  small_front : All IsSmall (links_of first bs)
  small_front = all_front IsSmall (links_of first bs) (drop (suc (length bs)) links) (subst (λ (t : List ℕ). All IsSmall t) parts has.small)

  few : length bs < 17
  few =
      let a = ap (λ (t : List ℕ). length t) parts in
      let b = length-append (links_of first bs) (drop (suc (length bs)) links) in
      let c = length-links first bs in
      let d = has.size in
      omega (arith, a, b, c, d)

  length-rest : length (drop (suc (length bs)) links) + suc (length bs) ≡ 17
  length-rest = let a = length-drop (suc (length bs)) links in let b = has.size in let c = few in omega (arith, a, b, c)

  -- the places of another row are the same
  pub links_renamed : (cs : List Branch) → map link_in cs ≡ map link_in bs → HasLinks links first cs
  links_renamed cs same =
      let long : length cs ≡ length bs = sym (length-map cs link_in) ∙ (ap (λ (t : List ℕ). length t) same ∙ length-map bs link_in) in
      record {
        size = has.size;
        small = has.small;
        front = ap (λ n. take (suc n) links) long ∙ (has.front ∙ ap (λ (t : List ℕ). link_to (Some first) ∷ t) (sym same));
        others = subst (λ n. All IsNone (drop (suc n) links)) (sym long) has.others;
      }

  -- a child is gone that is not the first
  pub links_gone : (j : ℕ) → j < length bs → HasLinks (remove links (suc j) ++ no_place ∷ []) first (remove bs j)
  links_gone j within =
      let rest : List ℕ = drop (suc (length bs)) links in
      let long = length-links first bs in
      let gone : remove (links_of first bs) (suc j) ≡ links_of first (remove bs j) =
      ap (λ (t : List ℕ). link_to (Some first) ∷ (t ++ drop (suc j) (map link_in bs))) (take-map link_in j bs)
      ∙ (ap (λ (t : List ℕ). link_to (Some first) ∷ (map link_in (take j bs) ++ t)) (drop-map link_in (suc j) bs)
      ∙ ap (λ (t : List ℕ). link_to (Some first) ∷ t) (sym (map-append link_in (take j bs) (drop (suc j) bs)))) in
      let are : remove links (suc j) ++ no_place ∷ [] ≡ links_of first (remove bs j) ++ (rest ++ no_place ∷ []) =
      ap (λ (t : List ℕ). remove t (suc j) ++ no_place ∷ []) parts
      ∙ (ap (λ (t : List ℕ). t ++ no_place ∷ []) (remove-append_left (links_of first bs) rest (suc j) (omega (arith, long, within)) ∙ ap (λ (t : List ℕ). t ++ rest) gone)
      ∙ append_assoc (links_of first (remove bs j)) rest (no_place ∷ [])) in
      let fewer = length-remove bs j within in
      let a = length-append (links_of first (remove bs j)) (rest ++ no_place ∷ []) in
      let b = length-append rest (no_place ∷ []) in
      let c = length-links first (remove bs j) in
      let d = length-rest in
      from_parts (remove links (suc j) ++ no_place ∷ []) (rest ++ no_place ∷ []) first (remove bs j) are
      (ap (λ (t : List ℕ). length t) are ∙ omega (arith, fewer, a, b, c, d))
      (subst (λ (t : List ℕ). All IsSmall t) gone
      (All-append IsSmall (take (suc j) (links_of first bs)) (drop (suc (suc j)) (links_of first bs)) (All-take IsSmall (suc j) (links_of first bs) small_front)
      (All-drop IsSmall (suc (suc j)) (links_of first bs) small_front)))
      (All-append IsNone rest (no_place ∷ []) has.others (All-cons IsNone no_place [] refl (All-nil IsNone)))

  -- one more in front
  pub links_first_more : (q : Place) (e : Entry) → link_to (Some q) < 2 ^ 64 → length bs < 16 → HasLinks (take 17 (insert links 0 (link_to (Some q)))) q (branch e first ∷ bs)
  links_first_more q e small less =
      let rest : List ℕ = drop (suc (length bs)) links in
      let long = length-links first bs in
      let d = length-rest in
      let cut : take 16 links ≡ links_of first bs ++ take (15 - length bs) rest =
      ap (λ (t : List ℕ). take 16 t) parts
      ∙ (ap (λ n. take n (links_of first bs ++ rest)) {x = 16} {y = suc (length bs) + (15 - length bs)} (omega (arith, less))
      ∙ past (links_of first bs) rest (suc (length bs)) (15 - length bs) long) in
      let are : take 17 (insert links 0 (link_to (Some q))) ≡ links_of q (branch e first ∷ bs) ++ take (15 - length bs) rest = ap (λ (t : List ℕ). link_to (Some q) ∷ t) cut in
      let a = length-append (links_of q (branch e first ∷ bs)) (take (15 - length bs) rest) in
      let b = length-links q (branch e first ∷ bs) in
      let c = length-take-le (15 - length bs) rest (omega (arith, d, less)) in
      from_parts (take 17 (insert links 0 (link_to (Some q)))) (take (15 - length bs) rest) q (branch e first ∷ bs) are
      (ap (λ (t : List ℕ). length t) are ∙ omega (arith, a, b, c, d, less))
      (All-cons IsSmall (link_to (Some q)) (links_of first bs) small small_front)
      (All-take IsNone (15 - length bs) rest has.others)
    where
      past : (xs ys : List ℕ) (n m : ℕ) → length xs ≡ n → take (n + m) (xs ++ ys) ≡ xs ++ take m ys
      past [] ys n m is = ap (λ k. take k ys) {x = n + m} {y = m} (omega arith)
      past (x ∷ xs) ys n m is =
          ap (λ k. take k (x ∷ (xs ++ ys))) {x = n + m} {y = suc ((n - 1) + m)} (omega arith) ∙ ap (λ (t : List ℕ). x ∷ t) (past xs ys (n - 1) m (omega arith))

  -- one more behind
  pub links_last_more : (q : Place) (e : Entry) → link_to (Some q) < 2 ^ 64 → length bs < 16 → HasLinks (slice_set links (length bs + 1) (link_to (Some q))) first (bs ++ branch e q ∷ [])
  links_last_more q e small less =
      let a : List ℕ = links_of first bs in
      let rest : List ℕ = drop (suc (length bs)) links in
      let long = length-links first bs in
      let d = length-rest in
      let joined : links_of first (bs ++ branch e q ∷ []) ≡ a ++ link_to (Some q) ∷ [] = ap (λ (t : List ℕ). link_to (Some first) ∷ t) (map-append link_in bs (branch e q ∷ [])) in
      let behind : slice_set rest (length bs + 1 - suc (length bs)) (link_to (Some q)) ≡ link_to (Some q) ∷ drop 1 rest =
      ap (λ n. slice_set rest n (link_to (Some q))) {x = length bs + 1 - suc (length bs)} {y = 0} (omega arith) ∙ first_set rest (link_to (Some q)) (omega (arith, d, less)) in
      let are : slice_set links (length bs + 1) (link_to (Some q)) ≡ links_of first (bs ++ branch e q ∷ []) ++ drop 1 rest =
      ap (λ (t : List ℕ). slice_set t (length bs + 1) (link_to (Some q))) parts
      ∙ (set-append_right a rest (suc (length bs)) (length bs + 1) (link_to (Some q)) long (omega arith)
      ∙ (ap (λ (t : List ℕ). a ++ t) behind
      ∙ (sym (append_assoc a (link_to (Some q) ∷ []) (drop 1 rest)) ∙ ap (λ (t : List ℕ). t ++ drop 1 rest) (sym joined)))) in
      let x = length-append (links_of first (bs ++ branch e q ∷ [])) (drop 1 rest) in
      let y = length-links first (bs ++ branch e q ∷ []) in
      let z = length-append bs (branch e q ∷ []) in
      let w = length-drop 1 rest in
      from_parts (slice_set links (length bs + 1) (link_to (Some q))) (drop 1 rest) first (bs ++ branch e q ∷ []) are
      (ap (λ (t : List ℕ). length t) are ∙ omega (arith, x, y, z, w, d, less))
      (subst (λ (t : List ℕ). All IsSmall t) (sym joined) (All-append IsSmall a (link_to (Some q) ∷ []) small_front (All-cons IsSmall (link_to (Some q)) [] small (All-nil IsSmall))))
      (All-drop IsNone 1 rest has.others)
    where
      first_set : (xs : List ℕ) (x : ℕ) → 1 ≤ length xs → slice_set xs 0 x ≡ x ∷ drop 1 xs
      first_set [] x some = absurd (omega arith)
      first_set (y ∷ xs) x some = refl

-- the first is gone
pub links_first_gone : (links : List ℕ) (first : Place) (b : Branch) (bs : List Branch) → HasLinks links first (b ∷ bs) → HasLinks (remove links 0 ++ no_place ∷ []) b.place bs
links_first_gone links first b bs has =
    let rest : List ℕ = drop (suc (length (b ∷ bs))) links in
    let gone : remove links 0 ≡ links_of b.place bs ++ rest = ap (λ (t : List ℕ). remove t 0) (parts has) in
    let are : remove links 0 ++ no_place ∷ [] ≡ links_of b.place bs ++ (rest ++ no_place ∷ []) =
    ap (λ (t : List ℕ). t ++ no_place ∷ []) gone ∙ append_assoc (links_of b.place bs) rest (no_place ∷ []) in
    let a = length-append (links_of b.place bs) (rest ++ no_place ∷ []) in
    let c = length-append rest (no_place ∷ []) in
    let d = length-rest has in
    let e = length-links b.place bs in
    from_parts (remove links 0 ++ no_place ∷ []) (rest ++ no_place ∷ []) b.place bs are
    (ap (λ (t : List ℕ). length t) are ∙ omega (arith, a, c, d, e))
    (All-tail IsSmall (link_to (Some first)) (links_of b.place bs) (small_front has))
    (All-append IsNone rest (no_place ∷ []) has.others (All-cons IsNone no_place [] refl (All-nil IsNone)))

-- those of another row behind
pub links_joined : (links more : List ℕ) (first second : Place) (bs cs : List Branch) (s : Entry) → HasLinks links first bs → HasLinks more second cs → length bs + length cs < 16
    → HasLinks (take (length bs + 1) links ++ take (length cs + 1) more ++ drop (length bs + 1 + (length cs + 1)) links) first (bs ++ branch s second ∷ cs)
links_joined links more first second bs cs s has has_more less =
    let k = length bs + 1 in
    let m = length cs + 1 in
    let rest : List ℕ = drop (suc (length bs)) links in
    let d = length-rest has in
    let one : take k links ≡ links_of first bs = ap (λ n. take n links) {x = k} {y = suc (length bs)} (omega arith) ∙ has.front in
    let two : take m more ≡ links_of second cs = ap (λ n. take n more) {x = m} {y = suc (length cs)} (omega arith) ∙ has_more.front in
    let joined : links_of first (bs ++ branch s second ∷ cs) ≡ links_of first bs ++ links_of second cs = ap (λ (t : List ℕ). link_to (Some first) ∷ t) (map-append link_in bs (branch s second ∷ cs)) in
    let are : take k links ++ take m more ++ drop (k + m) links ≡ links_of first (bs ++ branch s second ∷ cs) ++ drop (k + m) links =
    ap (λ (t : List ℕ). t ++ drop (k + m) links) (ap (λ (t : List ℕ). t ++ take m more) one ∙ (ap (λ (t : List ℕ). links_of first bs ++ t) two ∙ sym joined)) in
    let behind : drop (k + m) links ≡ drop m rest = ap (λ n. drop n links) {x = k + m} {y = suc (length bs) + m} (omega arith) ∙ sym (drop-drop m (suc (length bs)) links) in
    let x = length-append (links_of first (bs ++ branch s second ∷ cs)) (drop (k + m) links) in
    let y = length-links first (bs ++ branch s second ∷ cs) in
    let z = length-append bs (branch s second ∷ cs) in
    let w = length-drop (k + m) links in
    let v = has.size in
    from_parts (take k links ++ take m more ++ drop (k + m) links) (drop (k + m) links) first (bs ++ branch s second ∷ cs) are
    (ap (λ (t : List ℕ). length t) are ∙ omega (arith, x, y, z, w, v, less))
    (subst (λ (t : List ℕ). All IsSmall t) (sym joined) (All-append IsSmall (links_of first bs) (links_of second cs) (small_front has) (small_front has_more)))
    (subst (λ (t : List ℕ). All IsNone t) (sym behind) (All-drop IsNone m rest has.others))
