-- Two nodes side by side that were mended, as a part of their parent's row.
use Rattle.std.proofs.Common.{◌≡◌, ℕ, zero, suc, ◌+◌, ◌-◌, ◌<◌, ◌≤◌, ◌⊎◌, inl, inr, Bool, true, false, List, [], ◌∷◌, ◌++◌, All, length, take, drop, map, get_or, Option, Some, refl, sym, ap, subst, ◌∙◌, append_assoc, append-nil, arith, length-append}
use Rattle.std.specs.Prelude.{insert, remove}
use Rattle.std.proofs.lemmas.List.{drop-drop, drop-map, drop_all, drop_at, length-drop, length-map, length-take-le, map-append, take-append-drop, take-map, take_at}
use Rattle.std.proofs.lemmas.List.Edits.{insert_end, length-remove}
use Rattle.std.proofs.lemmas.List.Elements.{All-append, All-cons, All-drop, All-head, All-nil, All-take}
use Rattle.regions.specs.declared.place.Place.{Place}
use Rattle.tree_nodes.specs.Nodes.{Entry, TreeNode, IsEntry, entry_at, no_entry, no_place, started}
use Rattle.regions.specs.Places.{link_to}
use Rattle.index_tree.specs.Links.{Nodes}
use Rattle.index_tree.specs.Inserts.{Branch, Row, entry_of}
use Rattle.index_tree.specs.Removes.{Alters, IsLooseNode, IsTrunk}
use Rattle.index_tree.specs.Pairs.{AreMended, GaveLeft, GaveRight, Joined, gains, gives, gives_child, last_of, separated, separator}
use Rattle.place_lemmas.proofs.Places.{some_same}
use Rattle.index_tree.proofs.Frame.{all_back}
use Rattle.index_tree.proofs.FrameRows.{branch}
use Rattle.index_tree.proofs.InsertRows.{keyed}
use Rattle.index_tree.proofs.InsertLeaf.{refilled}
use Rattle.index_tree.proofs.SearchDown.{split_at}
use Rattle.index_tree.proofs.RemoveInner.{HasLinks, reordered}
use Rattle.index_tree.proofs.RemoveLinks.{links_gone, links_renamed}
use Rattle.index_tree.proofs.RemoveLeaf.{leaves_even, leaves_even_row, leaves_one, leaves_one_row, same_index}

-- what became of the two, and what of the parent
pub record MendedPair (mid new : Nodes) (level : ℕ) (at : Place) (low high : Option (List ℕ)) (left right : Place) (s : Entry) (cs : List Branch) (freed : List Place) : Type 0 where
  pub row : Row new level (Some at) low left cs high
  pub alters : Alters same_index mid new level left (branch s right ∷ []) cs freed

-- another key is between them, or the right one is gone
abbrev pub Turned : Bool → ℕ → TreeNode → TreeNode → Place → List Branch → List Place → List ℕ → Type 0
Turned joined j p p2 right cs freed key = (joined ≡ false) × (cs ≡ branch (separator key) right ∷ []) × (freed ≡ []) × (p2 ≡ separated j key p)

abbrev pub Gone : Bool → ℕ → TreeNode → TreeNode → TreeNode → Place → List Branch → List Place → Type 0
Gone joined j p p2 r2 right cs freed = (joined ≡ true) × (cs ≡ []) × (freed ≡ right ∷ []) × (p2 ≡ gives_child (j + 1) (gives j p)) × (r2 ≡ started 0)

pub record Outcome (mid new : Nodes) (level : ℕ) (at : Place) (low high : Option (List ℕ)) (left right : Place) (s : Entry) (joined : Bool) (j : ℕ) (p p2 r2 : TreeNode) : Type 0 where
  pub cs : List Branch
  pub freed : List Place
  pub pair : MendedPair mid new level at low high left right s cs freed
  pub fits : All IsEntry (map entry_of cs)
  pub zeros : All (λ (e : Entry). e.number ≡ 0) (map entry_of cs)
  pub parent : ((key : List ℕ) × Turned joined j p p2 right cs freed key) ⊎ Gone joined j p p2 r2 right cs freed

-- the last of some
pub last_split : {A : Type 0} (xs : List A) (d : A) → 1 ≤ length xs → xs ≡ remove xs (length xs - 1) ++ (get_or xs (length xs - 1) d ∷ [])
last_split {A} xs d some =
    let n = length xs - 1 in
    let none : drop (n + 1) xs ≡ [] = drop_all (n + 1) xs (omega arith) in
    let none_too : drop (suc n) xs ≡ [] = drop_all (suc n) xs (omega arith) in
    split_at xs n d (omega arith)
    ∙ (ap (λ (t : List A). take n xs ++ (get_or xs n d ∷ t)) none
    ∙ sym (ap (λ (t : List A). (take n xs ++ t) ++ (get_or xs n d ∷ [])) none_too ∙ ap (λ (t : List A). t ++ (get_or xs n d ∷ [])) (append-nil (take n xs))))

module _ (mid new : Nodes) (at : Place) (low high : Option (List ℕ)) (left right : Place) (s : Entry) (joined : Bool) (j : ℕ) (p p2 l r l2 r2 : TreeNode)
    (one : (length l.entries ≡ 7) ⊎ (length r.entries ≡ 7)) (some_left : 7 ≤ length l.entries) (some_right : 7 ≤ length r.entries)
    (left_is : mid left ≡ Some l) (right_is : mid right ≡ Some r) (now_left : new left ≡ Some l2) (now_right : new right ≡ Some r2) where
  pub leaf_outcome : IsTrunk mid zero (Some at) low (Some s.key) left → IsTrunk mid zero (Some at) (Some s.key) high right → AreMended joined j p l r p2 l2 r2
      → Outcome mid new zero at low high left right s joined j p p2 r2
  leaf_outcome (m, is_m, room_left, of_left, none_left) (n, is_n, room_right, of_right, none_right) how = go (some_same is_m left_is) (some_same is_n right_is)
    where
      even : IsLooseNode zero (Some at) low (Some s.key) l → IsLooseNode zero (Some at) (Some s.key) high r → All (λ link. link ≡ no_place) l.children → All (λ link. link ≡ no_place) r.children
          → (xs : List Entry) (d : Entry) (ys : List Entry) → joined ≡ false → l.entries ++ r.entries ≡ xs ++ (d ∷ ys) → 8 ≤ length xs → length xs ≤ 16 → 8 ≤ length (d ∷ ys) → length (d ∷ ys) ≤ 16
          → l2 ≡ refilled xs l.next_leaf l → r2 ≡ refilled (d ∷ ys) r.next_leaf r → p2 ≡ separated j d.key p → Outcome mid new zero at low high left right s joined j p p2 r2
      even of_l of_r none_l none_r xs d ys apart_still whole more_x few_x more_y few_y is_l is_r is_p =
          let now_l : new left ≡ Some (refilled xs l.next_leaf l) = now_left ∙ ap (λ (t : TreeNode). Some t) is_l in
          let now_r : new right ≡ Some (refilled (d ∷ ys) r.next_leaf r) = now_right ∙ ap (λ (t : TreeNode). Some t) is_r in
          let fits : IsEntry d = All-head IsEntry d ys (all_back IsEntry xs (d ∷ ys) (subst (λ (t : List Entry). All IsEntry t) whole
          (All-append IsEntry l.entries r.entries of_l.stands.entries of_r.stands.entries))) in
          let b : Branch = branch (keyed d.key 0) right in
          record {
            cs = b ∷ [];
            freed = [];
            pair = record {
              row = leaves_even_row mid new (Some at) low high left right s.key l r left_is right_is of_l of_r (omega arith) (omega arith) room_left room_right none_l none_r xs d ys whole more_x few_x more_y few_y now_l now_r;
              alters = leaves_even mid new (Some at) low high left right s.key l r left_is right_is of_l of_r (omega arith) (omega arith) room_left room_right none_l none_r xs d ys whole more_x few_x more_y few_y now_l now_r s;
            };
            fits = All-cons IsEntry (keyed d.key 0) [] (record { some_key = fits.some_key; short_key = fits.short_key; number = omega arith }) (All-nil IsEntry);
            zeros = All-cons (λ (e : Entry). e.number ≡ 0) (keyed d.key 0) [] refl (All-nil (λ (e : Entry). e.number ≡ 0));
            parent = inl (d.key, (apart_still, refl, refl, is_p));
          }

      gave_left : IsLooseNode zero (Some at) low (Some s.key) l → IsLooseNode zero (Some at) (Some s.key) high r → All (λ link. link ≡ no_place) l.children → All (λ link. link ≡ no_place) r.children
          → joined ≡ false → GaveLeft j p l r p2 l2 r2 → (es : List Entry) → r.entries ≡ es → Outcome mid new zero at low high left right s joined j p p2 r2
      gave_left of_l of_r none_l none_r apart_still g [] is = absurd (let more = g.more in let size = ap (λ (t : List Entry). length t) is in omega (arith, more, size))
      gave_left of_l of_r none_l none_r apart_still g (e ∷ []) is = absurd (let more = g.more in let size = ap (λ (t : List Entry). length t) is in omega (arith, more, size))
      gave_left of_l of_r none_l none_r apart_still g (e ∷ d ∷ ys) is =
          let more = g.more in
          let size = ap (λ (t : List Entry). length t) is in
          let seven : length l.entries ≡ 7 = elim one [ inl x ↦ x | inr y ↦ absurd (omega (arith, y, more)) ] in
          let few = of_r.stands.few in
          let longer = length-append l.entries (e ∷ []) in
          even of_l of_r none_l none_r (l.entries ++ e ∷ []) d ys apart_still
          (ap (λ (t : List Entry). l.entries ++ t) is ∙ sym (append_assoc l.entries (e ∷ []) (d ∷ ys)))
          (omega (arith, seven, longer)) (omega (arith, seven, longer)) (omega (arith, size, more)) (omega (arith, size, few))
          (g.left_is ∙ (ap (λ (t : List Entry). gains (length l.entries) (get_or t 0 no_entry) l) is ∙ ap (λ (t : List Entry). record l { entries = t }) (insert_end l.entries e)))
          (g.right_is ∙ ap (λ (t : List Entry). record r { entries = remove t 0 }) is)
          (g.parent_is ∙ ap (λ (t : List Entry). separated j (get_or (remove t 0) 0 no_entry).key p) is)

      gone : IsLooseNode zero (Some at) low (Some s.key) l → IsLooseNode zero (Some at) (Some s.key) high r → All (λ link. link ≡ no_place) l.children → joined ≡ true → Joined j p l r p2 l2 r2
          → Outcome mid new zero at low high left right s joined j p p2 r2
      gone of_l of_r none_l yes_joined g =
          let few_l = g.few_left in let few_r = g.few_right in
          let size = length-append l.entries r.entries in
          let now_l : new left ≡ Some (refilled (l.entries ++ r.entries) r.next_leaf l) = now_left ∙ ap (λ (t : TreeNode). Some t) g.left_is in
          record {
            cs = [];
            freed = right ∷ [];
            pair = record {
              row = leaves_one_row mid new (Some at) low high left right s.key l r left_is right_is of_l of_r (omega arith) (omega arith) room_left none_l (omega (arith, size)) (omega (arith, size, few_l, few_r)) now_l;
              alters = leaves_one mid new (Some at) low high left right s.key l r left_is right_is of_l of_r (omega arith) (omega arith) room_left none_l (omega (arith, size)) (omega (arith, size, few_l, few_r)) now_l s;
            };
            fits = All-nil IsEntry;
            zeros = All-nil (λ (e : Entry). e.number ≡ 0);
            parent = inr (yes_joined, refl, refl, g.parent_is, g.right_is);
          }

      gave_right : IsLooseNode zero (Some at) low (Some s.key) l → IsLooseNode zero (Some at) (Some s.key) high r → All (λ link. link ≡ no_place) l.children → All (λ link. link ≡ no_place) r.children
          → joined ≡ false → GaveRight j p l r p2 l2 r2 → Outcome mid new zero at low high left right s joined j p p2 r2
      gave_right of_l of_r none_l none_r apart_still g =
          let more = g.more in
          let k = last_of l in
          let d : Entry = entry_at l k in
          let seven : length r.entries ≡ 7 = elim one [ inl x ↦ absurd (omega (arith, x, more)) | inr y ↦ y ] in
          let few = of_l.stands.few in
          let fewer = length-remove l.entries k (omega arith) in
          even of_l of_r none_l none_r (remove l.entries k) d r.entries apart_still
          (ap (λ (t : List Entry). t ++ r.entries) (last_split l.entries no_entry (omega arith)) ∙ append_assoc (remove l.entries k) (d ∷ []) r.entries)
          (omega (arith, fewer, more)) (omega (arith, fewer, few)) (omega (arith, seven)) (omega (arith, seven))
          g.left_is g.right_is g.parent_is

      go : m ≡ l → n ≡ r → Outcome mid new zero at low high left right s joined j p p2 r2
      go same_left same_right =
          let of_l : IsLooseNode zero (Some at) low (Some s.key) l = subst (λ (t : TreeNode). IsLooseNode zero (Some at) low (Some s.key) t) same_left of_left in
          let of_r : IsLooseNode zero (Some at) (Some s.key) high r = subst (λ (t : TreeNode). IsLooseNode zero (Some at) (Some s.key) high t) same_right of_right in
          let none_l = subst (λ (t : TreeNode). All (λ link. link ≡ no_place) t.children) same_left none_left in
          let none_r = subst (λ (t : TreeNode). All (λ link. link ≡ no_place) t.children) same_right none_right in
          elim how [
            | inl x ↦ gave_right of_l of_r none_l none_r x.0 x.1
            | inr rest ↦ elim rest [ inl y ↦ gave_left of_l of_r none_l none_r y.0 y.1 r.entries refl | inr z ↦ gone of_l of_r none_l z.0 z.1 ]
          ]

-- ---- the parent's row

-- the entries and children that a node has now
pub record NewRow (node new_node : TreeNode) (first : Place) (bs ds : List Branch) : Type 0 where
  pub links : List ℕ
  pub has : HasLinks links first ds
  pub is : new_node ≡ reordered (map entry_of ds) links node
  pub fits : All IsEntry (map entry_of ds)
  pub zeros : All (λ (e : Entry). e.number ≡ 0) (map entry_of ds)
  pub fewer : length ds ≤ length bs
  pub one_fewer : length bs ≤ suc (length ds)

put_over : (es : List Entry) (j : ℕ) (e : Entry) → j < length es → insert (remove es j) j e ≡ take j es ++ (e ∷ drop (suc j) es)
put_over es j e within =
    let size : length (take j es) ≡ j = length-take-le j es (omega (arith, within)) in
    ap (λ (t : List Entry). t ++ (e ∷ drop j (take j es ++ drop (suc j) es))) (take_at (take j es) (drop (suc j) es) j size)
    ∙ ap (λ (t : List Entry). take j es ++ (e ∷ t)) (drop_at (take j es) (drop (suc j) es) j size)

-- a row in which a branch became others
abbrev pub replaced : List Branch → ℕ → List Branch → List Branch
replaced bs j cs = take j bs ++ (cs ++ drop (suc j) bs)

pub new_row : (mid new : Nodes) (level : ℕ) (at : Place) (low high : Option (List ℕ)) (left right : Place) (s : Entry) (joined : Bool) (j : ℕ) (p p2 r2 : TreeNode) (first : Place) (bs : List Branch)
    → p.entries ≡ map entry_of bs → HasLinks p.children first bs → All IsEntry p.entries → All (λ (e : Entry). e.number ≡ 0) p.entries → j < length bs → take 1 (drop j bs) ≡ branch s right ∷ []
    → (out : Outcome mid new level at low high left right s joined j p p2 r2) → NewRow p p2 first bs (take j bs ++ (out.cs ++ drop (suc j) bs))
new_row mid new level at low high left right s joined j p p2 r2 first bs entries has fits zeros within seg out =
    elim out.parent [
      | inl t ↦ turned t.0 t.1.1 t.1.3
      | inr g ↦ gone g.1 g.3
    ]
  where
    map_after : (cs : List Branch) → map entry_of (replaced bs j cs) ≡ take j (map entry_of bs) ++ (map entry_of cs ++ drop (suc j) (map entry_of bs))
    map_after cs =
        map-append entry_of (take j bs) (cs ++ drop (suc j) bs)
        ∙ (ap (λ (t : List Entry). t ++ map entry_of (cs ++ drop (suc j) bs)) (sym (take-map entry_of j bs))
        ∙ ap (λ (t : List Entry). take j (map entry_of bs) ++ t) (map-append entry_of cs (drop (suc j) bs) ∙ ap (λ (t : List Entry). map entry_of cs ++ t) (sym (drop-map entry_of (suc j) bs))))

    all_after : (P : Entry → Type 0) → All P p.entries → All P (map entry_of out.cs) → All P (map entry_of (replaced bs j out.cs))
    all_after P all more =
        let es : List Entry = map entry_of bs in
        let these : All P es = subst (λ (t : List Entry). All P t) entries all in
        subst (λ (t : List Entry). All P t) (sym (map_after out.cs))
        (All-append P (take j es) (map entry_of out.cs ++ drop (suc j) es) (All-take P j es these)
        (All-append P (map entry_of out.cs) (drop (suc j) es) more (All-drop P (suc j) es these)))

    size_es : length p.entries ≡ length bs
    size_es = ap (λ (t : List Entry). length t) entries ∙ length-map bs entry_of

    size_after : length (replaced bs j out.cs) + 1 ≡ length bs + length out.cs
    size_after =
        let a = length-append (take j bs) (out.cs ++ drop (suc j) bs) in
        let b = length-append out.cs (drop (suc j) bs) in
        let c = length-take-le j bs (omega (arith, within)) in
        let d = length-drop (suc j) bs in
        omega (arith, a, b, c, d, within)

    whole : bs ≡ take j bs ++ (branch s right ∷ drop (suc j) bs)
    whole =
        sym (take-append-drop j bs)
        ∙ ap (λ (t : List Branch). take j bs ++ t) (sym (take-append-drop 1 (drop j bs)) ∙ (ap (λ (t : List Branch). t ++ drop 1 (drop j bs)) seg
        ∙ ap (λ (t : List Branch). branch s right ∷ t) (drop-drop 1 j bs ∙ ap (λ n. drop n bs) {x = j + 1} {y = suc j} (omega arith))))

    turned : (key : List ℕ) → out.cs ≡ branch (separator key) right ∷ [] → p2 ≡ separated j key p → NewRow p p2 first bs (replaced bs j out.cs)
    turned key is_cs is_p =
        let cs : List Branch = branch (separator key) right ∷ [] in
        let f : Branch → ℕ = λ b. link_to (Some b.place) in
        let same_links : map f (replaced bs j out.cs) ≡ map f bs =
        ap (λ (t : List Branch). map f (replaced bs j t)) is_cs
        ∙ (map-append f (take j bs) (cs ++ drop (suc j) bs) ∙ (sym (map-append f (take j bs) (branch s right ∷ drop (suc j) bs)) ∙ ap (λ (t : List Branch). map f t) (sym whole))) in
        let one : length out.cs ≡ 1 = ap (λ (t : List Branch). length t) is_cs in
        let size = size_after in
        record {
          links = p.children;
          has = links_renamed has (replaced bs j out.cs) same_links;
          is =
              is_p
              ∙ (ap (λ (t : List Entry). reordered t p.children p) (put_over p.entries j (separator key) (let x = size_es in omega (arith, x, within)))
              ∙ (ap (λ (t : List Entry). reordered (take j t ++ (separator key ∷ drop (suc j) t)) p.children p) entries
              ∙ (ap (λ (t : List Entry). reordered t p.children p) (sym (map_after cs)) ∙ ap (λ (t : List Branch). reordered (map entry_of (replaced bs j t)) p.children p) (sym is_cs))));
          fits = all_after IsEntry fits out.fits;
          zeros = all_after (λ (e : Entry). e.number ≡ 0) zeros out.zeros;
          fewer = omega (arith, size, one);
          one_fewer = omega (arith, size, one);
        }

    gone : out.cs ≡ [] → p2 ≡ gives_child (j + 1) (gives j p) → NewRow p p2 first bs (replaced bs j out.cs)
    gone is_cs is_p =
        let size = size_after in
        let none : length out.cs ≡ 0 = ap (λ (t : List Branch). length t) is_cs in
        record {
          links = remove p.children (suc j) ++ no_place ∷ [];
          has = subst (λ (t : List Branch). HasLinks (remove p.children (suc j) ++ no_place ∷ []) first (replaced bs j t)) (sym is_cs) (links_gone has j within);
          is =
              is_p
              ∙ (ap (λ n. reordered (remove p.entries j) (remove p.children n ++ no_place ∷ []) p) {x = j + 1} {y = suc j} (omega arith)
              ∙ (ap (λ (t : List Entry). reordered (remove t j) (remove p.children (suc j) ++ no_place ∷ []) p) entries
              ∙ (ap (λ (t : List Entry). reordered t (remove p.children (suc j) ++ no_place ∷ []) p) (sym (map_after []))
              ∙ ap (λ (t : List Branch). reordered (map entry_of (replaced bs j t)) (remove p.children (suc j) ++ no_place ∷ []) p) (sym is_cs))));
          fits = all_after IsEntry fits out.fits;
          zeros = all_after (λ (e : Entry). e.number ≡ 0) zeros out.zeros;
          fewer = omega (arith, size, none);
          one_fewer = omega (arith, size, none);
        }
