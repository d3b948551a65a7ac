-- Two inner nodes side by side that were mended, as a part of their parent's row.
use Rattle.std.proofs.Common.{◌≡◌, ℕ, suc, ◌+◌, ◌-◌, ◌<◌, ◌≤◌, ◌^◌, ◌⊎◌, inl, inr, Bool, true, false, List, [], ◌∷◌, ◌++◌, All, length, take, drop, map, get_or, Option, Some, refl, sym, ap, subst, ◌∙◌, append_assoc, arith, length-append}
use Rattle.std.specs.Prelude.{insert, remove, slice_set}
use Rattle.std.proofs.lemmas.List.{drop-map, get_or-map, get_or-take, get_or_at, length-map, map-append, take-map}
use Rattle.std.proofs.lemmas.List.Edits.{insert_end, length-remove}
use Rattle.std.proofs.lemmas.List.Elements.{All-cons, All-get_or, All-nil}
use Rattle.regions.specs.declared.place.Place.{Place}
use Rattle.tree_nodes.specs.Nodes.{Entry, TreeNode, IsEntry, child_at, entry_at, no_entry, no_place, started}
use Rattle.regions.specs.Places.{link_to}
use Rattle.index_tree.specs.Links.{Nodes}
use Rattle.index_tree.specs.Inserts.{Branch, entry_of, place_in}
use Rattle.index_tree.specs.Removes.{IsInnerTrunk}
use Rattle.index_tree.specs.Pairs.{AreMendedAbove, GaveLeftAbove, GaveRightAbove, JoinedAbove, last_of, separated, separator, gives, gives_child}
use Rattle.index_tree.proofs.FrameRows.{branch, links_of}
use Rattle.index_tree.proofs.RemoveInner.{HasLinks, IsCarried, inner_even, inner_even_row, inner_one, inner_one_row, reordered}
use Rattle.index_tree.proofs.RemoveLinks.{links_first_gone, links_first_more, links_gone, links_joined, links_last_more}
use Rattle.index_tree.proofs.RemoveMend.{Outcome, last_split}
use Rattle.index_tree.proofs.InsertNode.{length-links}

map_removed : (bs : List Branch) (k : ℕ) → remove (map entry_of bs) k ≡ map entry_of (remove bs k)
map_removed bs k =
    ap (λ (t : List Entry). t ++ drop (suc k) (map entry_of bs)) (take-map entry_of k bs)
    ∙ (ap (λ (t : List Entry). map entry_of (take k bs) ++ t) (drop-map entry_of (suc k) bs) ∙ sym (map-append entry_of (take k bs) (drop (suc k) bs)))

pub as_separator : (s : Entry) → s.number ≡ 0 → s ≡ separator s.key
as_separator s zero_is = let at : ℕ → Entry = λ n. record { key = s.key; number = n } in ap (λ n. at n) zero_is

no_branch : Branch
no_branch = branch no_entry (record { segment = 0; at = 0 })

module _ (nodes : Nodes) (level : ℕ) (parent : Option Place) (low high : Option (List ℕ)) (p : Place) (t : IsInnerTrunk nodes level parent low high p) where
  pub trunk_size : length t.node.entries ≡ length t.branches
  trunk_size = ap (λ (es : List Entry). length es) t.entries ∙ length-map t.branches entry_of

  pub trunk_links : HasLinks t.node.children t.first t.branches
  trunk_links = record {
    size = t.of.stands.children;
    small = t.of.stands.places;
    front = subst (λ k. take (suc k) t.node.children ≡ links_of t.first t.branches) trunk_size t.links;
    others = subst (λ k. All (λ link. link ≡ no_place) (drop (suc k) t.node.children)) trunk_size t.inner.others;
  }

child_in_links : (links : List ℕ) (first : Place) (xs : List Branch) (m : Branch) (n : ℕ) → HasLinks links first (xs ++ m ∷ []) → n ≡ suc (length xs) → get_or links n no_place ≡ link_to (Some m.place)
child_in_links links first xs m n has is =
    let bs : List Branch = xs ++ m ∷ [] in
    let size = length-append xs (m ∷ []) in
    sym (get_or-take (suc (length bs)) links n no_place (omega (arith, size, is)))
    ∙ (ap (λ (t : List ℕ). get_or t n no_place) (has.front ∙ ap (λ (t : List ℕ). link_to (Some first) ∷ t) (map-append (λ (b : Branch). link_to (Some b.place)) xs (m ∷ [])))
    ∙ get_or_at (links_of first xs) (link_to (Some m.place)) [] no_place n (length-links first xs ∙ sym is))

module _ (mid : Nodes) (level : ℕ) (at : Place) (low high : Option (List ℕ)) (left right : Place) (s : Entry) (joined : Bool) (j : ℕ) (p p2 l2 r2 : TreeNode)
    (l : IsInnerTrunk mid level (Some at) low (Some s.key) left) (r : IsInnerTrunk mid level (Some at) (Some s.key) high right)
    (fits : IsEntry s) (zero_is : s.number ≡ 0) (sep_is : entry_at p j ≡ s)
    (one : (length l.node.entries ≡ 7) ⊎ (length r.node.entries ≡ 7)) (some_left : 7 ≤ length l.node.entries) (some_right : 7 ≤ length r.node.entries) where
  -- both nodes have a part of the children
  pub record EvenShape : Type 0 where
    pub xs : List Branch
    pub m : Branch
    pub ys : List Branch
    pub links_p : List ℕ
    pub links_q : List ℕ
    pub still : joined ≡ false
    pub whole : l.branches ++ (branch s r.first ∷ r.branches) ≡ xs ++ (m ∷ ys)
    pub more_x : 8 ≤ length xs
    pub few_x : length xs ≤ 16
    pub more_y : 8 ≤ length ys
    pub few_y : length ys ≤ 16
    pub has_p : HasLinks links_p l.first xs
    pub has_q : HasLinks links_q m.place ys
    pub is_l : l2 ≡ reordered (map entry_of xs) links_p l.node
    pub is_r : r2 ≡ reordered (map entry_of ys) links_q r.node
    pub entry_m : IsEntry m.entry
    pub zero_m : m.entry.number ≡ 0
    pub parent_is : p2 ≡ separated j m.entry.key p

  -- or the left one has all
  pub record OneShape : Type 0 where
    pub links_p : List ℕ
    pub gone : joined ≡ true
    pub more : 8 ≤ length (l.branches ++ (branch s r.first ∷ r.branches))
    pub few : length (l.branches ++ (branch s r.first ∷ r.branches)) ≤ 16
    pub has_p : HasLinks links_p l.first (l.branches ++ (branch s r.first ∷ r.branches))
    pub is_l : l2 ≡ reordered (map entry_of (l.branches ++ (branch s r.first ∷ r.branches))) links_p l.node
    pub parent_is : p2 ≡ gives_child (j + 1) (gives j p)
    pub right_is : r2 ≡ started 0

  size_l : length l.node.entries ≡ length l.branches
  size_l = trunk_size mid level (Some at) low (Some s.key) left l

  size_r : length r.node.entries ≡ length r.branches
  size_r = trunk_size mid level (Some at) (Some s.key) high right r

  has_l : HasLinks l.node.children l.first l.branches
  has_l = trunk_links mid level (Some at) low (Some s.key) left l

  has_r : HasLinks r.node.children r.first r.branches
  has_r = trunk_links mid level (Some at) (Some s.key) high right r

  sep_same : separator (entry_at p j).key ≡ s
  sep_same = ap (λ (e : Entry). separator e.key) sep_is ∙ sym (as_separator s zero_is)

  even : (xs : List Branch) (m : Branch) (ys : List Branch) (links_p links_q : List ℕ) → joined ≡ false → l.branches ++ (branch s r.first ∷ r.branches) ≡ xs ++ (m ∷ ys)
      → 8 ≤ length xs → length xs ≤ 16 → 8 ≤ length ys → length ys ≤ 16 → HasLinks links_p l.first xs → HasLinks links_q m.place ys
      → l2 ≡ reordered (map entry_of xs) links_p l.node → r2 ≡ reordered (map entry_of ys) links_q r.node → IsEntry m.entry → m.entry.number ≡ 0 → p2 ≡ separated j m.entry.key p → EvenShape
  even xs m ys links_p links_q apart_still whole more_x few_x more_y few_y has_p has_q is_l is_r entry_m zero_m parent_is = record {
    xs = xs;
    m = m;
    ys = ys;
    links_p = links_p;
    links_q = links_q;
    still = apart_still;
    whole = whole;
    more_x = more_x;
    few_x = few_x;
    more_y = more_y;
    few_y = few_y;
    has_p = has_p;
    has_q = has_q;
    is_l = is_l;
    is_r = is_r;
    entry_m = entry_m;
    zero_m = zero_m;
    parent_is = parent_is;
  }

  gave_right : joined ≡ false → GaveRightAbove j p l.node r.node p2 l2 r2 → EvenShape
  gave_right apart_still g =
      let more = g.more in
      let k = last_of l.node in
      let n = length l.node.entries in
      let bs : List Branch = l.branches in
      let m : Branch = get_or bs (length bs - 1) no_branch in
      let xs : List Branch = remove bs (length bs - 1) in
      let size = size_l in let size_right = size_r in
      let whole : bs ≡ xs ++ m ∷ [] = last_split bs no_branch (omega (arith, size, more)) in
      let seven : length r.node.entries ≡ 7 = elim one [ inl x ↦ absurd (omega (arith, x, more)) | inr y ↦ y ] in
      let few = l.of.stands.few in
      let fewer = length-remove bs (length bs - 1) (omega (arith, size, more)) in
      let k_is : k ≡ length bs - 1 = omega (arith, size) in
      let entry_is : entry_at l.node k ≡ m.entry =
      ap (λ (es : List Entry). get_or es k no_entry) l.entries ∙ (ap (λ i. get_or (map entry_of bs) i no_entry) k_is ∙ get_or-map entry_of bs (length bs - 1) no_branch no_entry (omega (arith, size, more))) in
      let entry_m : IsEntry m.entry = subst (λ (e : Entry). IsEntry e) entry_is (All-get_or IsEntry l.node.entries k no_entry (omega (arith, more)) l.of.stands.entries) in
      let zero_m : m.entry.number ≡ 0 = subst (λ (e : Entry). e.number ≡ 0) entry_is (All-get_or (λ e. e.number ≡ 0) l.node.entries k no_entry (omega (arith, more)) l.inner.numbers) in
      let links_p : List ℕ = remove l.node.children (suc (length bs - 1)) ++ no_place ∷ [] in
      let links_q : List ℕ = take 17 (insert r.node.children 0 (link_to (Some m.place))) in
      let child_m = child_in_links l.node.children l.first xs m n (subst (λ (t : List Branch). HasLinks l.node.children l.first t) whole has_l) (omega (arith, size, fewer)) in
      let small_m : link_to (Some m.place) < 2 ^ 64 =
      subst (λ i. i < 2 ^ 64) child_m (All-get_or (λ i. i < 2 ^ 64) l.node.children n no_place (let many = l.of.stands.children in omega (arith, many, few)) l.of.stands.places) in
      even xs m (branch s r.first ∷ r.branches) links_p links_q apart_still
      (ap (λ (t : List Branch). t ++ (branch s r.first ∷ r.branches)) whole ∙ append_assoc xs (m ∷ []) (branch s r.first ∷ r.branches))
      (omega (arith, size, more, fewer)) (omega (arith, size, few, fewer)) (omega (arith, size_right, seven)) (omega (arith, size_right, seven))
      (links_gone has_l (length bs - 1) (omega (arith, size, more)))
      (links_first_more has_r m.place s small_m (omega (arith, size_right, seven)))
      (g.left_is
      ∙ (ap (λ i. reordered (remove l.node.entries k) (remove l.node.children i ++ no_place ∷ []) l.node) {x = n} {y = suc (length bs - 1)} (omega (arith, size, more))
      ∙ ap (λ (es : List Entry). reordered es links_p l.node)
      (ap (λ (es : List Entry). remove es k) l.entries ∙ (ap (λ i. remove (map entry_of bs) i) k_is ∙ map_removed bs (length bs - 1)))))
      (g.right_is
      ∙ (ap (λ i. reordered (separator (entry_at p j).key ∷ r.node.entries) (take 17 (insert r.node.children 0 i)) r.node)
      child_m
      ∙ (ap (λ (e : Entry). reordered (e ∷ r.node.entries) links_q r.node) sep_same ∙ ap (λ (es : List Entry). reordered (s ∷ es) links_q r.node) r.entries)))
      entry_m zero_m
      (g.parent_is ∙ ap (λ (e : Entry). separated j e.key p) entry_is)

  gave_left : joined ≡ false → GaveLeftAbove j p l.node r.node p2 l2 r2 → (bs : List Branch) → r.branches ≡ bs → EvenShape
  gave_left apart_still g [] is =
      absurd (let more = g.more in let size_right = size_r in let none = ap (λ (t : List Branch). length t) is in omega (arith, more, size_right, none))
  gave_left apart_still g (b ∷ bs) is =
      let more = g.more in
      let n = length l.node.entries in
      let size = size_l in let size_right = size_r in
      let longer = ap (λ (t : List Branch). length t) is in
      let seven : length l.node.entries ≡ 7 = elim one [ inl x ↦ x | inr y ↦ absurd (omega (arith, y, more)) ] in
      let few = r.of.stands.few in
      let first_link : child_at r.node 0 ≡ link_to (Some r.first) =
      sym (get_or-take (suc (length r.branches)) r.node.children 0 no_place (omega arith)) ∙ ap (λ (t : List ℕ). get_or t 0 no_place) has_r.front in
      let small : link_to (Some r.first) < 2 ^ 64 =
      subst (λ i. i < 2 ^ 64) first_link (All-get_or (λ i. i < 2 ^ 64) r.node.children 0 no_place (let many = r.of.stands.children in omega (arith, many)) r.of.stands.places) in
      let es : r.node.entries ≡ b.entry ∷ map entry_of bs = r.entries ∙ ap (λ (t : List Branch). map entry_of t) is in
      let entry_b : IsEntry b.entry = subst (λ (t : List Entry). IsEntry (get_or t 0 no_entry)) es (All-get_or IsEntry r.node.entries 0 no_entry (omega (arith, more)) r.of.stands.entries) in
      let zero_b : b.entry.number ≡ 0 = subst (λ (t : List Entry). (get_or t 0 no_entry).number ≡ 0) es (All-get_or (λ e. e.number ≡ 0) r.node.entries 0 no_entry (omega (arith, more)) r.inner.numbers) in
      let xs : List Branch = l.branches ++ branch s r.first ∷ [] in
      let size_xs = length-append l.branches (branch s r.first ∷ []) in
      let links_p : List ℕ = slice_set l.node.children (length l.branches + 1) (link_to (Some r.first)) in
      let links_q : List ℕ = remove r.node.children 0 ++ no_place ∷ [] in
      let entries_p : insert l.node.entries n (separator (entry_at p j).key) ≡ map entry_of xs =
      insert_end l.node.entries (separator (entry_at p j).key)
      ∙ (ap (λ (e : Entry). l.node.entries ++ e ∷ []) sep_same ∙ (ap (λ (t : List Entry). t ++ s ∷ []) l.entries ∙ sym (map-append entry_of l.branches (branch s r.first ∷ [])))) in
      even xs b bs links_p links_q apart_still
      (ap (λ (t : List Branch). l.branches ++ (branch s r.first ∷ t)) is ∙ sym (append_assoc l.branches (branch s r.first ∷ []) (b ∷ bs)))
      (omega (arith, size, seven, size_xs)) (omega (arith, size, seven, size_xs)) (omega (arith, size_right, more, longer)) (omega (arith, size_right, few, longer))
      (links_last_more has_l r.first s small (omega (arith, size, seven)))
      (links_first_gone r.node.children r.first b bs (subst (λ (t : List Branch). HasLinks r.node.children r.first t) is has_r))
      (g.left_is
      ∙ (ap (λ i. reordered (insert l.node.entries n (separator (entry_at p j).key)) (slice_set l.node.children (n + 1) i) l.node) first_link
      ∙ (ap (λ i. reordered (insert l.node.entries n (separator (entry_at p j).key)) (slice_set l.node.children (i + 1) (link_to (Some r.first))) l.node) size
      ∙ ap (λ (t : List Entry). reordered t links_p l.node) entries_p)))
      (g.right_is ∙ ap (λ (t : List Entry). reordered (remove t 0) links_q r.node) es)
      entry_b zero_b
      (g.parent_is ∙ ap (λ (t : List Entry). separated j (get_or t 0 no_entry).key p) es)

  gone : joined ≡ true → JoinedAbove j p l.node r.node p2 l2 r2 → OneShape
  gone joined_now g =
      let few_l = g.few_left in let few_r = g.few_right in
      let n = length l.node.entries in
      let m = length r.node.entries in
      let size = size_l in let size_right = size_r in
      let all : List Branch = l.branches ++ (branch s r.first ∷ r.branches) in
      let size_all = length-append l.branches (branch s r.first ∷ r.branches) in
      let links_p : List ℕ = take (length l.branches + 1) l.node.children ++ take (length r.branches + 1) r.node.children ++ drop (length l.branches + 1 + (length r.branches + 1)) l.node.children in
      let fifteen : n + m ≤ 15 = elim one [ inl x ↦ omega (arith, x, few_r) | inr y ↦ omega (arith, y, few_l) ] in
      let has_p : HasLinks links_p l.first all = links_joined l.node.children r.node.children l.first r.first l.branches r.branches s has_l has_r (omega (arith, size, size_right, fifteen)) in
      let entries_p : insert l.node.entries n (separator (entry_at p j).key) ++ r.node.entries ≡ map entry_of all =
      ap (λ (t : List Entry). t ++ r.node.entries) (insert_end l.node.entries (separator (entry_at p j).key) ∙ ap (λ (e : Entry). l.node.entries ++ e ∷ []) sep_same)
      ∙ (append_assoc l.node.entries (s ∷ []) r.node.entries
      ∙ (ap (λ (t : List Entry). l.node.entries ++ (s ∷ t)) r.entries ∙ (ap (λ (t : List Entry). t ++ (s ∷ map entry_of r.branches)) l.entries ∙ sym (map-append entry_of l.branches (branch s r.first ∷ r.branches))))) in
      let is_l : l2 ≡ reordered (map entry_of all) links_p l.node =
      g.left_is
      ∙ (ap (λ i. reordered (insert l.node.entries n (separator (entry_at p j).key) ++ r.node.entries) (take (i + 1) l.node.children ++ take (m + 1) r.node.children ++ drop (i + 1 + (m + 1)) l.node.children) l.node) size
      ∙ (ap (λ i. reordered (insert l.node.entries n (separator (entry_at p j).key) ++ r.node.entries)
      (take (length l.branches + 1) l.node.children ++ take (i + 1) r.node.children ++ drop (length l.branches + 1 + (i + 1)) l.node.children) l.node) size_right
      ∙ ap (λ (t : List Entry). reordered t links_p l.node) entries_p)) in
      let more : 8 ≤ length all = omega (arith, size_all, size, size_right) in
      let few : length all ≤ 16 = omega (arith, size_all, size, size_right, fifteen) in
      record {
        links_p = links_p;
        gone = joined_now;
        more = more;
        few = few;
        has_p = has_p;
        is_l = is_l;
        parent_is = g.parent_is;
        right_is = g.right_is;
      }

  pub shape : AreMendedAbove joined j p l.node r.node p2 l2 r2 → EvenShape ⊎ OneShape
  shape how = elim how [
    | inl x ↦ inl (gave_right x.0 x.1)
    | inr rest ↦ elim rest [ inl y ↦ inl (gave_left y.0 y.1 r.branches refl) | inr z ↦ inr (gone z.0 z.1) ]
  ]

  -- once their children are carried under them
  module _ (new : Nodes) (now_left : new left ≡ Some l2) (now_right : new right ≡ Some r2) where
    pub even_outcome : (e : EvenShape) → All (IsCarried mid new level left) (l.first ∷ map place_in e.xs) → All (IsCarried mid new level right) (e.m.place ∷ map place_in e.ys)
        → Outcome mid new (suc level) at low high left right s joined j p p2 r2
    even_outcome e carried_p carried_q =
        let now_p : new left ≡ Some (reordered (map entry_of e.xs) e.links_p l.node) = now_left ∙ ap (λ (t : TreeNode). Some t) e.is_l in
        let now_q : new right ≡ Some (reordered (map entry_of e.ys) e.links_q r.node) = now_right ∙ ap (λ (t : TreeNode). Some t) e.is_r in
        record {
          cs = branch e.m.entry right ∷ [];
          freed = [];
          pair = record {
            row = inner_even_row mid new level at low high left right s l r fits zero_is e.xs e.m e.ys e.whole e.more_x e.few_x e.more_y e.few_y e.links_p e.links_q e.has_p e.has_q now_p now_q carried_p carried_q;
            alters = inner_even mid new level at low high left right s l r fits zero_is e.xs e.m e.ys e.whole e.more_x e.few_x e.more_y e.few_y e.links_p e.links_q e.has_p e.has_q now_p now_q carried_p carried_q s e.m.entry;
          };
          fits = All-cons IsEntry e.m.entry [] e.entry_m (All-nil IsEntry);
          zeros = All-cons (λ (x : Entry). x.number ≡ 0) e.m.entry [] e.zero_m (All-nil (λ (x : Entry). x.number ≡ 0));
          parent = inl (e.m.entry.key, (e.still, ap (λ (x : Entry). branch x right ∷ []) (as_separator e.m.entry e.zero_m), refl, e.parent_is));
        }

    pub one_outcome : (e : OneShape) → All (IsCarried mid new level left) (l.first ∷ map place_in (l.branches ++ (branch s r.first ∷ r.branches)))
        → Outcome mid new (suc level) at low high left right s joined j p p2 r2
    one_outcome e carried_p =
        let now_p : new left ≡ Some (reordered (map entry_of (l.branches ++ (branch s r.first ∷ r.branches))) e.links_p l.node) = now_left ∙ ap (λ (t : TreeNode). Some t) e.is_l in
        record {
          cs = [];
          freed = right ∷ [];
          pair = record {
            row = inner_one_row mid new level at low high left right s l r fits zero_is e.more e.few e.links_p e.has_p now_p carried_p;
            alters = inner_one mid new level at low high left right s l r fits zero_is e.more e.few e.links_p e.has_p now_p carried_p s;
          };
          fits = All-nil IsEntry;
          zeros = All-nil (λ (x : Entry). x.number ≡ 0);
          parent = inr (e.gone, refl, refl, e.parent_is, e.right_is);
        }
