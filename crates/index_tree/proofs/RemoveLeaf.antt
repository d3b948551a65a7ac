-- A key taken from a leaf, and two leaves made even, or made one.
use mathlib.Core.List.{nil-sublist}
use mathlib.Core.List.Sublist
use Rattle.std.proofs.Common.{◌≡◌, ◌≢◌, ℕ, zero, suc, ◌+◌, ◌<◌, ◌≤◌, List, [], ◌∷◌, ◌++◌, All, length, take, drop, get_or, Option, Some, None, refl, sym, ap, subst, ◌∙◌, append-nil, arith, length-append, is_lt, Bool, cond}
use Rattle.std.specs.Prelude.{option_map}
use Rattle.std.proofs.lemmas.List.{length-take-le, length-drop}
use Rattle.std.proofs.lemmas.List.Elements.{All-nil, All-cons, All-append, All-drop, All-get_or, All-head, All-take, All-weaker}
use Rattle.regions.specs.declared.place.Place.{Place}
use Rattle.tree_nodes.specs.Nodes.{Entry, TreeNode, IsEntry, entry_at, no_entry, no_place, started}
use Rattle.tree_nodes.specs.Order.{AreRising, IsBelow, key_cmp}
use Rattle.index_tree.specs.Indexes.{Index, above, below, without}
use Rattle.regions.specs.Places.{HasRoom}
use Rattle.index_tree.specs.Links.{Nodes}
use Rattle.index_tree.specs.Trees.{IsFrom, IsSubtree, IsUpTo, entries_of, if_level, next_in}
use Rattle.index_tree.specs.Writes.{without_entries}
use Rattle.index_tree.specs.Inserts.{Row, times}
use Rattle.index_tree.specs.Removes.{Alters, IsLooseNode, Loses}
use Rattle.index_tree.specs.Ways.{AllAbove, AllBelow}
use Rattle.index_tree.proofs.Frame.{all_back, all_front}
use Rattle.index_tree.proofs.FrameRows.{branch}
use Rattle.index_tree.proofs.InsertOrder.{rising_across, rising_back, rising_front}
use Rattle.index_tree.proofs.InsertRows.{keyed, times_here, up_trans}
use Rattle.index_tree.proofs.InsertLeaf.{refilled, stands_with}
use Rattle.index_tree.proofs.SearchLists.{above_amid, below_amid, rising_append}
use Rattle.index_tree.proofs.SearchDown.{split_at}
use Rattle.index_tree.proofs.KeyOrder.{from_less, less_from, not_below, not_itself}

-- ---- the order of keys

pub from_after : (low : Option (List ℕ)) (e f : Entry) → IsFrom low e → IsBelow e.key f.key → IsFrom low f
from_after None e f from below = tt
from_after (Some key) e f from below = not_below key f.key (from_less key e.key f.key from below)

-- the entries without the one that has the key
pub without_here : (key : List ℕ) (xs ys : List Entry) (e : Entry) → e.key ≡ key → AllBelow key xs → AllAbove key ys → without key (xs ++ (e ∷ ys)) ≡ xs ++ ys
without_here key xs ys e is under over =
    let one : List Entry = e ∷ [] in
    let none_below : below key one ≡ [] = ap (λ (b : Bool). cond {A = List Entry} b one []) (ap (λ (k : List ℕ). is_lt (key_cmp k key)) is ∙ not_itself key) in
    let none_above : above key one ≡ [] = ap (λ (b : Bool). cond {A = List Entry} b one []) (ap (λ (k : List ℕ). is_lt (key_cmp key k)) is ∙ not_itself key) in
    ap (λ (t : List Entry). t ++ above key (xs ++ (e ∷ ys))) (below_amid key xs one ys under over ∙ (ap (λ (t : List Entry). xs ++ t) none_below ∙ append-nil xs))
    ∙ ap (λ (t : List Entry). xs ++ t) (above_amid key xs one ys under over ∙ ap (λ (t : List Entry). t ++ ys) none_above)

-- ---- a key taken from a leaf

all_removed : (P : Entry → Type 0) (es : List Entry) (i : ℕ) → All P es → All P (take i es ++ drop (i + 1) es)
all_removed P es i all = All-append P (take i es) (drop (i + 1) es) (All-take P i es all) (All-drop P (i + 1) es all)

-- an entry of rising ones taken away
pub rising_removed : (es : List Entry) (i : ℕ) → i < length es → AreRising es → AreRising (take i es ++ drop (i + 1) es)
rising_removed es i within rise =
    let e : Entry = get_or es i no_entry in
    let whole : AreRising (take i es ++ (e ∷ drop (i + 1) es)) = subst AreRising (split_at es i no_entry within) rise in
    rising_append (take i es) (drop (i + 1) es) (rising_front (take i es) (e ∷ drop (i + 1) es) whole) (rising_back (take i es) (e ∷ drop (i + 1) es) whole).1
    (All-weaker (λ x. AllAbove x.key (e ∷ drop (i + 1) es)) (λ x. AllAbove x.key (drop (i + 1) es)) (λ x h k d short. h (suc k) d (omega arith)) (take i es) (rising_across (take i es) (e ∷ drop (i + 1) es) whole))

module _ (nodes new : Nodes) (parent : Option Place) (low high : Option (List ℕ)) (p : Place) (key : List ℕ) (i : ℕ) where
  pub leaf_loses : IsSubtree nodes zero parent low high p
      → ((node : TreeNode) → nodes p ≡ Some node → (i < length node.entries) × ((entry_at node i).key ≡ key) × AllBelow key (take i node.entries) × AllAbove key (drop (i + 1) node.entries))
      → new p ≡ option_map (without_entries i 1) (nodes p) → ((r : Place) → r ≢ p → new r ≡ nodes r)
      → Loses nodes new zero parent low high p key []
  leaf_loses (node, is, here, of, none) known now others =
      let k = known node is in
      let es : List Entry = node.entries in
      let rest : List Entry = take i es ++ drop (i + 1) es in
      let now_is : new p ≡ Some (without_entries i 1 node) = now ∙ ap (λ (o : Option TreeNode). option_map (without_entries i 1) o) is in
      let size = length-append (take i es) (drop (i + 1) es) in
      let front = length-take-le i es (let w = k.0 in omega (arith, w)) in
      let back = length-drop (i + 1) es in
      let fewer : length rest + 1 ≡ length es = (let w = k.0 in omega (arith, size, front, back, w)) in
      record {
        trunk = (
          without_entries i 1 node,
          now_is,
          here,
          record {
            level_is = of.level_is;
            parent_is = of.parent_is;
            stands = stands_with node rest node.next_leaf of.stands.next_leaf (let few = of.stands.few in omega (arith, few, fewer)) (all_removed IsEntry es i of.stands.entries) of.stands;
            rising = rising_removed es i k.0 of.rising;
            from = all_removed (IsFrom low) es i of.from;
            up_to = all_removed (IsUpTo high) es i of.up_to;
          },
          none,
        );
        many = λ some. subst (λ (o : Option TreeNode). 7 ≤ length (entries_of o)) (sym now_is) (let many = of.many some in omega (arith, many, fewer));
        alters = record {
          held =
              ap (λ (o : Option TreeNode). entries_of o ++ []) now_is
              ∙ (append-nil rest
              ∙ (sym (without_here key (take i es) (drop (i + 1) es) (entry_at node i) k.1 k.2 k.3)
              ∙ (ap (λ (t : List Entry). without key t) (sym (split_at es i no_entry k.0))
              ∙ (ap (λ (t : List Entry). without key t) (sym (append-nil es)) ∙ ap (λ (o : Option TreeNode). without key (entries_of o ++ [])) (sym is)))));
          first_leaf = λ end. refl;
          chained = λ end c. (ap next_in now_is ∙ (sym (ap next_in is) ∙ c.0), tt);
          places = λ r. omega arith;
          rows = λ k. Sublist.refl (if_level k zero p ++ []);
        };
        idle = All-nil (λ q. new q ≡ Some (started 0));
        others = λ r away. others r (λ e. (let some : 1 ≤ times r (p ∷ []) = subst (λ (q : Place). 1 ≤ times r (q ∷ [])) e (times_here r []) in absurd (omega arith)));
      }

-- ---- two leaves side by side

abbrev pub same_index : Index → Index
same_index t = t

module _ (nodes new : Nodes) (parent : Option Place) (low high : Option (List ℕ)) (p q : Place) (s : List ℕ) (l r : TreeNode)
    (left_is : nodes p ≡ Some l) (right_is : nodes q ≡ Some r) (of_left : IsLooseNode zero parent low (Some s) l) (of_right : IsLooseNode zero parent (Some s) high r)
    (some_left : 1 ≤ length l.entries) (some_right : 1 ≤ length r.entries) where
  abbrev pub both : List Entry
  both = l.entries ++ r.entries

  across : (x y : Entry) → IsUpTo (Some s) x → IsFrom (Some s) y → IsBelow x.key y.key
  across x y up from = less_from x.key s y.key up from

  both_rise : AreRising (l.entries ++ r.entries)
  both_rise =
      rising_append l.entries r.entries of_left.rising of_right.rising
      (All-weaker (IsUpTo (Some s)) (λ x. AllAbove x.key r.entries) (λ x up. All-weaker (IsFrom (Some s)) (λ y. IsBelow x.key y.key) (λ y from. across x y up from) r.entries of_right.from) l.entries of_left.up_to)

  both_from : All (IsFrom low) (l.entries ++ r.entries)
  both_from =
      let e : Entry = get_or l.entries 0 no_entry in
      All-append (IsFrom low) l.entries r.entries of_left.from
      (All-weaker (IsFrom (Some s)) (IsFrom low)
      (λ y from. from_after low e y (All-get_or (IsFrom low) l.entries 0 no_entry some_left of_left.from) (across e y (All-get_or (IsUpTo (Some s)) l.entries 0 no_entry some_left of_left.up_to) from))
      r.entries of_right.from)

  both_up : All (IsUpTo high) (l.entries ++ r.entries)
  both_up =
      let e : Entry = get_or r.entries 0 no_entry in
      All-append (IsUpTo high) l.entries r.entries
      (All-weaker (IsUpTo (Some s)) (IsUpTo high)
      (λ x up. up_trans high x e (across x e up (All-get_or (IsFrom (Some s)) r.entries 0 no_entry some_right of_right.from)) (All-get_or (IsUpTo high) r.entries 0 no_entry some_right of_right.up_to))
      l.entries of_left.up_to)
      of_right.up_to

  both_entries : All IsEntry (l.entries ++ r.entries)
  both_entries = All-append IsEntry l.entries r.entries of_left.stands.entries of_right.stands.entries

  -- made even: the border between them is another one
  module _ (room_p : HasRoom p) (room_q : HasRoom q) (none_p : All (λ link. link ≡ no_place) l.children) (none_q : All (λ link. link ≡ no_place) r.children)
      (xs : List Entry) (d : Entry) (ys : List Entry) (whole : l.entries ++ r.entries ≡ xs ++ (d ∷ ys))
      (more_x : 8 ≤ length xs) (few_x : length xs ≤ 16) (more_y : 8 ≤ length (d ∷ ys)) (few_y : length (d ∷ ys) ≤ 16)
      (now_p : new p ≡ Some (refilled xs l.next_leaf l)) (now_q : new q ≡ Some (refilled (d ∷ ys) r.next_leaf r)) where
    pub leaves_even_row : Row new zero parent low p (branch (keyed d.key 0) q ∷ []) high
    leaves_even_row =
        let rising : AreRising (xs ++ (d ∷ ys)) = subst AreRising whole both_rise in
        let entries : All IsEntry (xs ++ (d ∷ ys)) = subst (All IsEntry) whole both_entries in
        let from : All (IsFrom low) (xs ++ (d ∷ ys)) = subst (All (IsFrom low)) whole both_from in
        let up_to : All (IsUpTo high) (xs ++ (d ∷ ys)) = subst (All (IsUpTo high)) whole both_up in
        let behind : AreRising (d ∷ ys) = rising_back xs (d ∷ ys) rising in (
          (
            refilled xs l.next_leaf l,
            now_p,
            room_p,
            record {
              level_is = of_left.level_is;
              parent_is = of_left.parent_is;
              stands = stands_with l xs l.next_leaf of_left.stands.next_leaf few_x (all_front IsEntry xs (d ∷ ys) entries) of_left.stands;
              rising = rising_front xs (d ∷ ys) rising;
              from = all_front (IsFrom low) xs (d ∷ ys) from;
              up_to = All-weaker (λ x. AllAbove x.key (d ∷ ys)) (IsUpTo (Some d.key)) (λ x h. All-head (λ y. IsBelow x.key y.key) d ys h) xs (rising_across xs (d ∷ ys) rising);
              many = λ some. more_x;
            },
            none_p,
          ),
          (
            refilled (d ∷ ys) r.next_leaf r,
            now_q,
            room_q,
            record {
              level_is = of_right.level_is;
              parent_is = of_right.parent_is;
              stands = stands_with r (d ∷ ys) r.next_leaf of_right.stands.next_leaf few_y (all_back IsEntry xs (d ∷ ys) entries) of_right.stands;
              rising = behind;
              from = All-cons (IsFrom (Some d.key)) d ys (not_itself d.key) (All-weaker (λ y. IsBelow d.key y.key) (IsFrom (Some d.key)) (λ y h. not_below d.key y.key h) ys behind.0);
              up_to = all_back (IsUpTo high) xs (d ∷ ys) up_to;
              many = λ some. more_y;
            },
            none_q,
          ),
        )

    pub leaves_even : (e : Entry) → Alters same_index nodes new zero p (branch e q ∷ []) (branch (keyed d.key 0) q ∷ []) []
    leaves_even e = record {
      held =
          ap (λ (o : Option TreeNode). entries_of o ++ (entries_of (new q) ++ [])) now_p
          ∙ (ap (λ (o : Option TreeNode). xs ++ (entries_of o ++ [])) now_q
          ∙ (ap (λ (t : List Entry). xs ++ t) (append-nil (d ∷ ys))
          ∙ (sym whole
          ∙ (ap (λ (t : List Entry). l.entries ++ t) (sym (append-nil r.entries))
          ∙ (ap (λ (o : Option TreeNode). l.entries ++ (entries_of o ++ [])) (sym right_is) ∙ ap (λ (o : Option TreeNode). entries_of o ++ (entries_of (nodes q) ++ [])) (sym left_is))))));
      first_leaf = λ end. refl;
      chained = λ end c. (ap next_in now_p ∙ (sym (ap next_in left_is) ∙ c.0), (ap next_in now_q ∙ (sym (ap next_in right_is) ∙ c.1.0), tt));
      places = λ t. omega arith;
      rows = λ k. Sublist.refl (if_level k zero p ++ (if_level k zero q ++ []));
    }

  -- made one
  module _ (room_p : HasRoom p) (none_p : All (λ link. link ≡ no_place) l.children) (more : 8 ≤ length (l.entries ++ r.entries)) (few : length (l.entries ++ r.entries) ≤ 16)
      (now_p : new p ≡ Some (refilled (l.entries ++ r.entries) r.next_leaf l)) where
    pub leaves_one_row : Row new zero parent low p [] high
    leaves_one_row = (
      refilled (l.entries ++ r.entries) r.next_leaf l,
      now_p,
      room_p,
      record {
        level_is = of_left.level_is;
        parent_is = of_left.parent_is;
        stands = stands_with l (l.entries ++ r.entries) r.next_leaf of_right.stands.next_leaf few both_entries of_left.stands;
        rising = both_rise;
        from = both_from;
        up_to = both_up;
        many = λ some. more;
      },
      none_p,
    )

    pub leaves_one : (e : Entry) → Alters same_index nodes new zero p (branch e q ∷ []) [] (q ∷ [])
    leaves_one e = record {
      held =
          ap (λ (o : Option TreeNode). entries_of o ++ []) now_p
          ∙ (append-nil (l.entries ++ r.entries)
          ∙ (ap (λ (t : List Entry). l.entries ++ t) (sym (append-nil r.entries))
          ∙ (ap (λ (o : Option TreeNode). l.entries ++ (entries_of o ++ [])) (sym right_is) ∙ ap (λ (o : Option TreeNode). entries_of o ++ (entries_of (nodes q) ++ [])) (sym left_is))));
      first_leaf = λ end. refl;
      chained = λ end c. (ap next_in now_p ∙ (sym (ap next_in right_is) ∙ c.1.0), tt);
      places = λ t. omega arith;
      rows = λ k. Sublist.append (Sublist.refl (if_level k zero p)) (nil-sublist (if_level k zero q ++ []));
    }
