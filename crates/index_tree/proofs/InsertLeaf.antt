-- A key put into a leaf, and a leaf split.
use Rattle.std.proofs.Common.{◌≡◌, ◌≢◌, ℕ, zero, suc, ◌<◌, ◌≤◌, ◌^◌, option_map, refl, sym, ap, subst, ◌∙◌, arith, length-append, get_or, set, ◌+◌}
use Rattle.std.specs.Prelude.{List, [], ◌∷◌, ◌++◌, All, length, take, drop, Option, Some}
use Rattle.std.specs.List.{insert}
use Rattle.std.proofs.lemmas.List.{append-nil, drop_more, length-drop, length-set, length-take-le, set_split, take-append-drop}
use Rattle.std.proofs.lemmas.List.Elements.{All-append, All-cons, All-drop, All-get_or, All-head, All-nil, All-set, All-take, All-weaker}
use Rattle.regions.specs.declared.place.Place.{Place}
use Rattle.tree_nodes.specs.Nodes.{CanStand, Entry, IsEntry, TreeNode, no_entry}
use Rattle.tree_nodes.specs.Order.{AreRising, IsBelow}
use Rattle.index_tree.specs.Indexes.{with_number}
use Rattle.regions.specs.Places.{HasRoom, link_to}
use Rattle.index_tree.specs.Links.{Nodes}
use Rattle.index_tree.specs.Limits.{fewest_entries}
use Rattle.index_tree.specs.Trees.{IsFrom, IsSubtree, IsUpTo, entries_of, next_in}
use Rattle.index_tree.specs.Writes.{with_entry, with_number_at}
use Rattle.index_tree.specs.Inserts.{Grows, IsSeparator, times}
use Rattle.index_tree.specs.Ways.{AllAbove, AllBelow}
use Rattle.index_tree.proofs.Frame.{all_back, all_front, small_link}
use Rattle.index_tree.proofs.FrameRows.{branch}
use Rattle.index_tree.proofs.InsertOrder.{rising_across, rising_back, rising_between, rising_front, with_number_between, with_number_here}
use Rattle.index_tree.proofs.InsertRows.{keyed, times_here, times_past}
use Rattle.index_tree.proofs.KeyOrder.{not_below, not_itself}

-- a node with other entries, and a next leaf
abbrev pub refilled : List Entry → ℕ → TreeNode → TreeNode
refilled es next node = record node { entries = es; next_leaf = next }

pub stands_with : (node : TreeNode) (es : List Entry) (next : ℕ) → next < 2 ^ 64 → length es ≤ 16 → All IsEntry es → CanStand node → CanStand (refilled es next node)
stands_with node es next fits few all stands = record {
  parent = stands.parent;
  level = stands.level;
  next_leaf = fits;
  few = few;
  entries = all;
  children = stands.children;
  places = stands.places;
}

pub far_by_times : (r p : Place) (ps : List Place) → times r (p ∷ ps) ≡ 0 → r ≢ p
far_by_times r p ps none e = let some : 1 ≤ times r (p ∷ ps) = subst (λ (q : Place). 1 ≤ times r (q ∷ ps)) e (times_here r ps) in absurd (omega arith)

module _ (nodes new : Nodes) (parent : Option Place) (low high : Option (List ℕ)) (p : Place) (key : List ℕ) (number : ℕ) (i : ℕ)
    (some_key : 1 ≤ length key) (short_key : length key ≤ 256) (small : number < 2 ^ 32) (least : IsFrom low (keyed key number)) (up : IsUpTo high (keyed key number)) where
  e : Entry
  e = keyed key number

  abbrev inserted : List Entry → List Entry
  inserted es = insert es i (keyed key number)

  fits_entry : IsEntry (keyed key number)
  fits_entry = record { some_key = some_key; short_key = short_key; number = small }

  -- what holds of the entries and of the new one holds of all
  all_inserted : (P : Entry → Type 0) (es : List Entry) → P (keyed key number) → All P es → All P (inserted es)
  all_inserted P es here all = All-append P (take i es) (keyed key number ∷ drop i es) (All-take P i es all) (All-cons P (keyed key number) (drop i es) here (All-drop P i es all))

  rising_inserted : (es : List Entry) → AreRising es → AllBelow key (take i es) → AllAbove key (drop i es) → AreRising (inserted es)
  rising_inserted es r all_below all_above =
      rising_between (take i es) (drop i es) (keyed key number) (subst AreRising (sym (take-append-drop i es)) r) all_below all_above

  held_inserted : (es : List Entry) → AllBelow key (take i es) → AllAbove key (drop i es) → inserted es ++ [] ≡ with_number key number (es ++ [])
  held_inserted es all_below all_above =
      append-nil (inserted es)
      ∙ (sym (with_number_between key number (take i es) (drop i es) all_below all_above)
      ∙ (ap (λ (t : List Entry). with_number key number t) (take-append-drop i es) ∙ ap (λ (t : List Entry). with_number key number t) (sym (append-nil es))))

  length_inserted : (es : List Entry) → i ≤ length es → length (inserted es) ≡ suc (length es)
  length_inserted es within =
      let a = length-append (take i es) (keyed key number ∷ drop i es) in
      let b = length-take-le i es within in
      let c = length-drop i es in
      omega arith

  -- into a leaf with room
  pub leaf_grown : IsSubtree nodes zero parent low high p
      → ((node : TreeNode) → nodes p ≡ Some node → (i ≤ length node.entries) × (length node.entries < 16) × AllBelow key (take i node.entries) × AllAbove key (drop i node.entries))
      → new p ≡ option_map (with_entry i (keyed key number)) (nodes p) → ((r : Place) → r ≢ p → new r ≡ nodes r)
      → Grows nodes new zero parent low high p [] key number []
  leaf_grown (node, is, here, of, none) known now others =
      let k = known node is in
      let es : List Entry = node.entries in
      let now_is : new p ≡ Some (with_entry i (keyed key number) node) = now ∙ ap (λ (o : Option TreeNode). option_map (with_entry i (keyed key number)) o) is in
      let longer = length_inserted es k.0 in
      record {
        spread = record {
          row = (
            with_entry i (keyed key number) node,
            now_is,
            here,
            record {
              level_is = of.level_is;
              parent_is = of.parent_is;
              stands = stands_with node (inserted es) node.next_leaf of.stands.next_leaf (let few = k.1 in omega arith) (all_inserted IsEntry es fits_entry of.stands.entries) of.stands;
              rising = rising_inserted es of.rising k.2 k.3;
              from = all_inserted (IsFrom low) es least of.from;
              up_to = all_inserted (IsUpTo high) es up of.up_to;
              many = λ some. (let many = of.many some in omega arith);
            },
            none,
          );
          held =
              ap (λ (o : Option TreeNode). entries_of o ++ []) now_is
              ∙ (held_inserted es k.2 k.3 ∙ ap (λ (o : Option TreeNode). with_number key number (entries_of o ++ [])) (sym is));
          first_leaf = λ end. refl;
          chained = λ end c. (ap next_in now_is ∙ (sym (ap next_in is) ∙ c.0), tt);
          places = λ r. omega arith;
        };
        separators = All-nil IsSeparator;
        many = λ some. absurd (some refl);
        others = λ r none. others r (far_by_times r p [] none);
      }

  -- a leaf in two parts, the new one behind it
  pub leaf_split : (q : Place) (xs : List Entry) (d : Entry) (ys : List Entry) → HasRoom q → q ≢ p → IsSubtree nodes zero parent low high p
      → ((node : TreeNode) → nodes p ≡ Some node → (inserted node.entries ≡ xs ++ d ∷ ys) × AllBelow key (take i node.entries) × AllAbove key (drop i node.entries)
      × (new p ≡ Some (refilled xs (link_to (Some q)) node)) × (new q ≡ Some (refilled (d ∷ ys) node.next_leaf node)))
      → 8 ≤ length xs → length xs ≤ 16 → 8 ≤ length (d ∷ ys) → length (d ∷ ys) ≤ 16 → ((r : Place) → r ≢ p → r ≢ q → new r ≡ nodes r)
      → Grows nodes new zero parent low high p (branch (keyed d.key 0) q ∷ []) key number (q ∷ [])
  leaf_split q xs d ys room_q far (node, is, here, of, none) known more_x few_x more_y few_y others =
      let k = known node is in
      let es : List Entry = node.entries in
      let whole = k.0 in
      let rising : AreRising (xs ++ d ∷ ys) = subst AreRising whole (rising_inserted es of.rising k.1 k.2) in
      let all_of : (P : Entry → Type 0) → P (keyed key number) → All P es → All P (xs ++ d ∷ ys) = λ P h all. subst (λ (t : List Entry). All P t) whole (all_inserted P es h all) in
      let entries : All IsEntry (xs ++ d ∷ ys) = all_of IsEntry fits_entry of.stands.entries in
      let from : All (IsFrom low) (xs ++ d ∷ ys) = all_of (IsFrom low) least of.from in
      let up_to : All (IsUpTo high) (xs ++ d ∷ ys) = all_of (IsUpTo high) up of.up_to in
      let behind : AreRising (d ∷ ys) = rising_back xs (d ∷ ys) rising in
      let d_fits : IsEntry d = All-head IsEntry d ys (all_back IsEntry xs (d ∷ ys) entries) in
      let now_p : new p ≡ Some (refilled xs (link_to (Some q)) node) = k.3 in
      let now_q : new q ≡ Some (refilled (d ∷ ys) node.next_leaf node) = k.4 in
      record {
        spread = record {
          row = (
            (
              refilled xs (link_to (Some q)) node,
              now_p,
              here,
              record {
                level_is = of.level_is;
                parent_is = of.parent_is;
                stands = stands_with node xs (link_to (Some q)) (small_link nodes new (Some q) room_q) few_x (all_front IsEntry xs (d ∷ ys) entries) of.stands;
                rising = rising_front xs (d ∷ ys) rising;
                from = all_front (IsFrom low) xs (d ∷ ys) from;
                up_to = All-weaker (λ x. AllAbove x.key (d ∷ ys)) (IsUpTo (Some d.key)) (λ x h. All-head (λ y. IsBelow x.key y.key) d ys h) xs (rising_across xs (d ∷ ys) rising);
                many = λ some. more_x;
              },
              none,
            ),
            (
              refilled (d ∷ ys) node.next_leaf node,
              now_q,
              room_q,
              record {
                level_is = of.level_is;
                parent_is = of.parent_is;
                stands = stands_with node (d ∷ ys) node.next_leaf of.stands.next_leaf few_y (all_back IsEntry xs (d ∷ ys) entries) of.stands;
                rising = behind;
                from = All-cons (IsFrom (Some d.key)) d ys (not_itself d.key) (All-weaker (λ y. IsBelow d.key y.key) (IsFrom (Some d.key)) (λ y h. not_below d.key y.key h) ys behind.0);
                up_to = all_back (IsUpTo high) xs (d ∷ ys) up_to;
                many = λ some. more_y;
              },
              none,
            ),
          );
          held =
              ap (λ (o : Option TreeNode). entries_of o ++ (entries_of (new q) ++ [])) now_p
              ∙ (ap (λ (o : Option TreeNode). xs ++ (entries_of o ++ [])) now_q
              ∙ (ap (λ (t : List Entry). xs ++ t) (append-nil (d ∷ ys))
              ∙ (sym whole
              ∙ (sym (append-nil (inserted es))
              ∙ (held_inserted es k.1 k.2 ∙ ap (λ (o : Option TreeNode). with_number key number (entries_of o ++ [])) (sym is))))));
          first_leaf = λ end. refl;
          chained = λ end c. (ap next_in now_p, (ap next_in now_q ∙ (sym (ap next_in is) ∙ c.0), tt));
          places = λ r. omega arith;
        };
        separators = All-cons IsSeparator (branch (keyed d.key 0) q) [] (record { some_key = d_fits.some_key; short_key = d_fits.short_key; number = omega arith }, refl) (All-nil IsSeparator);
        many = λ some.
            All-cons (λ r. fewest_entries ≤ length (entries_of (new r))) p (q ∷ [])
            (subst (λ (o : Option TreeNode). fewest_entries ≤ length (entries_of o)) (sym now_p) more_x)
            (All-cons (λ r. fewest_entries ≤ length (entries_of (new r))) q []
            (subst (λ (o : Option TreeNode). fewest_entries ≤ length (entries_of o)) (sym now_q) more_y) (All-nil (λ r. fewest_entries ≤ length (entries_of (new r)))));
        others = λ r none.
            (let far_p : r ≢ p = far_by_times r p (q ∷ []) none in
            others r far_p (far_by_times r q [] (let same = times_past r p (q ∷ []) far_p in omega arith)));
      }

-- ---- the number of a key that the leaf has

rising_set : (es : List Entry) (i : ℕ) (e : Entry) → i < length es → (get_or es i no_entry).key ≡ e.key → AreRising es → AreRising (set es i e)
rising_set [] i e within same r = absurd (omega arith)
rising_set (x ∷ es) zero e within same r = (All-weaker (λ later. IsBelow x.key later.key) (λ later. IsBelow e.key later.key) (λ y h. subst (λ (k : List ℕ). IsBelow k y.key) same h) es r.0, r.1)
rising_set (x ∷ es) (suc i) e within same r =
    let short : i < length es = omega arith in
    (All-set (λ later. IsBelow x.key later.key) es i e (subst (λ (k : List ℕ). IsBelow x.key k) same (All-get_or (λ later. IsBelow x.key later.key) es i no_entry short r.0)) r.0, rising_set es i e short same r.1)

pub leaf_replaced : (nodes new : Nodes) (parent : Option Place) (low high : Option (List ℕ)) (p : Place) (key : List ℕ) (number : ℕ) (i : ℕ)
    → 1 ≤ length key → length key ≤ 256 → number < 2 ^ 32 → IsFrom low (keyed key number) → IsUpTo high (keyed key number) → IsSubtree nodes zero parent low high p
    → ((node : TreeNode) → nodes p ≡ Some node → (i < length node.entries) × ((get_or node.entries i no_entry).key ≡ key) × AllBelow key (take i node.entries) × AllAbove key (drop (suc i) node.entries))
    → new p ≡ option_map (with_number_at i number) (nodes p) → ((r : Place) → r ≢ p → new r ≡ nodes r)
    → Grows nodes new zero parent low high p [] key number []
leaf_replaced nodes new parent low high p key number i some_key short_key small least up (node, is, here, of, none) known now others =
    let k = known node is in
    let es : List Entry = node.entries in
    let within : i < length es = k.0 in
    let e : Entry = keyed key number in
    let entry : record (get_or es i no_entry) { number = number } ≡ e = ap (λ (t : List ℕ). keyed t number) k.1 in
    let after : TreeNode = record node { entries = set es i e } in
    let now_is : new p ≡ Some after =
    now ∙ (ap (λ (o : Option TreeNode). option_map (with_number_at i number) o) is ∙ ap (λ (t : Entry). Some (record node { entries = set es i t })) entry) in
    let longer = length-set es i e in
    let old : get_or es i no_entry ≡ keyed key (get_or es i no_entry).number = ap (λ (t : List ℕ). keyed t (get_or es i no_entry).number) k.1 in
    let parts : es ≡ take i es ++ keyed key (get_or es i no_entry).number ∷ drop (suc i) es =
    sym (take-append-drop i es)
    ∙ ap (λ (t : List Entry). take i es ++ t) (drop_more es i no_entry within ∙ (ap (λ n. get_or es i no_entry ∷ drop n es) {x = i + 1} {y = suc i} (omega arith) ∙ ap (λ (t : Entry). t ∷ drop (suc i) es) old)) in
    let held : set es i e ++ [] ≡ with_number key number (es ++ []) =
    append-nil (set es i e)
    ∙ (set_split es i e within
    ∙ (sym (with_number_here key number (get_or es i no_entry).number (take i es) (drop (suc i) es) k.2 k.3)
    ∙ (sym (ap (λ (t : List Entry). with_number key number t) parts) ∙ ap (λ (t : List Entry). with_number key number t) (sym (append-nil es))))) in
    record {
      spread = record {
        row = (
          after,
          now_is,
          here,
          record {
            level_is = of.level_is;
            parent_is = of.parent_is;
            stands = record {
              parent = of.stands.parent;
              level = of.stands.level;
              next_leaf = of.stands.next_leaf;
              few = (let few = of.stands.few in omega arith);
              entries = All-set IsEntry es i e (record { some_key = some_key; short_key = short_key; number = small }) of.stands.entries;
              children = of.stands.children;
              places = of.stands.places;
            };
            rising = rising_set es i e within k.1 of.rising;
            from = All-set (IsFrom low) es i e least of.from;
            up_to = All-set (IsUpTo high) es i e up of.up_to;
            many = λ some. (let many = of.many some in omega arith);
          },
          none,
        );
        held = ap (λ (o : Option TreeNode). entries_of o ++ []) now_is ∙ (held ∙ ap (λ (o : Option TreeNode). with_number key number (entries_of o ++ [])) (sym is));
        first_leaf = λ end. refl;
        chained = λ end c. (ap next_in now_is ∙ (sym (ap next_in is) ∙ c.0), tt);
        places = λ r. omega arith;
      };
      separators = All-nil IsSeparator;
      many = λ some. absurd (some refl);
      others = λ r nothing. others r (far_by_times r p [] nothing);
    }
