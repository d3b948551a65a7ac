-- A new root above two nodes.
use Rattle.std.proofs.Common.{◌≡◌, ◌≢◌, ℕ, zero, suc, ◌+◌, ◌<◌, ◌≤◌, ◌^◌, List, [], ◌∷◌, ◌++◌, All, length, replicate, Option, Some, None, option_map, refl, sym, ap, subst, ◌∙◌, arith}
use Rattle.std.specs.List.{flat_map}
use Rattle.std.proofs.lemmas.List.{append-nil}
use Rattle.std.proofs.lemmas.List.Elements.{All-cons, All-head, All-nil, All-replicate, All-tail}
use Rattle.regions.specs.declared.place.Place.{Place}
use Rattle.tree_nodes.specs.Nodes.{Entry, no_place}
use Rattle.index_tree.specs.Indexes.{with_number}
use Rattle.index_tree.specs.Inserts.{AreChained, Branch, Grows, IsSeparator, Plants, Row, of_row, times}
use Rattle.regions.specs.Places.{HasRoom, led_to, link_to}
use Rattle.index_tree.specs.Links.{Nodes, with_parent}
use Rattle.index_tree.specs.Limits.{fewest_entries}
use Rattle.index_tree.specs.Splits.{top_node}
use Rattle.index_tree.specs.Trees.{IsSubtree, children_of, entries_of, held_below, leaves_below, next_at, next_in, nodes_below}
use Rattle.index_tree.proofs.Frame.{Agrees, adopted_held, adopted_leaves, adopted_nodes, adopted_subtree, all_back, all_front, below_children, small_link}
use Rattle.index_tree.proofs.FrameRows.{Opened, close_node, gathered, row_map, row_room, row_same}
use Rattle.index_tree.proofs.InsertNode.{below_if, chained_same, next_adopted, opened_of, roots_and_below}
use Rattle.index_tree.proofs.InsertLeaf.{far_by_times}
use Rattle.index_tree.proofs.InsertRows.{all_by_times, row_leaves_among, times_append, times_here}

cons_nil : (b : Branch) (bs : List Branch) → b ∷ bs ≡ [] → ⊥
cons_nil b bs e = let l : suc (length bs) ≡ 0 = ap (λ (t : List Branch). length t) e in omega arith

module _ (mid new : Nodes) (level : ℕ) (root top : Place) (b : Branch) (row : Row mid level None None root (b ∷ []) None)
    (many : All (λ r. fewest_entries ≤ length (entries_of (mid r))) (root ∷ b.place ∷ [])) (sep : IsSeparator b) (room_top : HasRoom top) (small_level : suc level < 2 ^ 16)
    (now : new top ≡ Some (top_node (suc level) root b))
    (adopts : (r : Place) → 1 ≤ times r (root ∷ b.place ∷ []) → new r ≡ option_map (with_parent (link_to (Some top))) (mid r))
    (rest : (r : Place) → r ≢ top → times r (root ∷ b.place ∷ []) ≡ 0 → new r ≡ mid r)
    (once : (r : Place) → times r (of_row (nodes_below mid level) root (b ∷ [])) ≤ 1) (free : times top (of_row (nodes_below mid level) root (b ∷ [])) ≡ 0) where
  not_top : (r : Place) → 1 ≤ times r (of_row (nodes_below mid level) root (b ∷ [])) → r ≢ top
  not_top r some e = let there : 1 ≤ times top (of_row (nodes_below mid level) root (b ∷ [])) = subst (λ (x : Place). 1 ≤ times x (of_row (nodes_below mid level) root (b ∷ []))) e some in absurd (omega arith)

  agree_below : All (Agrees mid new) (of_row (below_if mid level) root (b ∷ []))
  agree_below = all_by_times (Agrees mid new) (of_row (below_if mid level) root (b ∷ []))
      (λ r some. (let a = once r in let c = roots_and_below mid level r root (b ∷ []) in rest r (not_top r (omega arith)) (omega arith)))

  abbrev Adopted : Place → Type 0
  Adopted r = (new r ≡ option_map (with_parent (link_to (Some top))) (mid r)) × All (Agrees mid new) (below_children mid level r) × (fewest_entries ≤ length (entries_of (mid r)))

  root_adopted : Adopted root
  root_adopted = (
    adopts root (let c = times_here root (b.place ∷ []) in omega arith),
    all_front (Agrees mid new) (below_children mid level root) (below_children mid level b.place ++ []) agree_below,
    All-head (λ r. fewest_entries ≤ length (entries_of (mid r))) root (b.place ∷ []) many,
  )

  other_adopted : Adopted b.place
  other_adopted = (
    adopts b.place (let c = times_here b.place [] in omega arith),
    all_front (Agrees mid new) (below_children mid level b.place) [] (all_back (Agrees mid new) (below_children mid level root) (below_children mid level b.place ++ []) agree_below),
    All-head (λ r. fewest_entries ≤ length (entries_of (mid r))) b.place [] (All-tail (λ r. fewest_entries ≤ length (entries_of (mid r))) root (b.place ∷ []) many),
  )

  all_adopted : All (λ (c : Branch). Adopted c.place) (b ∷ [])
  all_adopted = All-cons (λ (c : Branch). Adopted c.place) b [] other_adopted (All-nil (λ (c : Branch). Adopted c.place))

  new_row : Row new level (Some top) None root (b ∷ []) None
  new_row = row_map mid new level None (Some top) Adopted (λ l h r t a. adopted_subtree mid new level None (Some top) l h r room_top (λ some. a.2) t a.0 a.1) root (b ∷ []) None None row root_adopted all_adopted

  small_links : All (λ l. l < 2 ^ 64) (link_to (Some root) ∷ link_to (Some b.place) ∷ replicate 15 no_place)
  small_links =
      All-cons (λ l. l < 2 ^ 64) (link_to (Some root)) (link_to (Some b.place) ∷ replicate 15 no_place) (small_link mid new (Some root) (row_room mid level None root (b ∷ []) None None row))
      (All-cons (λ l. l < 2 ^ 64) (link_to (Some b.place)) (replicate 15 no_place) (small_link mid new (Some b.place) (row_room mid level None b.place [] (Some b.entry.key) None row.1))
      (All-replicate (λ l. l < 2 ^ 64) 15 no_place (omega arith)))

  abbrev opened : Opened new level None None None top
  opened =
      opened_of new level None None None top (top_node (suc level) root b) root (b ∷ []) now room_top refl refl (omega arith) small_level refl (omega arith) (omega arith) (λ some. absurd (some refl))
      refl small_links refl (All-replicate (λ l. l ≡ no_place) 15 no_place refl) refl (All-cons IsSeparator b [] sep (All-nil IsSeparator)) new_row

  pub raised : IsSubtree new (suc level) None None None top
  raised = close_node new level None None None top opened

  gathers : {A : Type 0} (f h : Option Place → List A) → ((l u : Option (List ℕ)) (r : Place) → IsSubtree mid level None l u r → Adopted r → h (Some r) ≡ f (Some r))
      → flat_map (λ l. h (led_to l)) (children_of (new top)) ≡ of_row f root (b ∷ [])
  gathers {A} f h kept = gathered h new level None None None top opened ∙ row_same f h mid level None Adopted kept root (b ∷ []) None None row root_adopted all_adopted

  pub raised_held : held_below new (suc level) (Some top) ≡ of_row (held_below mid level) root (b ∷ [])
  raised_held = gathers (held_below mid level) (held_below new level) (λ l u r t a. adopted_held mid new level None l u r (link_to (Some top)) t a.0 a.1)

  pub raised_leaves : leaves_below new (suc level) (Some top) ≡ of_row (leaves_below mid level) root (b ∷ [])
  raised_leaves = gathers (leaves_below mid level) (leaves_below new level) (λ l u r t a. adopted_leaves mid new level None l u r (link_to (Some top)) t a.0 a.1)

  pub raised_nodes : nodes_below new (suc level) (Some top) ≡ top ∷ of_row (nodes_below mid level) root (b ∷ [])
  raised_nodes = ap (λ (t : List Place). top ∷ t) (gathers (nodes_below mid level) (nodes_below new level) (λ l u r t a. adopted_nodes mid new level None l u r (link_to (Some top)) t a.0 a.1))

  abbrev SameNext : Place → Type 0
  SameNext r = next_at new r ≡ next_at mid r

  next_same : All SameNext (of_row (nodes_below mid level) root (b ∷ []))
  next_same = all_by_times SameNext (of_row (nodes_below mid level) root (b ∷ [])) (λ r some. go r some (times r (root ∷ b.place ∷ [])) refl)
    where
      go : (r : Place) → 1 ≤ times r (of_row (nodes_below mid level) root (b ∷ [])) → (n : ℕ) → times r (root ∷ b.place ∷ []) ≡ n → SameNext r
      go r some zero is = ap next_in (rest r (not_top r some) is)
      go r some (suc n) is = ap next_in (adopts r (omega arith)) ∙ next_adopted (mid r) (link_to (Some top))

  pub raised_chained : (end : ℕ) → AreChained mid (of_row (leaves_below mid level) root (b ∷ [])) end → AreChained new (leaves_below new (suc level) (Some top)) end
  raised_chained end c =
      subst (λ (t : List Place). AreChained new t end) (sym raised_leaves)
      (chained_same mid new (of_row (leaves_below mid level) root (b ∷ [])) end (row_leaves_among mid SameNext level None root (b ∷ []) None None row next_same) c)

-- ---- what an insertion below the root makes of the tree

-- the root stayed one
pub planted_same : (nodes new : Nodes) (level : ℕ) (root : Place) (key : List ℕ) (number : ℕ) (used : List Place) → Grows nodes new level None None None root [] key number used
    → Plants nodes new level (Some root) level root key number used
planted_same nodes new level root key number used g = record {
  rooted = g.spread.row;
  held = sym (append-nil (held_below new level (Some root))) ∙ (g.spread.held ∙ ap (λ (t : List Entry). with_number key number t) (append-nil (held_below nodes level (Some root))));
  chained = λ c.
      subst (λ (t : List Place). AreChained new t no_place) (append-nil (leaves_below new level (Some root)))
      (g.spread.chained no_place (subst (λ (t : List Place). AreChained nodes t no_place) (sym (append-nil (leaves_below nodes level (Some root)))) c));
  places = λ r.
      (let a = g.spread.places r in
      let b = times_append r (nodes_below new level (Some root)) [] in
      let c = times_append r (nodes_below nodes level (Some root)) [] in
      omega arith);
  others = g.others;
}

-- and the root became two
pub planted_higher : (nodes mid new : Nodes) (level : ℕ) (root top : Place) (b : Branch) (key : List ℕ) (number : ℕ) (used : List Place) (g : Grows nodes mid level None None None root (b ∷ []) key number used)
    → HasRoom top → suc level < 2 ^ 16
    → new top ≡ Some (top_node (suc level) root b) → ((r : Place) → 1 ≤ times r (root ∷ b.place ∷ []) → new r ≡ option_map (with_parent (link_to (Some top))) (mid r))
    → ((r : Place) → r ≢ top → times r (root ∷ b.place ∷ []) ≡ 0 → new r ≡ mid r) → ((r : Place) → times r (nodes_below nodes level (Some root) ++ (top ∷ used)) ≤ 1)
    → Plants nodes new level (Some root) (suc level) top key number (top ∷ used)
planted_higher nodes mid new level root top b key number used g room_top small now adopts rest once =
    let s = g.spread in
    let many : All (λ r. fewest_entries ≤ length (entries_of (mid r))) (root ∷ b.place ∷ []) = g.many (λ e. cons_nil b [] e) in
    let sep : IsSeparator b = All-head IsSeparator b [] g.separators in
    let mine : (r : Place) → times r (of_row (nodes_below mid level) root (b ∷ [])) + times r (top ∷ []) ≤ 1 = λ r.
    (let a = s.places r in
    let c = times_append r (nodes_below nodes level (Some root)) [] in
    let d = times_append r (nodes_below nodes level (Some root)) (top ∷ used) in
    let e = once r in
    omega arith) in
    let each : (r : Place) → times r (of_row (nodes_below mid level) root (b ∷ [])) ≤ 1 = λ r. (let m = mine r in omega arith) in
    let free : times top (of_row (nodes_below mid level) root (b ∷ [])) ≡ 0 = (let m = mine top in let h = times_here top [] in omega arith) in
    record {
      rooted = raised mid new level root top b s.row many sep room_top small now adopts rest each free;
      held =
          raised_held mid new level root top b s.row many sep room_top small now adopts rest each free
          ∙ (s.held ∙ ap (λ (t : List Entry). with_number key number t) (append-nil (held_below nodes level (Some root))));
      chained = λ c.
          raised_chained mid new level root top b s.row many sep room_top small now adopts rest each free no_place
          (s.chained no_place (subst (λ (t : List Place). AreChained nodes t no_place) (sym (append-nil (leaves_below nodes level (Some root)))) c));
      places = λ r.
          (let a = s.places r in
          let c = times_append r (nodes_below nodes level (Some root)) [] in
          let d : times r (nodes_below new (suc level) (Some top)) ≡ times r (top ∷ of_row (nodes_below mid level) root (b ∷ [])) =
          ap (λ (t : List Place). times r t) (raised_nodes mid new level root top b s.row many sep room_top small now adopts rest each free) in
          omega arith);
      others = λ r none.
          (let d = times_append r (nodes_below nodes level (Some root)) (top ∷ used) in
          let e = times_append r (nodes_below nodes level (Some root)) used in
          let f = roots_and_below mid level r root (b ∷ []) in
          let a = s.places r in
          let c = times_append r (nodes_below nodes level (Some root)) [] in
          rest r (far_by_times r top used (omega arith)) (omega arith) ∙ g.others r (omega arith));
    }
