-- An inner node of 16 entries with one branch more: its two halves, and the branch between them.
use Rattle.std.proofs.Common.{◌≡◌, ℕ, suc, ◌<◌, ◌≤◌, ◌^◌, List, ◌∷◌, ◌++◌, All, length, take, drop, map, get_or, replicate, Option, Some, refl, sym, ap, subst, ◌∙◌, arith, length-append}
use Rattle.std.specs.List.{insert}
use Rattle.std.proofs.lemmas.List.{drop_more, length-drop, length-map, length-take-le, take-append-drop, take-map, drop-map, take_all, take_at, drop_at}
use Rattle.std.proofs.lemmas.List.Edits.{length-insert}
use Rattle.std.proofs.lemmas.List.Elements.{All-append, All-cons, All-drop, All-replicate, All-take}
use Rattle.regions.specs.declared.place.Place.{Place}
use Rattle.tree_nodes.specs.Nodes.{Entry, no_entry, no_place}
use Rattle.index_tree.specs.Inserts.{Branch, entry_of}
use Rattle.regions.specs.Places.{link_to}
use Rattle.index_tree.specs.Links.{Nodes}
use Rattle.index_tree.specs.Splits.{lower_half, upper_half, wide_children}
use Rattle.index_tree.proofs.FrameRows.{Opened, links_of}
use Rattle.index_tree.proofs.InsertNode.{Half, entries_inserted, length-links, links_inserted}
use Rattle.index_tree.proofs.InsertWay.{got_entry}

module _ (nodes : Nodes) (level : ℕ) (parent : Option Place) (low high : Option (List ℕ)) (p : Place) (o : Opened nodes level parent low high p)
    (i : ℕ) (b : Branch) (within : i ≤ length o.branches) (sixteen : length o.branches ≡ 16) where
  abbrev wide : List Branch
  wide = insert o.branches i b

  pub seventeen : length wide ≡ 17
  seventeen = length-insert o.branches i b within ∙ (let s = sixteen in omega arith)

  abbrev us : List Branch
  us = take 8 wide

  abbrev m : Branch
  m = get_or wide 8 b

  abbrev vs : List Branch
  vs = drop 9 wide

  pub parts : wide ≡ us ++ m ∷ vs
  parts = sym (take-append-drop 8 wide) ∙ ap (λ (t : List Branch). us ++ t) (drop_more wide 8 b (let s = seventeen in omega arith))

  pub eight_us : length us ≡ 8
  eight_us = length-take-le 8 wide (let s = seventeen in omega arith)

  pub eight_vs : length vs ≡ 8
  eight_vs = length-drop 9 wide ∙ (let s = seventeen in omega arith)

  -- the node's children
  children : o.node.children ≡ links_of o.first o.branches
  children =
      let all = o.of.stands.children in
      let s = sixteen in
      let l = ap (λ (es : List Entry). length es) o.entries ∙ length-map o.branches entry_of in
      sym (take_all (suc (length o.node.entries)) o.node.children (omega arith)) ∙ o.links

  wide_links : wide_children i b o.node ≡ links_of o.first wide
  wide_links = ap (λ (ls : List ℕ). insert ls (suc i) (link_to (Some b.place))) children ∙ links_inserted o.first o.branches i b

  abbrev to_link : Branch → ℕ
  to_link c = link_to (Some c.place)

  lower_links : take 9 (wide_children i b o.node) ≡ links_of o.first us
  lower_links = ap (λ (ls : List ℕ). take 9 ls) wide_links ∙ ap (λ (ls : List ℕ). link_to (Some o.first) ∷ ls) (take-map to_link 8 wide)

  pub upper_links : drop 9 (wide_children i b o.node) ≡ links_of m.place vs
  upper_links =
      ap (λ (ls : List ℕ). drop 9 ls) wide_links
      ∙ (drop-map to_link 8 wide ∙ ap (λ (t : List Branch). map to_link t) (drop_more wide 8 b (let s = seventeen in omega arith)))

  wide_entries_are : insert o.node.entries i b.entry ≡ map entry_of wide
  wide_entries_are = ap (λ (es : List Entry). insert es i b.entry) o.entries ∙ entries_inserted o.branches i b

  -- nine links and no place behind them
  nine_links : (xs : List ℕ) (first : Place) (bs : List Branch) → xs ≡ links_of first bs → length bs ≡ 8 → length xs ≡ 9
  nine_links xs first bs is e = ap (λ (ls : List ℕ). length ls) is ∙ (length-links first bs ∙ ap suc e)

  half_of : (xs : List ℕ) (es : List Entry) (first : Place) (bs : List Branch) → xs ≡ links_of first bs → length bs ≡ 8 → All (λ l. l < 2 ^ 64) xs → es ≡ map entry_of bs
      → Half level (link_to parent) first bs (record o.node { entries = es; children = xs ++ replicate 8 no_place })
  half_of xs es first bs is eight small entries = record {
    level_is = o.of.level_is;
    small_level = o.of.stands.level;
    parent_is = o.of.parent_is;
    small_parent = o.of.stands.parent;
    entries = entries;
    seventeen = length-append xs (replicate 8 no_place) ∙ (let n9 = nine_links xs first bs is eight in omega arith);
    small = All-append (λ l. l < 2 ^ 64) xs (replicate 8 no_place) small (All-replicate (λ l. l < 2 ^ 64) 8 no_place (omega arith));
    links = take_at xs (replicate 8 no_place) (suc (length bs)) (let n9 = nine_links xs first bs is eight in omega arith) ∙ is;
    others = subst (λ (t : List ℕ). All (λ l. l ≡ no_place) t) (sym (drop_at xs (replicate 8 no_place) (suc (length bs)) (let n9 = nine_links xs first bs is eight in omega arith)))
        (All-replicate (λ l. l ≡ no_place) 8 no_place refl);
    next = o.inner.next;
  }

  pub middle_is : get_or (insert o.node.entries i b.entry) 8 no_entry ≡ m.entry
  middle_is = ap (λ (es : List Entry). get_or es 8 no_entry) wide_entries_are ∙ got_entry wide 8 b (let s = seventeen in omega arith)

  module _ (small : link_to (Some b.place) < 2 ^ 64) where
    wide_small : All (λ l. l < 2 ^ 64) (wide_children i b o.node)
    wide_small =
        All-append (λ l. l < 2 ^ 64) (take (suc i) o.node.children) (link_to (Some b.place) ∷ drop (suc i) o.node.children) (All-take (λ l. l < 2 ^ 64) (suc i) o.node.children o.of.stands.places)
        (All-cons (λ l. l < 2 ^ 64) (link_to (Some b.place)) (drop (suc i) o.node.children) small (All-drop (λ l. l < 2 ^ 64) (suc i) o.node.children o.of.stands.places))

    pub half_left : Half level (link_to parent) o.first us (lower_half i b o.node)
    half_left =
        half_of (take 9 (wide_children i b o.node)) (take 8 (insert o.node.entries i b.entry)) o.first us lower_links eight_us (All-take (λ l. l < 2 ^ 64) 9 (wide_children i b o.node) wide_small)
        (ap (λ (es : List Entry). take 8 es) wide_entries_are ∙ take-map entry_of 8 wide)

    pub half_right : Half level (link_to parent) m.place vs (upper_half i b o.node)
    half_right =
        half_of (drop 9 (wide_children i b o.node)) (drop 9 (insert o.node.entries i b.entry)) m.place vs upper_links eight_vs (All-drop (λ l. l < 2 ^ 64) 9 (wide_children i b o.node) wide_small)
        (ap (λ (es : List Entry). drop 9 es) wide_entries_are ∙ drop-map entry_of 9 wide)
