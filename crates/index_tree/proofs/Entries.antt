-- What lies below a place are entries.
use Rattle.std.proofs.Common.{◌≡◌, ℕ, zero, suc, List, All, length, take, Option, Some, None, refl, sym, subst}
use Rattle.std.specs.List.{flat_map}
use Rattle.std.proofs.lemmas.List.Elements.{All-nil}
use Rattle.regions.specs.declared.place.Place.{Place}
use Rattle.tree_nodes.specs.Nodes.{Entry, IsEntry, TreeNode}
use Rattle.regions.specs.Places.{led_to}
use Rattle.index_tree.specs.Links.{Nodes}
use Rattle.index_tree.specs.Trees.{IsSubtree, IsTree, TreeState, children_of, entries_of, held_below, index_of}
use Rattle.index_tree.proofs.Moved.{room_of}
use Rattle.place_lemmas.proofs.Places.{leads_on}
use Rattle.index_tree.proofs.SearchLists.{all_gathered}
use Rattle.index_tree.proofs.Whole.{of_children}

module _ (nodes : Nodes) where
  entries_below : (level : ℕ) (parent : Option Place) (low high : Option (List ℕ)) (p : Place) → IsSubtree nodes level parent low high p → All IsEntry (held_below nodes level (Some p))
  entries_below zero parent low high p (node, is, here, of, none) = subst (λ (o : Option TreeNode). All IsEntry (entries_of o)) (sym is) of.stands.entries
  entries_below (suc level) parent low high p (node, is, here, of, inner, children) =
      let gather : ℕ → List Entry = λ link. held_below nodes level (led_to link) in
      subst (λ (o : Option TreeNode). All IsEntry (flat_map gather (children_of o))) (sym is)
      (all_gathered IsEntry gather (take (suc (length node.entries)) node.children)
      (of_children nodes level p low high node parent (λ link. All IsEntry (gather link)) of children
      (λ q lower upper sub. subst (λ (o : Option Place). All IsEntry (held_below nodes level o)) (sym (leads_on (Some q) (room_of nodes level (Some p) lower upper q sub)))
      (entries_below level (Some p) lower upper q sub))))

  pub entries_stand : (t : TreeState) → IsTree nodes t → All IsEntry (index_of nodes t)
  entries_stand t tree = go t.root refl
    where
      go : (o : Option Place) → t.root ≡ o → All IsEntry (held_below nodes t.level o)
      go None e = All-nil IsEntry
      go (Some p) e = entries_below t.level None None None p (tree.rooted p e)
