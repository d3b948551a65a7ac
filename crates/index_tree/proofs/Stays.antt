-- What stands where it stood once a key was taken out.
use mathlib.Core.List.Sublist
use Rattle.std.proofs.Common.{◌≡◌, ℕ, List, Option, Some, sym, ap, subst, ◌∙◌}
use Rattle.std.specs.Prelude.{IsSome}
use Rattle.regions.specs.Segments.{RegionState}
use Rattle.regions.specs.Contents.{Item, live_at}
use Rattle.regions.specs.Stores.{SameBut}
use Rattle.regions.specs.declared.place.Place.{Place}
use Rattle.tree_nodes.specs.Nodes.{TreeNode}
use Rattle.index_tree.specs.Prunes.{Prunes}
use Rattle.index_tree.specs.Store.{IndexState, Stay, nodes_of, places_at}
use Rattle.index_tree.specs.Trees.{row_below}
use Rattle.index_tree.specs.Writes.{blank}
use Rattle.index_tree.specs.inside.Rosters.{IsRosterOf, IsSameTree, Remain, RosterState, released}
use Rattle.index_tree.proofs.RemoveCalls.{still_some}
use Rattle.index_tree.proofs.Rows.{left_between}
use Rattle.index_tree.proofs.SearchNode.{is_live}
use Rattle.index_tree.proofs.Within.{row_within}
use Rattle.index_tree.proofs.Touches.{live_same}

pub same_stays : (old new : IndexState) → new ≡ old → Stay old new
same_stays old new same = subst (λ (s : IndexState). Stay old s) (sym same) (record { live = λ p some. some; order = λ level. Sublist.refl (places_at old level) })

module _ (old mid new : RegionState) (r s : RosterState) (root : Place) (is_root : r.tree.root ≡ Some root) (lower : ℕ) (top : Option Place) (key : List ℕ) (freed : List Place)
    (pruned : Prunes (nodes_of (live_at old)) (nodes_of (live_at mid)) r.tree.level root lower top key freed) (same : SameBut blank old mid)
    (trimmed : IsSameTree (released (nodes_of (live_at mid)) top lower freed r) s) (roster : IsRosterOf s (live_at new)) (remain : Remain (live_at mid) (live_at new)) where
  within : (p : Place) (node : TreeNode) → nodes_of (live_at new) p ≡ Some node → nodes_of (live_at mid) p ≡ Some node
  within p node is = sym (live_same mid new p (remain p (is_live (live_at new) p node is))) ∙ is

  row_now : (k : ℕ) → row_below (nodes_of (live_at new)) k s.tree.level s.tree.root ≡ row_below (nodes_of (live_at mid)) k lower top
  row_now k =
      sym (row_within (nodes_of (live_at new)) (nodes_of (live_at mid)) within s.tree roster.tree k)
      ∙ (ap (λ n. row_below (nodes_of (live_at mid)) k n s.tree.root) trimmed.level ∙ ap (λ (o : Option Place). row_below (nodes_of (live_at mid)) k lower o) trimmed.root)

  pub removal_stays : Stay (record { tree = r.tree; region = old }) (record { tree = s.tree; region = new })
  removal_stays = record {
    live = λ p some. still_some old mid same p (subst (λ (o : Option Item). IsSome o) (remain p some) some);
    order = λ k. left_between (row_now k) (pruned.rows k) (ap (λ (o : Option Place). row_below (nodes_of (live_at old)) k r.tree.level o) (sym is_root));
  }
