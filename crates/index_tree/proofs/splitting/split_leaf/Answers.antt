use Rattle.std.proofs.Common.{◌≡◌, ◌≤◌, [], ◌∷◌, Some, length, subst, arith}
use Rattle.regions.specs.Contents.{live_at}
use Rattle.tree_nodes.specs.Nodes.{TreeNode}
use Rattle.std.proofs.lemmas.List.Elements.{All-head, All-tail}
use Rattle.regions.specs.Places.{link_to}
use Rattle.index_tree.specs.Links.{with_next}
use Rattle.index_tree.specs.Splits.{CutsLeaf}
use Rattle.index_tree.specs.Store.{ChangesNode, HoldsNode, nodes_of}
use Rattle.index_tree.proofs.InsertRows.{keyed}
use Rattle.index_tree.proofs.LeafCuts.{all_touched, done_p, done_q, leaf_cut, lower_eight, seen_linked_p, seen_linked_q, upper_eight}
use Rattle.index_tree.proofs.Touches.{held_still, if_value, node_there, value_of}
use Rattle.index_tree.proofs.Writes.{eases}
use Rattle.index_tree.proofs.splitting.split_leaf.Goals as goal

pub set_next_at-requires : goal.set_next_at-requires
set_next_at-requires c = held_still c.args.new (λ _. (node_there c.args.region.now c.args.at c.requires.node).0) c.args.region.now c.copy_node.new.region c.args.at
    (c.copy_node.ensures (node_there c.args.region.now c.args.at c.requires.node).0 (node_there c.args.region.now c.args.at c.requires.node).1) c.requires.node

pub cut_run_at-requires-clause-node : goal.cut_run_at-requires-clause-node
cut_run_at-requires-clause-node c =
    held_still c.args.at (with_next c.link_to.result) c.copy_node.new.region c.set_next_at.new.region c.args.new (eases c.args.at (with_next c.link_to.result) c.copy_node.new.region c.set_next_at.new.region c.set_next_at.ensures)
    (c.copy_node.ensures (node_there c.args.region.now c.args.at c.requires.node).0 (node_there c.args.region.now c.args.at c.requires.node).1).holds

pub cut_run_at-requires-clause-run : goal.cut_run_at-requires-clause-run
cut_run_at-requires-clause-run c =
    let full = (value_of (λ (n : TreeNode). length n.entries ≡ 16) (nodes_of (live_at c.args.region.now) c.args.at) (node_there c.args.region.now c.args.at c.requires.node).0 (node_there c.args.region.now c.args.at c.requires.node).1 c.requires.full) in
    if_value (λ (n : TreeNode). 8 ≤ length n.entries) (nodes_of (live_at c.set_next_at.new.region) c.args.new) (node_there c.args.region.now c.args.at c.requires.node).0
    (seen_linked_q c.args.region.now c.copy_node.new.region c.set_next_at.new.region c.args.at c.args.new (node_there c.args.region.now c.args.at c.requires.node).0 c.requires.new c.requires.apart
    (c.copy_node.ensures (node_there c.args.region.now c.args.at c.requires.node).0 (node_there c.args.region.now c.args.at c.requires.node).1) (subst (λ l. ChangesNode c.args.at (with_next l) c.copy_node.new.region c.set_next_at.new.region) c.link_to.ensures c.set_next_at.ensures))
    (omega arith)

pub cut_run_at-requires-2-clause-run : goal.cut_run_at-requires-2-clause-run
cut_run_at-requires-2-clause-run c =
    let full = (value_of (λ (n : TreeNode). length n.entries ≡ 16) (nodes_of (live_at c.args.region.now) c.args.at) (node_there c.args.region.now c.args.at c.requires.node).0 (node_there c.args.region.now c.args.at c.requires.node).1 c.requires.full) in
    if_value (λ (n : TreeNode). 16 ≤ length n.entries) (nodes_of (live_at c.cut_run_at.new.region) c.args.at) (with_next (link_to (Some c.args.new)) (node_there c.args.region.now c.args.at c.requires.node).0)
    (seen_linked_p c.args.region.now c.copy_node.new.region c.set_next_at.new.region c.cut_run_at.new.region c.args.at c.args.new (node_there c.args.region.now c.args.at c.requires.node).0 c.requires.apart (node_there c.args.region.now c.args.at c.requires.node).1
    (c.copy_node.ensures (node_there c.args.region.now c.args.at c.requires.node).0 (node_there c.args.region.now c.args.at c.requires.node).1)
    (subst (λ l. ChangesNode c.args.at (with_next l) c.copy_node.new.region c.set_next_at.new.region) c.link_to.ensures c.set_next_at.ensures) c.cut_run_at.ensures) (omega arith)

pub add_to_half-requires-clause-half : goal.add_to_half-requires-clause-half
add_to_half-requires-clause-half c =
    if_value (λ (n : TreeNode). length n.entries ≡ 8) (nodes_of (live_at c.cut_run_at-2.new.region) c.args.at) _
    (done_p c.args.region.now c.copy_node.new.region c.set_next_at.new.region c.cut_run_at.new.region c.cut_run_at-2.new.region c.args.at c.args.new (node_there c.args.region.now c.args.at c.requires.node).0 c.requires.node c.requires.new c.requires.apart
    (node_there c.args.region.now c.args.at c.requires.node).1 (value_of (λ (n : TreeNode). length n.entries ≡ 16) (nodes_of (live_at c.args.region.now) c.args.at) (node_there c.args.region.now c.args.at c.requires.node).0
    (node_there c.args.region.now c.args.at c.requires.node).1 c.requires.full) (c.copy_node.ensures (node_there c.args.region.now c.args.at c.requires.node).0 (node_there c.args.region.now c.args.at c.requires.node).1)
    (subst (λ l. ChangesNode c.args.at (with_next l) c.copy_node.new.region c.set_next_at.new.region) c.link_to.ensures c.set_next_at.ensures) c.cut_run_at.ensures c.cut_run_at-2.ensures)
    (lower_eight c.args.region.now c.copy_node.new.region c.set_next_at.new.region c.cut_run_at.new.region c.cut_run_at-2.new.region c.args.at c.args.new (node_there c.args.region.now c.args.at c.requires.node).0 c.requires.node c.requires.new c.requires.apart
    (node_there c.args.region.now c.args.at c.requires.node).1
    (value_of (λ (n : TreeNode). length n.entries ≡ 16) (nodes_of (live_at c.args.region.now) c.args.at) (node_there c.args.region.now c.args.at c.requires.node).0 (node_there c.args.region.now c.args.at c.requires.node).1 c.requires.full)
    (c.copy_node.ensures (node_there c.args.region.now c.args.at c.requires.node).0 (node_there c.args.region.now c.args.at c.requires.node).1)
    (subst (λ l. ChangesNode c.args.at (with_next l) c.copy_node.new.region c.set_next_at.new.region) c.link_to.ensures c.set_next_at.ensures) c.cut_run_at.ensures c.cut_run_at-2.ensures)

pub add_to_half-requires-clause-new_half : goal.add_to_half-requires-clause-new_half
add_to_half-requires-clause-new_half c =
    if_value (λ (n : TreeNode). length n.entries ≡ 8) (nodes_of (live_at c.cut_run_at-2.new.region) c.args.new) _
    (done_q c.args.region.now c.copy_node.new.region c.set_next_at.new.region c.cut_run_at.new.region c.cut_run_at-2.new.region c.args.at c.args.new (node_there c.args.region.now c.args.at c.requires.node).0 c.requires.node c.requires.new c.requires.apart
    (node_there c.args.region.now c.args.at c.requires.node).1 (value_of (λ (n : TreeNode). length n.entries ≡ 16) (nodes_of (live_at c.args.region.now) c.args.at) (node_there c.args.region.now c.args.at c.requires.node).0
    (node_there c.args.region.now c.args.at c.requires.node).1 c.requires.full) (c.copy_node.ensures (node_there c.args.region.now c.args.at c.requires.node).0 (node_there c.args.region.now c.args.at c.requires.node).1)
    (subst (λ l. ChangesNode c.args.at (with_next l) c.copy_node.new.region c.set_next_at.new.region) c.link_to.ensures c.set_next_at.ensures) c.cut_run_at.ensures c.cut_run_at-2.ensures)
    (upper_eight c.args.region.now c.copy_node.new.region c.set_next_at.new.region c.cut_run_at.new.region c.cut_run_at-2.new.region c.args.at c.args.new (node_there c.args.region.now c.args.at c.requires.node).0 c.requires.node c.requires.new c.requires.apart
    (node_there c.args.region.now c.args.at c.requires.node).1
    (value_of (λ (n : TreeNode). length n.entries ≡ 16) (nodes_of (live_at c.args.region.now) c.args.at) (node_there c.args.region.now c.args.at c.requires.node).0 (node_there c.args.region.now c.args.at c.requires.node).1 c.requires.full)
    (c.copy_node.ensures (node_there c.args.region.now c.args.at c.requires.node).0 (node_there c.args.region.now c.args.at c.requires.node).1)
    (subst (λ l. ChangesNode c.args.at (with_next l) c.copy_node.new.region c.set_next_at.new.region) c.link_to.ensures c.set_next_at.ensures) c.cut_run_at.ensures c.cut_run_at-2.ensures)

pub split_before-requires-clause-node : goal.split_before-requires-clause-node
split_before-requires-clause-node c =
    All-head (HoldsNode (live_at c.add_to_half.new.region)) c.args.new [] (All-tail (HoldsNode (live_at c.add_to_half.new.region)) c.args.at (c.args.new ∷ []) c.add_to_half.ensures.touched.holds)

pub returns-clause-cut : goal.returns-clause-cut
returns-clause-cut c =
    if_value (λ (n : TreeNode). CutsLeaf c.args.i (keyed c.args.key.now c.args.number) c.args.at c.args.new n c.split_before.result (nodes_of (live_at c.add_to_half.new.region)))
    (nodes_of (live_at c.args.region.now) c.args.at) (node_there c.args.region.now c.args.at c.requires.node).0 (node_there c.args.region.now c.args.at c.requires.node).1
    (leaf_cut c.args.region.now c.copy_node.new.region c.set_next_at.new.region c.cut_run_at.new.region c.cut_run_at-2.new.region c.args.at c.args.new (node_there c.args.region.now c.args.at c.requires.node).0 c.requires.node c.requires.new c.requires.apart
    (node_there c.args.region.now c.args.at c.requires.node).1 (value_of (λ (n : TreeNode). length n.entries ≡ 16) (nodes_of (live_at c.args.region.now) c.args.at) (node_there c.args.region.now c.args.at c.requires.node).0
    (node_there c.args.region.now c.args.at c.requires.node).1 c.requires.full) (c.copy_node.ensures (node_there c.args.region.now c.args.at c.requires.node).0 (node_there c.args.region.now c.args.at c.requires.node).1)
    (subst (λ l. ChangesNode c.args.at (with_next l) c.copy_node.new.region c.set_next_at.new.region) c.link_to.ensures c.set_next_at.ensures) c.cut_run_at.ensures c.cut_run_at-2.ensures c.add_to_half.new.region c.args.i
    (keyed c.args.key.now c.args.number) c.split_before.result c.add_to_half.ensures.halves c.split_before.ensures.place c.split_before.ensures.key)

pub returns-clause-touched : goal.returns-clause-touched
returns-clause-touched c = all_touched c.args.region.now c.copy_node.new.region c.set_next_at.new.region c.cut_run_at.new.region c.cut_run_at-2.new.region c.args.at c.args.new (node_there c.args.region.now c.args.at c.requires.node).0 c.requires.node c.requires.new c.requires.apart
    (node_there c.args.region.now c.args.at c.requires.node).1 (value_of (λ (n : TreeNode). length n.entries ≡ 16) (nodes_of (live_at c.args.region.now) c.args.at) (node_there c.args.region.now c.args.at c.requires.node).0
    (node_there c.args.region.now c.args.at c.requires.node).1 c.requires.full) (c.copy_node.ensures (node_there c.args.region.now c.args.at c.requires.node).0 (node_there c.args.region.now c.args.at c.requires.node).1)
    (subst (λ l. ChangesNode c.args.at (with_next l) c.copy_node.new.region c.set_next_at.new.region) c.link_to.ensures c.set_next_at.ensures) c.cut_run_at.ensures c.cut_run_at-2.ensures c.add_to_half.new.region c.add_to_half.ensures.touched
