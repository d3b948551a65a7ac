use Rattle.std.proofs.Common.{◌≡◌, [], ◌∷◌, length}
use Rattle.std.proofs.lemmas.List.Elements.{All-head, All-tail}
use Rattle.regions.specs.Contents.{live_at}
use Rattle.tree_nodes.specs.Nodes.{TreeNode}
use Rattle.index_tree.specs.Links.{with_child}
use Rattle.index_tree.specs.Store.{HoldsNode, nodes_of}
use Rattle.index_tree.specs.Splits.{CutsInner, Halves, branch_of}
use Rattle.index_tree.proofs.InnerWrites.{between_cut, fits_there}
use Rattle.index_tree.proofs.Touches.{either_behind, if_value, node_there, touched_by, touched_then, value_of}
use Rattle.index_tree.proofs.Writes.{eases}
use Rattle.index_tree.proofs.splitting.cut_between.Goals as goal

pub set_child_of-requires-clause-node : goal.set_child_of-requires-clause-node
set_child_of-requires-clause-node c = All-head (HoldsNode (live_at c.halve.new.region)) c.args.new [] (All-tail (HoldsNode (live_at c.halve.new.region)) c.args.at (c.args.new ∷ []) c.halve.ensures.touched.holds)

pub returns-clause-cut : goal.returns-clause-cut
returns-clause-cut c =
    if_value (λ (n : TreeNode). CutsInner 8 (branch_of c.args.split.now) c.args.at c.args.new n c.moved_up.result (nodes_of (live_at c.set_child_of.new.region)))
    (nodes_of (live_at c.args.region.now) c.args.at) (node_there c.args.region.now c.args.at c.requires.node).0 (node_there c.args.region.now c.args.at c.requires.node).1
    (between_cut c.args.region.now c.halve.new.region c.set_child_of.new.region c.args.at c.args.new (node_there c.args.region.now c.args.at c.requires.node).0
    (fits_there c.args.region.now c.args.at (node_there c.args.region.now c.args.at c.requires.node).0 c.requires.node (node_there c.args.region.now c.args.at c.requires.node).1)
    (value_of (λ (n : TreeNode). length n.entries ≡ 16) (nodes_of (live_at c.args.region.now) c.args.at) (node_there c.args.region.now c.args.at c.requires.node).0 (node_there c.args.region.now c.args.at c.requires.node).1 c.requires.full) c.requires.apart
    (branch_of c.args.split.now) c.moved_up.result c.moved_up.ensures.place c.link_to.result c.link_to.ensures
    (value_of (λ (n : TreeNode). Halves 8 8 c.args.at c.args.new n (nodes_of (live_at c.halve.new.region))) (nodes_of (live_at c.args.region.now) c.args.at)
    (node_there c.args.region.now c.args.at c.requires.node).0 (node_there c.args.region.now c.args.at c.requires.node).1 c.halve.ensures.halves) c.set_child_of.ensures c.moved_up.ensures.key)

pub returns-clause-touched : goal.returns-clause-touched
returns-clause-touched c =
    touched_then (c.args.at ∷ c.args.new ∷ []) c.args.region.now c.halve.new.region c.set_child_of.new.region c.halve.ensures.touched
    (touched_by (c.args.at ∷ c.args.new ∷ []) c.args.new (with_child 0 c.link_to.result) c.halve.new.region c.set_child_of.new.region c.halve.ensures.touched.holds
    (either_behind c.args.at c.args.new) (eases c.args.new (with_child 0 c.link_to.result) c.halve.new.region c.set_child_of.new.region c.set_child_of.ensures))
