use Rattle.std.proofs.Common.{◌≡◌, Option, length, ap, ◌∙◌}
use Rattle.std.specs.Prelude.{option_map}
use Rattle.regions.specs.Contents.{live_at}
use Rattle.tree_nodes.specs.Nodes.{TreeNode}
use Rattle.index_tree.specs.Store.{nodes_of}
use Rattle.index_tree.specs.Splits.{Halves, back_of}
use Rattle.index_tree.proofs.InnerWrites.{halves_touched, halves_written}
use Rattle.index_tree.proofs.Touches.{held_still, if_value, node_past, node_there, value_of}
use Rattle.index_tree.proofs.splitting.halve.Goals as goal

pub keep_back-requires-clause-node : goal.keep_back-requires-clause-node
keep_back-requires-clause-node c = (c.copy_node.ensures (node_there c.args.region.now c.args.at c.requires.node).0 (node_there c.args.region.now c.args.at c.requires.node).1).holds

pub keep_back-requires-clause-full : goal.keep_back-requires-clause-full
keep_back-requires-clause-full c =
    if_value (λ (n : TreeNode). length n.entries ≡ 16) (nodes_of (live_at c.copy_node.new.region) c.args.new) (node_there c.args.region.now c.args.at c.requires.node).0
    ((c.copy_node.ensures (node_there c.args.region.now c.args.at c.requires.node).0 (node_there c.args.region.now c.args.at c.requires.node).1).here
    ∙ ap (λ (o : Option TreeNode). option_map (λ (_ : TreeNode). (node_there c.args.region.now c.args.at c.requires.node).0) o) (node_there c.args.region.now c.args.new c.requires.new).1)
    (value_of (λ (n : TreeNode). length n.entries ≡ 16) (nodes_of (live_at c.args.region.now) c.args.at) (node_there c.args.region.now c.args.at c.requires.node).0 (node_there c.args.region.now c.args.at c.requires.node).1 c.requires.full)

pub keep_front-requires-clause-node : goal.keep_front-requires-clause-node
keep_front-requires-clause-node c =
    held_still c.args.new (back_of c.args.m) c.copy_node.new.region c.keep_back.new.region c.args.at c.keep_back.ensures
    (held_still c.args.new (λ _. (node_there c.args.region.now c.args.at c.requires.node).0) c.args.region.now c.copy_node.new.region c.args.at
    (c.copy_node.ensures (node_there c.args.region.now c.args.at c.requires.node).0 (node_there c.args.region.now c.args.at c.requires.node).1) c.requires.node)

pub keep_front-requires-clause-full : goal.keep_front-requires-clause-full
keep_front-requires-clause-full c =
    if_value (λ (n : TreeNode). length n.entries ≡ 16) (nodes_of (live_at c.keep_back.new.region) c.args.at) (node_there c.args.region.now c.args.at c.requires.node).0
    (node_past c.args.new (back_of c.args.m) c.copy_node.new.region c.keep_back.new.region c.args.at c.keep_back.ensures c.requires.apart
    ∙ (node_past c.args.new (λ _. (node_there c.args.region.now c.args.at c.requires.node).0) c.args.region.now c.copy_node.new.region c.args.at
    (c.copy_node.ensures (node_there c.args.region.now c.args.at c.requires.node).0 (node_there c.args.region.now c.args.at c.requires.node).1) c.requires.apart ∙ (node_there c.args.region.now c.args.at c.requires.node).1))
    (value_of (λ (n : TreeNode). length n.entries ≡ 16) (nodes_of (live_at c.args.region.now) c.args.at) (node_there c.args.region.now c.args.at c.requires.node).0 (node_there c.args.region.now c.args.at c.requires.node).1 c.requires.full)

pub returns-clause-halves : goal.returns-clause-halves
returns-clause-halves c =
    if_value (λ (n : TreeNode). Halves c.args.m c.args.n c.args.at c.args.new n (nodes_of (live_at c.keep_front.new.region))) (nodes_of (live_at c.args.region.now) c.args.at) (node_there c.args.region.now c.args.at c.requires.node).0 (node_there c.args.region.now c.args.at c.requires.node).1
    (halves_written c.args.region.now c.copy_node.new.region c.keep_back.new.region c.keep_front.new.region c.args.at c.args.new c.args.m c.args.n (node_there c.args.region.now c.args.at c.requires.node).0 c.requires.node c.requires.new c.requires.apart
    (node_there c.args.region.now c.args.at c.requires.node).1 (c.copy_node.ensures (node_there c.args.region.now c.args.at c.requires.node).0 (node_there c.args.region.now c.args.at c.requires.node).1) c.keep_back.ensures c.keep_front.ensures)

pub returns-clause-touched : goal.returns-clause-touched
returns-clause-touched c =
    halves_touched c.args.region.now c.copy_node.new.region c.keep_back.new.region c.keep_front.new.region c.args.at c.args.new c.args.m c.args.n (node_there c.args.region.now c.args.at c.requires.node).0 c.requires.node c.requires.new c.requires.apart
    (node_there c.args.region.now c.args.at c.requires.node).1 (c.copy_node.ensures (node_there c.args.region.now c.args.at c.requires.node).0 (node_there c.args.region.now c.args.at c.requires.node).1) c.keep_back.ensures c.keep_front.ensures
