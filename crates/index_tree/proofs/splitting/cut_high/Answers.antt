use Rattle.std.proofs.Common.{◌≡◌, ◌-◌, [], ◌∷◌, length, take, refl}
use Rattle.std.proofs.lemmas.List.Elements.{All-head, All-tail}
use Rattle.regions.specs.Contents.{live_at}
use Rattle.tree_nodes.specs.Nodes.{TreeNode, entry_at}
use Rattle.index_tree.specs.Store.{HoldsNode, nodes_of}
use Rattle.index_tree.specs.Splits.{CutsInner, Halves, branch_of, widened}
use Rattle.index_tree.proofs.InnerWrites.{fits_there, high_cut}
use Rattle.index_tree.proofs.Touches.{either_behind, if_value, node_there, touched_by, touched_then, value_of}
use Rattle.index_tree.proofs.splitting.cut_high.Goals as goal

pub widen-requires-clause-node : goal.widen-requires-clause-node
widen-requires-clause-node c = All-head (HoldsNode (live_at c.halve.new.region)) c.args.new [] (All-tail (HoldsNode (live_at c.halve.new.region)) c.args.at (c.args.new ∷ []) c.halve.ensures.touched.holds)

pub returns-clause-cut : goal.returns-clause-cut
returns-clause-cut c =
    if_value (λ (n : TreeNode). CutsInner c.args.i (branch_of c.args.split.now) c.args.at c.args.new n c.split_before-middle.result (nodes_of (live_at c.widen.new.region)))
    (nodes_of (live_at c.args.region.now) c.args.at) (node_there c.args.region.now c.args.at c.requires.node).0 (node_there c.args.region.now c.args.at c.requires.node).1
    (high_cut c.args.region.now c.halve.new.region c.widen.new.region c.args.at c.args.new (node_there c.args.region.now c.args.at c.requires.node).0
    (fits_there c.args.region.now c.args.at (node_there c.args.region.now c.args.at c.requires.node).0 c.requires.node (node_there c.args.region.now c.args.at c.requires.node).1)
    (value_of (λ (n : TreeNode). length n.entries ≡ 16) (nodes_of (live_at c.args.region.now) c.args.at) (node_there c.args.region.now c.args.at c.requires.node).0 (node_there c.args.region.now c.args.at c.requires.node).1 c.requires.full) c.requires.apart
    (branch_of c.args.split.now) c.split_before-middle.result c.split_before-middle.ensures.place c.args.i (c.args.i - 9) c.requires.i.0 c.requires.i.1 refl
    (value_of (λ (n : TreeNode). Halves 9 8 c.args.at c.args.new n (nodes_of (live_at c.halve.new.region))) (nodes_of (live_at c.args.region.now) c.args.at) (node_there c.args.region.now c.args.at c.requires.node).0
    (node_there c.args.region.now c.args.at c.requires.node).1 c.halve.ensures.halves) c.widen.ensures
    (value_of (λ (n : TreeNode). take c.split_before-middle.result.len c.split_before-middle.result.key ≡ (entry_at n 8).key) (nodes_of (live_at c.args.region.now) c.args.at)
    (node_there c.args.region.now c.args.at c.requires.node).0 (node_there c.args.region.now c.args.at c.requires.node).1 c.split_before-middle.ensures.key))

pub returns-clause-touched : goal.returns-clause-touched
returns-clause-touched c =
    touched_then (c.args.at ∷ c.args.new ∷ []) c.args.region.now c.halve.new.region c.widen.new.region c.halve.ensures.touched
    (touched_by (c.args.at ∷ c.args.new ∷ []) c.args.new (widened (c.args.i - 9) (branch_of c.args.split.now)) c.halve.new.region c.widen.new.region c.halve.ensures.touched.holds (either_behind c.args.at c.args.new) c.widen.ensures)
