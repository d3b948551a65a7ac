use Rattle.std.proofs.Common.{◌≡◌, length, arith}
use Rattle.regions.specs.Contents.{live_at}
use Rattle.tree_nodes.specs.Nodes.{TreeNode}
use Rattle.index_tree.specs.Store.{nodes_of}
use Rattle.index_tree.proofs.Touches.{if_value, value_of}
use Rattle.index_tree.proofs.leaves.mend_leaves.Goals as goal

pub join-requires-clause-few_left : goal.join-requires-clause-few_left
join-requires-clause-few_left c =
    let r = c.args.region.now in let u = c.requires.uneven in let a = c.args in
    let left = nodes_of (live_at r) a.left in let end = value_of (λ (n : TreeNode). c.count_at-end.result ≡ length n.entries) left u.left_node u.left_is c.count_at-end.ensures in
    let few = c.if-end-gt-HALF.false in if_value _ left u.left_node u.left_is (omega (arith, end, few))

pub join-requires-clause-few_right : goal.join-requires-clause-few_right
join-requires-clause-few_right c =
    let r = c.args.region.now in let u = c.requires.uneven in let a = c.args in
    let right = nodes_of (live_at r) a.right in let count = value_of (λ (n : TreeNode). c.count_at-count.result ≡ length n.entries) right u.right_node u.right_is c.count_at-count.ensures in
    let few = c.if-count-gt-HALF.false in if_value _ right u.right_node u.right_is (omega (arith, count, few))
