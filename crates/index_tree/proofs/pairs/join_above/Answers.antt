use Rattle.std.proofs.Common.{◌≡◌, ◌+◌, ◌≤◌, inl, inr, true, length, refl, sym, ap, ◌∙◌, arith}
use Rattle.regions.specs.Contents.{live_at}
use Rattle.tree_nodes.specs.Nodes.{Entry, TreeNode, entry_at, node_in, started}
use Rattle.index_tree.specs.Pairs.{entry_moved, gains, gives, gives_child, separator, takes, with_children}
use Rattle.index_tree.specs.Store.{nodes_of}
use Rattle.place_lemmas.proofs.Places.{some_is}
use Rattle.index_tree.proofs.Touches.{if_value, value_of}
use Rattle.index_tree.proofs.RemoveCases.{left_held, left_now, node_few, right_held}
use Rattle.index_tree.proofs.RemoveWrites.{mended_by, three_written}
use Rattle.index_tree.proofs.pairs.join_above.Goals as goal

pub moved_from-between-requires-clause-i : goal.moved_from-between-requires-clause-i
moved_from-between-requires-clause-i c =
    let r = c.args.region.now in let u = c.requires.uneven in let q = c.requires in let a = c.args in
    if_value _ (nodes_of (live_at r) a.at) u.parent_node u.parent_is u.within

pub cut_branch_at-requires-clause-k : goal.cut_branch_at-requires-clause-k
cut_branch_at-requires-clause-k c =
    let r = c.args.region.now in let u = c.requires.uneven in let q = c.requires in let a = c.args in
    let few = node_few r a.at u.parent_node q.at u.parent_is in let inside = u.within in omega (arith, few, inside)

pub cut_branch_at-requires-clause-i : goal.cut_branch_at-requires-clause-i
cut_branch_at-requires-clause-i c =
    let r = c.args.region.now in let u = c.requires.uneven in let q = c.requires in let a = c.args in
    if_value _ (nodes_of (live_at r) a.at) u.parent_node u.parent_is u.within

pub take_inner_at-requires-clause-room : goal.take_inner_at-requires-clause-room
take_inner_at-requires-clause-room c =
    let r = c.args.region.now in let u = c.requires.uneven in let q = c.requires in let a = c.args in
    let read : node_in c.content_at-content.result ≡ u.right_node = some_is (sym c.content_at-content.ensures.node ∙ u.right_is) in let long = ap (λ (n : TreeNode). length n.entries) read in
    let few_left = value_of (λ (n : TreeNode). length n.entries ≤ 8) (nodes_of (live_at r) a.left) u.left_node u.left_is q.few_left in let few_right = value_of (λ (n : TreeNode). length n.entries ≤ 8) (nodes_of (live_at r) a.right) u.right_node u.right_is q.few_right in
    if_value _ (nodes_of (live_at c.cut_branch_at.new.region) a.left) u.left_node (left_now r c.cut_branch_at.new.region a.j a.at a.left a.right q.far_left u c.cut_branch_at.ensures)
    (elim u.one [ inl seven ↦ omega (arith, long, seven, few_right) | inr seven ↦ omega (arith, long, seven, few_left) ])

pub take_inner_at-requires-clause-node : goal.take_inner_at-requires-clause-node
take_inner_at-requires-clause-node c =
    let r = c.args.region.now in let u = c.requires.uneven in let q = c.requires in let a = c.args in
    left_held r c.cut_branch_at.new.region a.j a.at a.left a.right q.far_left u c.cut_branch_at.ensures q.left

pub start_at-requires : goal.start_at-requires
start_at-requires c =
    let r = c.args.region.now in let u = c.requires.uneven in let q = c.requires in let a = c.args in
    right_held r c.cut_branch_at.new.region c.take_inner_at.new.region a.j a.at a.left a.right q.far_right q.apart u c.cut_branch_at.ensures c.take_inner_at.ensures q.right

pub returns-clause-three : goal.returns-clause-three
returns-clause-three c =
    let r = c.args.region.now in let u = c.requires.uneven in let q = c.requires in let a = c.args in
    let f : TreeNode → TreeNode = λ n. gives_child (a.j + 1) (gives a.j n) in
    let g : TreeNode → TreeNode = λ n. with_children (length n.entries + 1) (node_in c.content_at-content.result).children (length (node_in c.content_at-content.result).entries + 1) (takes (node_in c.content_at-content.result).entries (gains (length n.entries) (separator c.key.result.now) n)) in
    let h : TreeNode → TreeNode = λ _. started 0 in
    three_written r c.cut_branch_at.new.region c.take_inner_at.new.region c.start_at.new.region a.at a.left a.right f g h q.far_left q.far_right q.apart c.cut_branch_at.ensures c.take_inner_at.ensures c.start_at.ensures

pub returns-clause-mended : goal.returns-clause-mended
returns-clause-mended c =
    let r = c.args.region.now in let u = c.requires.uneven in let q = c.requires in let a = c.args in
    let f : TreeNode → TreeNode = λ n. gives_child (a.j + 1) (gives a.j n) in
    let g : TreeNode → TreeNode = λ n. with_children (length n.entries + 1) (node_in c.content_at-content.result).children (length (node_in c.content_at-content.result).entries + 1) (takes (node_in c.content_at-content.result).entries (gains (length n.entries) (separator c.key.result.now) n)) in
    let h : TreeNode → TreeNode = λ _. started 0 in
    let read : node_in c.content_at-content.result ≡ u.right_node = some_is (sym c.content_at-content.ensures.node ∙ u.right_is) in
    let between = c.key.ensures.is ∙ ap (λ (e : Entry). e.key) (value_of (λ (n : TreeNode). entry_moved c.moved_from-between.result ≡ entry_at n a.j) (nodes_of (live_at r) a.at) u.parent_node u.parent_is c.moved_from-between.ensures) in
    let few_left = value_of (λ (n : TreeNode). length n.entries ≤ 8) (nodes_of (live_at r) a.left) u.left_node u.left_is q.few_left in let few_right = value_of (λ (n : TreeNode). length n.entries ≤ 8) (nodes_of (live_at r) a.right) u.right_node u.right_is q.few_right in
    let end = length u.left_node.entries in
    mended_by r c.cut_branch_at.new.region c.take_inner_at.new.region c.start_at.new.region a.j a.at a.left a.right f g h true true q.far_left q.far_right q.apart u.parent_node u.left_node u.right_node u.parent_is u.left_is u.right_is
    (inr (inr (
      refl,
      record {
        few_left = few_left;
        few_right = few_right;
        parent_is = refl;
        left_is = ap (λ (n : TreeNode). with_children (end + 1) n.children (length n.entries + 1) (takes n.entries (gains end (separator c.key.result.now) u.left_node))) read
            ∙ ap (λ k. with_children (end + 1) u.right_node.children (length u.right_node.entries + 1) (takes u.right_node.entries (gains end (separator k) u.left_node))) between;
        right_is = refl;
      },
    )))
    c.cut_branch_at.ensures c.take_inner_at.ensures c.start_at.ensures
