use Rattle.std.proofs.Common.{◌≡◌, ◌+◌, inl, inr, false, true, length, refl, ap, ◌∙◌, arith}
use Rattle.regions.specs.Contents.{live_at}
use Rattle.tree_nodes.specs.Nodes.{Entry, TreeNode, child_at, entry_at}
use Rattle.index_tree.specs.Pairs.{entry_moved, gains, gives, gives_child, separated, separator, with_child_at}
use Rattle.index_tree.specs.Store.{nodes_of}
use Rattle.index_tree.proofs.Touches.{if_value, value_of}
use Rattle.index_tree.proofs.RemoveCases.{left_held, left_now, right_held, right_now}
use Rattle.index_tree.proofs.RemoveWrites.{mended_by, three_written}
use Rattle.index_tree.proofs.pairs.give_left_above.Goals as goal

pub moved_from-first-requires-clause-i : goal.moved_from-first-requires-clause-i
moved_from-first-requires-clause-i c =
    let r = c.args.region.now in let u = c.requires.uneven in let q = c.requires in let a = c.args in
    if_value _ (nodes_of (live_at r) a.right) u.right_node u.right_is (let some = u.some_right in omega (arith, some))

pub moved_from-between-requires-clause-i : goal.moved_from-between-requires-clause-i
moved_from-between-requires-clause-i c =
    let r = c.args.region.now in let u = c.requires.uneven in let q = c.requires in let a = c.args in
    if_value _ (nodes_of (live_at r) a.at) u.parent_node u.parent_is u.within

pub separate_at-requires-clause-j : goal.separate_at-requires-clause-j
separate_at-requires-clause-j c =
    let r = c.args.region.now in let u = c.requires.uneven in let q = c.requires in let a = c.args in
    if_value _ (nodes_of (live_at r) a.at) u.parent_node u.parent_is u.within

pub put_last_at-requires-clause-room : goal.put_last_at-requires-clause-room
put_last_at-requires-clause-room c =
    let r = c.args.region.now in let u = c.requires.uneven in let q = c.requires in let a = c.args in
    let count = value_of (λ (n : TreeNode). a.count ≡ length n.entries) (nodes_of (live_at r) a.right) u.right_node u.right_is q.count in
    if_value _ (nodes_of (live_at c.separate_at.new.region) a.left) u.left_node (left_now r c.separate_at.new.region a.j a.at a.left a.right q.far_left u c.separate_at.ensures)
    (elim u.one [ inl few ↦ omega (arith, few) | inr l ↦ absurd (omega (arith, l, count, q.more)) ])

pub cut_branch_at-requires-clause-i : goal.cut_branch_at-requires-clause-i
cut_branch_at-requires-clause-i c =
    let r = c.args.region.now in let u = c.requires.uneven in let q = c.requires in let a = c.args in
    if_value _ (nodes_of (live_at c.put_last_at.new.region) a.right) u.right_node (right_now r c.separate_at.new.region c.put_last_at.new.region a.j a.at a.left a.right q.far_right q.apart u c.separate_at.ensures c.put_last_at.ensures) (let some = u.some_right in omega (arith, some))

pub put_last_at-requires-clause-node : goal.put_last_at-requires-clause-node
put_last_at-requires-clause-node c =
    let r = c.args.region.now in let u = c.requires.uneven in let q = c.requires in let a = c.args in
    left_held r c.separate_at.new.region a.j a.at a.left a.right q.far_left u c.separate_at.ensures q.left

pub cut_branch_at-requires-clause-node : goal.cut_branch_at-requires-clause-node
cut_branch_at-requires-clause-node c =
    let r = c.args.region.now in let u = c.requires.uneven in let q = c.requires in let a = c.args in
    right_held r c.separate_at.new.region c.put_last_at.new.region a.j a.at a.left a.right q.far_right q.apart u c.separate_at.ensures c.put_last_at.ensures q.right

pub returns-clause-three : goal.returns-clause-three
returns-clause-three c =
    let r = c.args.region.now in let u = c.requires.uneven in let q = c.requires in let a = c.args in
    let f : TreeNode → TreeNode = separated a.j c.key.result.now in
    let g : TreeNode → TreeNode = λ n. with_child_at (length n.entries + 1) c.child_of-link.result (gains (length n.entries) (separator c.key-2.result.now) n) in
    let h : TreeNode → TreeNode = λ n. gives_child 0 (gives 0 n) in
    three_written r c.separate_at.new.region c.put_last_at.new.region c.cut_branch_at.new.region a.at a.left a.right f g h q.far_left q.far_right q.apart c.separate_at.ensures c.put_last_at.ensures c.cut_branch_at.ensures

pub returns-clause-mended : goal.returns-clause-mended
returns-clause-mended c =
    let r = c.args.region.now in let u = c.requires.uneven in let q = c.requires in let a = c.args in
    let f : TreeNode → TreeNode = separated a.j c.key.result.now in
    let g : TreeNode → TreeNode = λ n. with_child_at (length n.entries + 1) c.child_of-link.result (gains (length n.entries) (separator c.key-2.result.now) n) in
    let h : TreeNode → TreeNode = λ n. gives_child 0 (gives 0 n) in
    let count = value_of (λ (n : TreeNode). a.count ≡ length n.entries) (nodes_of (live_at r) a.right) u.right_node u.right_is q.count in
    let key = c.key.ensures.is ∙ ap (λ (e : Entry). e.key) (value_of (λ (n : TreeNode). entry_moved c.moved_from-first.result ≡ entry_at n 0) (nodes_of (live_at r) a.right) u.right_node u.right_is c.moved_from-first.ensures) in
    let between = c.key-2.ensures.is ∙ ap (λ (e : Entry). e.key) (value_of (λ (n : TreeNode). entry_moved c.moved_from-between.result ≡ entry_at n a.j) (nodes_of (live_at r) a.at) u.parent_node u.parent_is c.moved_from-between.ensures) in
    let link = value_of (λ (n : TreeNode). c.child_of-link.result ≡ child_at n 0) (nodes_of (live_at r) a.right) u.right_node u.right_is c.child_of-link.ensures in
    let end = length u.left_node.entries in
    mended_by r c.separate_at.new.region c.put_last_at.new.region c.cut_branch_at.new.region a.j a.at a.left a.right f g h true false q.far_left q.far_right q.apart u.parent_node u.left_node u.right_node u.parent_is u.left_is u.right_is
    (inr (inl (
      refl,
      record {
        more = omega (arith, count, q.more);
        parent_is = ap (λ k. separated a.j k u.parent_node) key;
        left_is = ap (λ l. with_child_at (end + 1) l (gains end (separator c.key-2.result.now) u.left_node)) link
            ∙ ap (λ k. with_child_at (end + 1) (child_at u.right_node 0) (gains end (separator k) u.left_node)) between;
        right_is = refl;
      },
    )))
    c.separate_at.ensures c.put_last_at.ensures c.cut_branch_at.ensures
