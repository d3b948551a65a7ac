use Rattle.std.proofs.Common.{◌≡◌, ◌-◌, inl, inr, false, true, length, refl, ap, ◌∙◌, arith}
use Rattle.regions.specs.Contents.{live_at}
use Rattle.tree_nodes.specs.Nodes.{Entry, TreeNode, child_at, entry_at}
use Rattle.index_tree.specs.Pairs.{entry_moved, gains, gains_child, gives, gives_child, last_of, separated, separator}
use Rattle.index_tree.specs.Store.{nodes_of}
use Rattle.index_tree.proofs.Touches.{if_value, value_of}
use Rattle.index_tree.proofs.RemoveCases.{left_held, left_now, node_few, right_held, right_now}
use Rattle.index_tree.proofs.RemoveWrites.{mended_by, three_written}
use Rattle.index_tree.proofs.pairs.give_right_above.Goals as goal

pub moved_from-last-requires-clause-i : goal.moved_from-last-requires-clause-i
moved_from-last-requires-clause-i c =
    let r = c.args.region.now in let u = c.requires.uneven in let q = c.requires in let a = c.args in
    let end = value_of (λ (n : TreeNode). a.end ≡ length n.entries) (nodes_of (live_at r) a.left) u.left_node u.left_is q.end in if_value _ (nodes_of (live_at r) a.left) u.left_node u.left_is (omega (arith, end, q.more))

pub moved_from-between-requires-clause-i : goal.moved_from-between-requires-clause-i
moved_from-between-requires-clause-i c =
    let r = c.args.region.now in let u = c.requires.uneven in let q = c.requires in let a = c.args in
    if_value _ (nodes_of (live_at r) a.at) u.parent_node u.parent_is u.within

pub separate_at-requires-clause-j : goal.separate_at-requires-clause-j
separate_at-requires-clause-j c =
    let r = c.args.region.now in let u = c.requires.uneven in let q = c.requires in let a = c.args in
    if_value _ (nodes_of (live_at r) a.at) u.parent_node u.parent_is u.within

pub child_of-link-requires-clause-i : goal.child_of-link-requires-clause-i
child_of-link-requires-clause-i c =
    let r = c.args.region.now in let u = c.requires.uneven in let q = c.requires in let a = c.args in
    let end = value_of (λ (n : TreeNode). a.end ≡ length n.entries) (nodes_of (live_at r) a.left) u.left_node u.left_is q.end in let few = node_few r a.left u.left_node q.left u.left_is in omega (arith, end, few)

pub cut_branch_at-requires-clause-k : goal.cut_branch_at-requires-clause-k
cut_branch_at-requires-clause-k c =
    let r = c.args.region.now in let u = c.requires.uneven in let q = c.requires in let a = c.args in
    let end = value_of (λ (n : TreeNode). a.end ≡ length n.entries) (nodes_of (live_at r) a.left) u.left_node u.left_is q.end in let few = node_few r a.left u.left_node q.left u.left_is in omega (arith, end, few)

pub cut_branch_at-requires-clause-i : goal.cut_branch_at-requires-clause-i
cut_branch_at-requires-clause-i c =
    let r = c.args.region.now in let u = c.requires.uneven in let q = c.requires in let a = c.args in
    let end = value_of (λ (n : TreeNode). a.end ≡ length n.entries) (nodes_of (live_at r) a.left) u.left_node u.left_is q.end in
    if_value _ (nodes_of (live_at c.separate_at.new.region) a.left) u.left_node (left_now r c.separate_at.new.region a.j a.at a.left a.right q.far_left u c.separate_at.ensures) (omega (arith, end, q.more))

pub put_first_at-requires-clause-room : goal.put_first_at-requires-clause-room
put_first_at-requires-clause-room c =
    let r = c.args.region.now in let u = c.requires.uneven in let q = c.requires in let a = c.args in
    let end = value_of (λ (n : TreeNode). a.end ≡ length n.entries) (nodes_of (live_at r) a.left) u.left_node u.left_is q.end in
    if_value _ (nodes_of (live_at c.cut_branch_at.new.region) a.right) u.right_node
    (right_now r c.separate_at.new.region c.cut_branch_at.new.region a.j a.at a.left a.right q.far_right q.apart u c.separate_at.ensures c.cut_branch_at.ensures)
    (elim u.one [ inl l ↦ absurd (omega (arith, l, end, q.more)) | inr few ↦ omega (arith, few) ])

pub cut_branch_at-requires-clause-node : goal.cut_branch_at-requires-clause-node
cut_branch_at-requires-clause-node c =
    let r = c.args.region.now in let u = c.requires.uneven in let q = c.requires in let a = c.args in
    left_held r c.separate_at.new.region a.j a.at a.left a.right q.far_left u c.separate_at.ensures q.left

pub put_first_at-requires-clause-node : goal.put_first_at-requires-clause-node
put_first_at-requires-clause-node c =
    let r = c.args.region.now in let u = c.requires.uneven in let q = c.requires in let a = c.args in
    right_held r c.separate_at.new.region c.cut_branch_at.new.region a.j a.at a.left a.right q.far_right q.apart u c.separate_at.ensures c.cut_branch_at.ensures q.right

pub returns-clause-three : goal.returns-clause-three
returns-clause-three c =
    let r = c.args.region.now in let u = c.requires.uneven in let q = c.requires in let a = c.args in
    let f : TreeNode → TreeNode = separated a.j c.key.result.now in
    let g : TreeNode → TreeNode = λ n. gives_child a.end (gives (a.end - 1) n) in
    let h : TreeNode → TreeNode = λ n. gains_child 0 c.child_of-link.result (gains 0 (separator c.key-2.result.now) n) in
    three_written r c.separate_at.new.region c.cut_branch_at.new.region c.put_first_at.new.region a.at a.left a.right f g h q.far_left q.far_right q.apart c.separate_at.ensures c.cut_branch_at.ensures c.put_first_at.ensures

pub returns-clause-mended : goal.returns-clause-mended
returns-clause-mended c =
    let r = c.args.region.now in let u = c.requires.uneven in let q = c.requires in let a = c.args in
    let f : TreeNode → TreeNode = separated a.j c.key.result.now in
    let g : TreeNode → TreeNode = λ n. gives_child a.end (gives (a.end - 1) n) in
    let h : TreeNode → TreeNode = λ n. gains_child 0 c.child_of-link.result (gains 0 (separator c.key-2.result.now) n) in
    let end = value_of (λ (n : TreeNode). a.end ≡ length n.entries) (nodes_of (live_at r) a.left) u.left_node u.left_is q.end in
    let last : a.end - 1 ≡ last_of u.left_node = ap (λ n. n - 1) end in
    let moved = value_of (λ (n : TreeNode). entry_moved c.moved_from-last.result ≡ entry_at n (a.end - 1)) (nodes_of (live_at r) a.left) u.left_node u.left_is c.moved_from-last.ensures ∙ ap (entry_at u.left_node) last in
    let key = c.key.ensures.is ∙ ap (λ (e : Entry). e.key) moved in
    let between = c.key-2.ensures.is ∙ ap (λ (e : Entry). e.key) (value_of (λ (n : TreeNode). entry_moved c.moved_from-between.result ≡ entry_at n a.j) (nodes_of (live_at r) a.at) u.parent_node u.parent_is c.moved_from-between.ensures) in
    let link = value_of (λ (n : TreeNode). c.child_of-link.result ≡ child_at n a.end) (nodes_of (live_at r) a.left) u.left_node u.left_is c.child_of-link.ensures ∙ ap (child_at u.left_node) end in
    mended_by r c.separate_at.new.region c.cut_branch_at.new.region c.put_first_at.new.region a.j a.at a.left a.right f g h true false q.far_left q.far_right q.apart u.parent_node u.left_node u.right_node u.parent_is u.left_is u.right_is
    (inl (
      refl,
      record {
        more = omega (arith, end, q.more);
        parent_is = ap (λ k. separated a.j k u.parent_node) key;
        left_is = ap (λ i. gives_child a.end (gives i u.left_node)) last ∙ ap (λ k. gives_child k (gives (last_of u.left_node) u.left_node)) end;
        right_is = ap (λ l. gains_child 0 l (gains 0 (separator c.key-2.result.now) u.right_node)) link
            ∙ ap (λ k. gains_child 0 (child_at u.left_node (length u.left_node.entries)) (gains 0 (separator k) u.right_node)) between;
      },
    ))
    c.separate_at.ensures c.cut_branch_at.ensures c.put_first_at.ensures
