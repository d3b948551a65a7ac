use Rattle.std.proofs.Common.{◌≡◌, ℕ, ◌-◌, inl, inr, false, List, length, refl, ap, ◌∙◌, arith}
use Rattle.regions.specs.Contents.{live_at}
use Rattle.tree_nodes.specs.Nodes.{Entry, TreeNode, entry_at}
use Rattle.index_tree.specs.Pairs.{entry_moved, gains, gives, last_of, separated}
use Rattle.index_tree.specs.Store.{nodes_of}
use Rattle.index_tree.specs.Writes.{with_entry}
use Rattle.index_tree.proofs.Touches.{if_value, value_of}
use Rattle.index_tree.proofs.RemoveCases.{left_held, left_now, right_held, right_now}
use Rattle.index_tree.proofs.RemoveWrites.{mended_by, three_written}
use Rattle.index_tree.proofs.leaves.give_right.Goals as goal

pub moved_from-moved-requires-clause-i : goal.moved_from-moved-requires-clause-i
moved_from-moved-requires-clause-i c =
    let r = c.args.region.now in let u = c.requires.uneven in let q = c.requires in let a = c.args in
    let end = value_of (λ (n : TreeNode). a.end ≡ length n.entries) (nodes_of (live_at r) a.left) u.left_node u.left_is q.end in if_value _ (nodes_of (live_at r) a.left) u.left_node u.left_is (omega (arith, end, q.more))

pub separate_at-requires-clause-j : goal.separate_at-requires-clause-j
separate_at-requires-clause-j c =
    let r = c.args.region.now in let u = c.requires.uneven in let q = c.requires in let a = c.args in
    if_value _ (nodes_of (live_at r) a.at) u.parent_node u.parent_is u.within

pub cut_at-requires-clause-i : goal.cut_at-requires-clause-i
cut_at-requires-clause-i c =
    let r = c.args.region.now in let u = c.requires.uneven in let q = c.requires in let a = c.args in
    let end = value_of (λ (n : TreeNode). a.end ≡ length n.entries) (nodes_of (live_at r) a.left) u.left_node u.left_is q.end in
    if_value _ (nodes_of (live_at c.separate_at.new.region) a.left) u.left_node (left_now r c.separate_at.new.region a.j a.at a.left a.right q.far_left u c.separate_at.ensures) (omega (arith, end, q.more))

pub add_at-requires-clause-room : goal.add_at-requires-clause-room
add_at-requires-clause-room c =
    let r = c.args.region.now in let u = c.requires.uneven in let q = c.requires in let a = c.args in
    let end = value_of (λ (n : TreeNode). a.end ≡ length n.entries) (nodes_of (live_at r) a.left) u.left_node u.left_is q.end in
    if_value _ (nodes_of (live_at c.cut_at.new.region) a.right) u.right_node
    (right_now r c.separate_at.new.region c.cut_at.new.region a.j a.at a.left a.right q.far_right q.apart u c.separate_at.ensures c.cut_at.ensures)
    (elim u.one [ inl l ↦ absurd (omega (arith, l, end, q.more)) | inr few ↦ omega (arith, few) ])

pub add_at-requires-clause-i : goal.add_at-requires-clause-i
add_at-requires-clause-i c =
    let r = c.args.region.now in let u = c.requires.uneven in let q = c.requires in let a = c.args in
    if_value _ (nodes_of (live_at c.cut_at.new.region) a.right) u.right_node (right_now r c.separate_at.new.region c.cut_at.new.region a.j a.at a.left a.right q.far_right q.apart u c.separate_at.ensures c.cut_at.ensures) (omega arith)

pub cut_at-requires-clause-node : goal.cut_at-requires-clause-node
cut_at-requires-clause-node c =
    let r = c.args.region.now in let u = c.requires.uneven in let q = c.requires in let a = c.args in
    left_held r c.separate_at.new.region a.j a.at a.left a.right q.far_left u c.separate_at.ensures q.left

pub add_at-requires-clause-node : goal.add_at-requires-clause-node
add_at-requires-clause-node c =
    let r = c.args.region.now in let u = c.requires.uneven in let q = c.requires in let a = c.args in
    right_held r c.separate_at.new.region c.cut_at.new.region a.j a.at a.left a.right q.far_right q.apart u c.separate_at.ensures c.cut_at.ensures q.right

pub returns-clause-three : goal.returns-clause-three
returns-clause-three c =
    let r = c.args.region.now in let u = c.requires.uneven in let q = c.requires in let a = c.args in
    let f : TreeNode → TreeNode = separated a.j c.key.result.now in
    let g : TreeNode → TreeNode = gives (a.end - 1) in
    let h : TreeNode → TreeNode = with_entry 0 (record { key = c.key-2.result.now; number = c.moved_from-moved.result.number }) in
    three_written r c.separate_at.new.region c.cut_at.new.region c.add_at.new.region a.at a.left a.right f g h q.far_left q.far_right q.apart c.separate_at.ensures c.cut_at.ensures c.add_at.ensures

pub returns-clause-mended : goal.returns-clause-mended
returns-clause-mended c =
    let r = c.args.region.now in let u = c.requires.uneven in let q = c.requires in let a = c.args in
    let f : TreeNode → TreeNode = separated a.j c.key.result.now in
    let g : TreeNode → TreeNode = gives (a.end - 1) in
    let h : TreeNode → TreeNode = with_entry 0 (record { key = c.key-2.result.now; number = c.moved_from-moved.result.number }) in
    let end = value_of (λ (n : TreeNode). a.end ≡ length n.entries) (nodes_of (live_at r) a.left) u.left_node u.left_is q.end in
    let last : a.end - 1 ≡ last_of u.left_node = ap (λ n. n - 1) end in
    let moved = value_of (λ (n : TreeNode). entry_moved c.moved_from-moved.result ≡ entry_at n (a.end - 1)) (nodes_of (live_at r) a.left) u.left_node u.left_is c.moved_from-moved.ensures ∙ ap (entry_at u.left_node) last in
    let key = c.key.ensures.is ∙ ap (λ (e : Entry). e.key) moved in
    let entry = ap (λ (k : List ℕ). let e : Entry = record { key = k; number = c.moved_from-moved.result.number } in e) c.key-2.ensures.is ∙ moved in
    mended_by r c.separate_at.new.region c.cut_at.new.region c.add_at.new.region a.j a.at a.left a.right f g h false false q.far_left q.far_right q.apart u.parent_node u.left_node u.right_node u.parent_is u.left_is u.right_is
    (inl (
      refl,
      record {
        more = omega (arith, end, q.more);
        parent_is = ap (λ k. separated a.j k u.parent_node) key;
        left_is = ap (λ i. gives i u.left_node) last;
        right_is = ap (λ e. gains 0 e u.right_node) entry;
      },
    ))
    c.separate_at.ensures c.cut_at.ensures c.add_at.ensures
