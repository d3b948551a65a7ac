use Rattle.std.proofs.Common.{◌≡◌, suc, ◌-◌, ◌<◌, List, ◌++◌, sym, ap, subst, ◌∙◌, arith, nat_lt}
use Rattle.std.specs.Prelude.{[], ◌∷◌}
use borrow.Author.Tests.{lt-ltb}
use Rattle.regions.specs.Contents.{live_at}
use Rattle.regions.specs.declared.place.Place.{Place}
use Rattle.index_tree.specs.Store.{HoldsNode, nodes_of}
use Rattle.index_tree.specs.Mended.{AreUneven, IsMendedAt}
use Rattle.index_tree.specs.Removes.{Loses}
use Rattle.index_tree.proofs.SearchNode.{is_live}
use Rattle.index_tree.proofs.RemoveShort.{opened}
use Rattle.index_tree.proofs.RemoveLeaves.{freed_by}
use Rattle.index_tree.proofs.RemoveCalls.{adopted_hold, adopts_there, are_uneven, call_even, call_leaves, call_left_kids, call_one, call_right_kids, is_left, is_right, kids_there}
use Rattle.index_tree.proofs.RemoveCalls.{left_far, left_of_pair, mended_there, pair_far, parent_there, right_far, right_of_pair, three_hold, three_there}
use Rattle.index_tree.proofs.removing.mend_child.Goals as goal
use Rattle.index_tree.proofs.Touches.{same_then}

pub child_of-requires-clause-node : goal.child_of-requires-clause-node
child_of-requires-clause-node c =
    let r1 = c.args.region.now in let sh = c.requires.short.1.1.1.1.1.1 in
    c.requires.nodes c.args.at (is_live (live_at r1) c.args.at (opened sh).node (parent_there r1 sh))

pub child_of-requires-2-clause-node : goal.child_of-requires-2-clause-node
child_of-requires-2-clause-node c =
    let r1 = c.args.region.now in let sh = c.requires.short.1.1.1.1.1.1 in
    c.requires.nodes c.args.at (is_live (live_at r1) c.args.at (opened sh).node (parent_there r1 sh))

pub mend_pair-joined-requires-clause-at : goal.mend_pair-joined-requires-clause-at
mend_pair-joined-requires-clause-at c =
    let r1 = c.args.region.now in let sh = c.requires.short.1.1.1.1.1.1 in
    c.requires.nodes c.args.at (is_live (live_at r1) c.args.at (opened sh).node (parent_there r1 sh))

pub mend_pair-joined-requires-clause-left : goal.mend_pair-joined-requires-clause-left
mend_pair-joined-requires-clause-left c =
    let r1 = c.args.region.now in let sh = c.requires.short.1.1.1.1.1.1 in
    let u = are_uneven r1 sh in
    let l : c.place_of-left.result ≡ left_of_pair r1 sh = is_left r1 sh c.saturating_sub-j.result c.child_of.result c.place_of-left.result c.saturating_sub-j.ensures c.place_of-left.ensures c.child_of.ensures in
    subst (λ (q : Place). HoldsNode (live_at r1) q) (sym l) (c.requires.nodes (left_of_pair r1 sh) (is_live (live_at r1) (left_of_pair r1 sh) u.left_node u.left_is))

pub mend_pair-joined-requires-clause-right : goal.mend_pair-joined-requires-clause-right
mend_pair-joined-requires-clause-right c =
    let r1 = c.args.region.now in let sh = c.requires.short.1.1.1.1.1.1 in
    let u = are_uneven r1 sh in
    let r : c.place_of-right.result ≡ right_of_pair r1 sh = is_right r1 sh c.saturating_sub-j.result c.child_of-2.result c.place_of-right.result c.saturating_sub-j.ensures c.place_of-right.ensures c.child_of-2.ensures in
    subst (λ (q : Place). HoldsNode (live_at r1) q) (sym r) (c.requires.nodes (right_of_pair r1 sh) (is_live (live_at r1) (right_of_pair r1 sh) u.right_node u.right_is))

pub mend_pair-joined-requires-clause-far_left : goal.mend_pair-joined-requires-clause-far_left
mend_pair-joined-requires-clause-far_left c =
    let r1 = c.args.region.now in let sh = c.requires.short.1.1.1.1.1.1 in
    let l : c.place_of-left.result ≡ left_of_pair r1 sh = is_left r1 sh c.saturating_sub-j.result c.child_of.result c.place_of-left.result c.saturating_sub-j.ensures c.place_of-left.ensures c.child_of.ensures in
    λ e. left_far r1 sh (sym l ∙ e)

pub mend_pair-joined-requires-clause-far_right : goal.mend_pair-joined-requires-clause-far_right
mend_pair-joined-requires-clause-far_right c =
    let r1 = c.args.region.now in let sh = c.requires.short.1.1.1.1.1.1 in
    let r : c.place_of-right.result ≡ right_of_pair r1 sh = is_right r1 sh c.saturating_sub-j.result c.child_of-2.result c.place_of-right.result c.saturating_sub-j.ensures c.place_of-right.ensures c.child_of-2.ensures in
    λ e. right_far r1 sh (sym r ∙ e)

pub mend_pair-joined-requires-clause-apart : goal.mend_pair-joined-requires-clause-apart
mend_pair-joined-requires-clause-apart c =
    let r1 = c.args.region.now in let sh = c.requires.short.1.1.1.1.1.1 in
    let l : c.place_of-left.result ≡ left_of_pair r1 sh = is_left r1 sh c.saturating_sub-j.result c.child_of.result c.place_of-left.result c.saturating_sub-j.ensures c.place_of-left.ensures c.child_of.ensures in
    let r : c.place_of-right.result ≡ right_of_pair r1 sh = is_right r1 sh c.saturating_sub-j.result c.child_of-2.result c.place_of-right.result c.saturating_sub-j.ensures c.place_of-right.ensures c.child_of-2.ensures in
    λ e. pair_far r1 sh (sym r ∙ (e ∙ l))

pub mend_pair-joined-requires-clause-uneven : goal.mend_pair-joined-requires-clause-uneven
mend_pair-joined-requires-clause-uneven c =
    let r1 = c.args.region.now in let sh = c.requires.short.1.1.1.1.1.1 in
    let l : c.place_of-left.result ≡ left_of_pair r1 sh = is_left r1 sh c.saturating_sub-j.result c.child_of.result c.place_of-left.result c.saturating_sub-j.ensures c.place_of-left.ensures c.child_of.ensures in
    let r : c.place_of-right.result ≡ right_of_pair r1 sh = is_right r1 sh c.saturating_sub-j.result c.child_of-2.result c.place_of-right.result c.saturating_sub-j.ensures c.place_of-right.ensures c.child_of-2.ensures in
    subst (λ n. AreUneven (nodes_of (live_at r1)) n c.args.at c.place_of-left.result c.place_of-right.result) (sym c.saturating_sub-j.ensures)
    (subst (λ (q : Place). AreUneven (nodes_of (live_at r1)) (c.args.i - 1) c.args.at c.place_of-left.result q) (sym r)
    (subst (λ (q : Place). AreUneven (nodes_of (live_at r1)) (c.args.i - 1) c.args.at q (right_of_pair r1 sh)) (sym l) (are_uneven r1 sh)))

pub returns-then-level-eq0-clause-mended : goal.returns-then-level-eq0-clause-mended
returns-then-level-eq0-clause-mended c = λ nodes parent low high key freed sh.
    (let r1 = c.args.region.now in let r2 = c.mend_pair-joined.new.region in let joined = c.mend_pair-joined.result in let j = c.saturating_sub-j.result in
    let l : c.place_of-left.result ≡ left_of_pair r1 sh = is_left r1 sh c.saturating_sub-j.result c.child_of.result c.place_of-left.result c.saturating_sub-j.ensures c.place_of-left.ensures c.child_of.ensures in
    let r : c.place_of-right.result ≡ right_of_pair r1 sh = is_right r1 sh c.saturating_sub-j.result c.child_of-2.result c.place_of-right.result c.saturating_sub-j.ensures c.place_of-right.ensures c.child_of-2.ensures in
    let m = mended_there r1 sh (nat_lt 0 c.args.level) joined j c.place_of-left.result c.place_of-right.result (nodes_of (live_at r2)) c.saturating_sub-j.ensures l r c.mend_pair-joined.ensures.mended in
    let t = three_there r1 sh r2 c.place_of-left.result c.place_of-right.result l r c.mend_pair-joined.ensures.three in
    subst (λ (ps : List Place). Loses nodes (nodes_of (live_at r2)) (suc c.args.level) parent low high c.args.at key (ps ++ freed))
    (ap (λ (q : Place). freed_by joined q) (sym r) ∙ sym c.freed_if.ensures)
    (call_leaves r1 r2 joined sh c.if-level-eq0.true m t))

pub returns-then-level-eq0-clause-nodes : goal.returns-then-level-eq0-clause-nodes
returns-then-level-eq0-clause-nodes c =
    three_hold c.args.region.now c.mend_pair-joined.new.region c.args.at c.place_of-left.result c.place_of-right.result c.mend_pair-joined.ensures.three c.requires.nodes

pub adopt_all-requires-clause-kids : goal.adopt_all-requires-clause-kids
adopt_all-requires-clause-kids c =
    let r1 = c.args.region.now in let r2 = c.mend_pair-joined.new.region in let joined = c.mend_pair-joined.result in let j = c.saturating_sub-j.result in let sh = c.requires.short.1.1.1.1.1.1 in
    let l : c.place_of-left.result ≡ left_of_pair r1 sh = is_left r1 sh c.saturating_sub-j.result c.child_of.result c.place_of-left.result c.saturating_sub-j.ensures c.place_of-left.ensures c.child_of.ensures in
    let r : c.place_of-right.result ≡ right_of_pair r1 sh = is_right r1 sh c.saturating_sub-j.result c.child_of-2.result c.place_of-right.result c.saturating_sub-j.ensures c.place_of-right.ensures c.child_of-2.ensures in
    let above : 0 < c.args.level = (let some = c.if-level-eq0.false in omega (arith, some)) in
    let m = subst (λ b. IsMendedAt b joined (c.args.i - 1) c.args.at (left_of_pair r1 sh) (right_of_pair r1 sh) (nodes_of (live_at r1)) (nodes_of (live_at r2))) (lt-ltb 0 c.args.level above)
    (mended_there r1 sh (nat_lt 0 c.args.level) joined j c.place_of-left.result c.place_of-right.result (nodes_of (live_at r2)) c.saturating_sub-j.ensures l r c.mend_pair-joined.ensures.mended) in
    let t = three_there r1 sh r2 c.place_of-left.result c.place_of-right.result l r c.mend_pair-joined.ensures.three in
    kids_there r2 c.place_of-left.result (left_of_pair r1 sh) m.new_left l m.left_is (call_left_kids r1 sh above c.requires.nodes r2 joined m t)

pub returns-then-joined-clause-mended : goal.returns-then-joined-clause-mended
returns-then-joined-clause-mended c = λ nodes parent low high key freed sh.
    (let r1 = c.args.region.now in let r2 = c.mend_pair-joined.new.region in let joined = c.mend_pair-joined.result in let j = c.saturating_sub-j.result in
    let l : c.place_of-left.result ≡ left_of_pair r1 sh = is_left r1 sh c.saturating_sub-j.result c.child_of.result c.place_of-left.result c.saturating_sub-j.ensures c.place_of-left.ensures c.child_of.ensures in
    let r : c.place_of-right.result ≡ right_of_pair r1 sh = is_right r1 sh c.saturating_sub-j.result c.child_of-2.result c.place_of-right.result c.saturating_sub-j.ensures c.place_of-right.ensures c.child_of-2.ensures in
    let above : 0 < c.args.level = (let some = c.if-level-eq0.false in omega (arith, some)) in
    let m = subst (λ b. IsMendedAt b joined (c.args.i - 1) c.args.at (left_of_pair r1 sh) (right_of_pair r1 sh) (nodes_of (live_at r1)) (nodes_of (live_at r2))) (lt-ltb 0 c.args.level above)
    (mended_there r1 sh (nat_lt 0 c.args.level) joined j c.place_of-left.result c.place_of-right.result (nodes_of (live_at r2)) c.saturating_sub-j.ensures l r c.mend_pair-joined.ensures.mended) in
    let t = three_there r1 sh r2 c.place_of-left.result c.place_of-right.result l r c.mend_pair-joined.ensures.three in
    let d = adopts_there r2 c.adopt_all.new.region c.place_of-left.result (left_of_pair r1 sh) m.new_left l m.left_is c.adopt_all.ensures in
    subst (λ (ps : List Place). Loses nodes (nodes_of (live_at c.adopt_all.new.region)) (suc c.args.level) parent low high c.args.at key (ps ++ freed))
    (ap (λ b. freed_by b (right_of_pair r1 sh)) c.if-joined.true ∙ ap (λ (q : Place). q ∷ []) (sym r))
    (call_one r1 sh above c.requires.nodes r2 joined m t c.adopt_all.new.region d c.if-joined.true))

pub returns-then-joined-clause-nodes : goal.returns-then-joined-clause-nodes
returns-then-joined-clause-nodes c =
    let r1 = c.args.region.now in let r2 = c.mend_pair-joined.new.region in let joined = c.mend_pair-joined.result in let j = c.saturating_sub-j.result in let sh = c.requires.short.1.1.1.1.1.1 in
    let l : c.place_of-left.result ≡ left_of_pair r1 sh = is_left r1 sh c.saturating_sub-j.result c.child_of.result c.place_of-left.result c.saturating_sub-j.ensures c.place_of-left.ensures c.child_of.ensures in
    let r : c.place_of-right.result ≡ right_of_pair r1 sh = is_right r1 sh c.saturating_sub-j.result c.child_of-2.result c.place_of-right.result c.saturating_sub-j.ensures c.place_of-right.ensures c.child_of-2.ensures in
    let above : 0 < c.args.level = (let some = c.if-level-eq0.false in omega (arith, some)) in
    let m = subst (λ b. IsMendedAt b joined (c.args.i - 1) c.args.at (left_of_pair r1 sh) (right_of_pair r1 sh) (nodes_of (live_at r1)) (nodes_of (live_at r2))) (lt-ltb 0 c.args.level above)
    (mended_there r1 sh (nat_lt 0 c.args.level) joined j c.place_of-left.result c.place_of-right.result (nodes_of (live_at r2)) c.saturating_sub-j.ensures l r c.mend_pair-joined.ensures.mended) in
    let d = adopts_there r2 c.adopt_all.new.region c.place_of-left.result (left_of_pair r1 sh) m.new_left l m.left_is c.adopt_all.ensures in
    adopted_hold r2 c.adopt_all.new.region (left_of_pair r1 sh) m.new_left d (three_hold r1 r2 c.args.at c.place_of-left.result c.place_of-right.result c.mend_pair-joined.ensures.three c.requires.nodes)

pub adopt_all-requires-2-clause-kids : goal.adopt_all-requires-2-clause-kids
adopt_all-requires-2-clause-kids c =
    let r1 = c.args.region.now in let r2 = c.mend_pair-joined.new.region in let joined = c.mend_pair-joined.result in let j = c.saturating_sub-j.result in let sh = c.requires.short.1.1.1.1.1.1 in
    let l : c.place_of-left.result ≡ left_of_pair r1 sh = is_left r1 sh c.saturating_sub-j.result c.child_of.result c.place_of-left.result c.saturating_sub-j.ensures c.place_of-left.ensures c.child_of.ensures in
    let r : c.place_of-right.result ≡ right_of_pair r1 sh = is_right r1 sh c.saturating_sub-j.result c.child_of-2.result c.place_of-right.result c.saturating_sub-j.ensures c.place_of-right.ensures c.child_of-2.ensures in
    let above : 0 < c.args.level = (let some = c.if-level-eq0.false in omega (arith, some)) in
    let m = subst (λ b. IsMendedAt b joined (c.args.i - 1) c.args.at (left_of_pair r1 sh) (right_of_pair r1 sh) (nodes_of (live_at r1)) (nodes_of (live_at r2))) (lt-ltb 0 c.args.level above)
    (mended_there r1 sh (nat_lt 0 c.args.level) joined j c.place_of-left.result c.place_of-right.result (nodes_of (live_at r2)) c.saturating_sub-j.ensures l r c.mend_pair-joined.ensures.mended) in
    let t = three_there r1 sh r2 c.place_of-left.result c.place_of-right.result l r c.mend_pair-joined.ensures.three in
    let d = adopts_there r2 c.adopt_all.new.region c.place_of-left.result (left_of_pair r1 sh) m.new_left l m.left_is c.adopt_all.ensures in
    let k = call_right_kids r1 sh above c.requires.nodes r2 joined m t c.adopt_all.new.region d c.if-joined.false in
    kids_there c.adopt_all.new.region c.place_of-right.result (right_of_pair r1 sh) m.new_right r k.is k

pub returns-clause-mended : goal.returns-clause-mended
returns-clause-mended c = λ nodes parent low high key freed sh.
    (let r1 = c.args.region.now in let r2 = c.mend_pair-joined.new.region in let joined = c.mend_pair-joined.result in let j = c.saturating_sub-j.result in
    let l : c.place_of-left.result ≡ left_of_pair r1 sh = is_left r1 sh c.saturating_sub-j.result c.child_of.result c.place_of-left.result c.saturating_sub-j.ensures c.place_of-left.ensures c.child_of.ensures in
    let r : c.place_of-right.result ≡ right_of_pair r1 sh = is_right r1 sh c.saturating_sub-j.result c.child_of-2.result c.place_of-right.result c.saturating_sub-j.ensures c.place_of-right.ensures c.child_of-2.ensures in
    let above : 0 < c.args.level = (let some = c.if-level-eq0.false in omega (arith, some)) in
    let m = subst (λ b. IsMendedAt b joined (c.args.i - 1) c.args.at (left_of_pair r1 sh) (right_of_pair r1 sh) (nodes_of (live_at r1)) (nodes_of (live_at r2))) (lt-ltb 0 c.args.level above)
    (mended_there r1 sh (nat_lt 0 c.args.level) joined j c.place_of-left.result c.place_of-right.result (nodes_of (live_at r2)) c.saturating_sub-j.ensures l r c.mend_pair-joined.ensures.mended) in
    let t = three_there r1 sh r2 c.place_of-left.result c.place_of-right.result l r c.mend_pair-joined.ensures.three in
    let d = adopts_there r2 c.adopt_all.new.region c.place_of-left.result (left_of_pair r1 sh) m.new_left l m.left_is c.adopt_all.ensures in
    let k = call_right_kids r1 sh above c.requires.nodes r2 joined m t c.adopt_all.new.region d c.if-joined.false in
    let f = adopts_there c.adopt_all.new.region c.adopt_all-2.new.region c.place_of-right.result (right_of_pair r1 sh) m.new_right r k.is c.adopt_all-2.ensures in
    subst (λ (ps : List Place). Loses nodes (nodes_of (live_at c.adopt_all-2.new.region)) (suc c.args.level) parent low high c.args.at key (ps ++ freed))
    (ap (λ b. freed_by b (right_of_pair r1 sh)) c.if-joined.false)
    (call_even r1 sh above c.requires.nodes r2 joined m t c.adopt_all.new.region d c.adopt_all-2.new.region f c.if-joined.false))

pub returns-clause-nodes : goal.returns-clause-nodes
returns-clause-nodes c =
    let r1 = c.args.region.now in let r2 = c.mend_pair-joined.new.region in let joined = c.mend_pair-joined.result in let j = c.saturating_sub-j.result in let sh = c.requires.short.1.1.1.1.1.1 in
    let l : c.place_of-left.result ≡ left_of_pair r1 sh = is_left r1 sh c.saturating_sub-j.result c.child_of.result c.place_of-left.result c.saturating_sub-j.ensures c.place_of-left.ensures c.child_of.ensures in
    let r : c.place_of-right.result ≡ right_of_pair r1 sh = is_right r1 sh c.saturating_sub-j.result c.child_of-2.result c.place_of-right.result c.saturating_sub-j.ensures c.place_of-right.ensures c.child_of-2.ensures in
    let above : 0 < c.args.level = (let some = c.if-level-eq0.false in omega (arith, some)) in
    let m = subst (λ b. IsMendedAt b joined (c.args.i - 1) c.args.at (left_of_pair r1 sh) (right_of_pair r1 sh) (nodes_of (live_at r1)) (nodes_of (live_at r2))) (lt-ltb 0 c.args.level above)
    (mended_there r1 sh (nat_lt 0 c.args.level) joined j c.place_of-left.result c.place_of-right.result (nodes_of (live_at r2)) c.saturating_sub-j.ensures l r c.mend_pair-joined.ensures.mended) in
    let t = three_there r1 sh r2 c.place_of-left.result c.place_of-right.result l r c.mend_pair-joined.ensures.three in
    let d = adopts_there r2 c.adopt_all.new.region c.place_of-left.result (left_of_pair r1 sh) m.new_left l m.left_is c.adopt_all.ensures in
    let k = call_right_kids r1 sh above c.requires.nodes r2 joined m t c.adopt_all.new.region d c.if-joined.false in
    let f = adopts_there c.adopt_all.new.region c.adopt_all-2.new.region c.place_of-right.result (right_of_pair r1 sh) m.new_right r k.is c.adopt_all-2.ensures in
    adopted_hold c.adopt_all.new.region c.adopt_all-2.new.region (right_of_pair r1 sh) m.new_right f
    (adopted_hold r2 c.adopt_all.new.region (left_of_pair r1 sh) m.new_left d (three_hold r1 r2 c.args.at c.place_of-left.result c.place_of-right.result c.mend_pair-joined.ensures.three c.requires.nodes))

pub returns-clause-same : goal.returns-clause-same
returns-clause-same c =
    let r1 = c.args.region.now in let r2 = c.mend_pair-joined.new.region in let joined = c.mend_pair-joined.result in let j = c.saturating_sub-j.result in let sh = c.requires.short.1.1.1.1.1.1 in
    let l : c.place_of-left.result ≡ left_of_pair r1 sh = is_left r1 sh c.saturating_sub-j.result c.child_of.result c.place_of-left.result c.saturating_sub-j.ensures c.place_of-left.ensures c.child_of.ensures in
    let r : c.place_of-right.result ≡ right_of_pair r1 sh = is_right r1 sh c.saturating_sub-j.result c.child_of-2.result c.place_of-right.result c.saturating_sub-j.ensures c.place_of-right.ensures c.child_of-2.ensures in
    let above : 0 < c.args.level = (let some = c.if-level-eq0.false in omega (arith, some)) in
    let m = subst (λ b. IsMendedAt b joined (c.args.i - 1) c.args.at (left_of_pair r1 sh) (right_of_pair r1 sh) (nodes_of (live_at r1)) (nodes_of (live_at r2))) (lt-ltb 0 c.args.level above)
    (mended_there r1 sh (nat_lt 0 c.args.level) joined j c.place_of-left.result c.place_of-right.result (nodes_of (live_at r2)) c.saturating_sub-j.ensures l r c.mend_pair-joined.ensures.mended) in
    let t = three_there r1 sh r2 c.place_of-left.result c.place_of-right.result l r c.mend_pair-joined.ensures.three in
    let d = adopts_there r2 c.adopt_all.new.region c.place_of-left.result (left_of_pair r1 sh) m.new_left l m.left_is c.adopt_all.ensures in
    let k = call_right_kids r1 sh above c.requires.nodes r2 joined m t c.adopt_all.new.region d c.if-joined.false in
    let f = adopts_there c.adopt_all.new.region c.adopt_all-2.new.region c.place_of-right.result (right_of_pair r1 sh) m.new_right r k.is c.adopt_all-2.ensures in
    same_then r1 c.adopt_all.new.region c.adopt_all-2.new.region (same_then r1 r2 c.adopt_all.new.region c.mend_pair-joined.ensures.three.same d.same) f.same

pub returns-then-joined-clause-same : goal.returns-then-joined-clause-same
returns-then-joined-clause-same c =
    let r1 = c.args.region.now in let r2 = c.mend_pair-joined.new.region in let joined = c.mend_pair-joined.result in let j = c.saturating_sub-j.result in let sh = c.requires.short.1.1.1.1.1.1 in
    let l : c.place_of-left.result ≡ left_of_pair r1 sh = is_left r1 sh c.saturating_sub-j.result c.child_of.result c.place_of-left.result c.saturating_sub-j.ensures c.place_of-left.ensures c.child_of.ensures in
    let r : c.place_of-right.result ≡ right_of_pair r1 sh = is_right r1 sh c.saturating_sub-j.result c.child_of-2.result c.place_of-right.result c.saturating_sub-j.ensures c.place_of-right.ensures c.child_of-2.ensures in
    let above : 0 < c.args.level = (let some = c.if-level-eq0.false in omega (arith, some)) in
    let m = subst (λ b. IsMendedAt b joined (c.args.i - 1) c.args.at (left_of_pair r1 sh) (right_of_pair r1 sh) (nodes_of (live_at r1)) (nodes_of (live_at r2))) (lt-ltb 0 c.args.level above)
    (mended_there r1 sh (nat_lt 0 c.args.level) joined j c.place_of-left.result c.place_of-right.result (nodes_of (live_at r2)) c.saturating_sub-j.ensures l r c.mend_pair-joined.ensures.mended) in
    let d = adopts_there r2 c.adopt_all.new.region c.place_of-left.result (left_of_pair r1 sh) m.new_left l m.left_is c.adopt_all.ensures in
    same_then r1 r2 c.adopt_all.new.region c.mend_pair-joined.ensures.three.same d.same
