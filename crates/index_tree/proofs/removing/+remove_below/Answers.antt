use Rattle.std.proofs.Common.{◌≡◌, ℕ, suc, ◌-◌, ◌<◌, List, [], ◌++◌, ◌∷◌, length, Option, Some, sym, ap, subst, ◌∙◌, append_assoc, append-nil, arith}
use Rattle.std.specs.Prelude.{IsSome}
use Rattle.std.specs.Option.{option_to_list}
use Rattle.regions.specs.Contents.{live_at}
use Rattle.regions.specs.declared.place.Place.{Place}
use Rattle.tree_nodes.specs.Nodes.{TreeNode}
use Rattle.index_tree.specs.Indexes.{number_of}
use Rattle.index_tree.specs.Store.{nodes_of}
use Rattle.index_tree.specs.Trees.{entries_of}
use Rattle.index_tree.specs.Removes.{Loses}
use Rattle.index_tree.proofs.SearchNode.{is_live}
use Rattle.index_tree.proofs.RemoveKept.{loses_turned}
use Rattle.index_tree.proofs.RemoveSteps.{trunk_node}
use Rattle.index_tree.proofs.RemoveBelow.{is_there, leaf_found, leaf_held, leaf_lost, step_of}
use Rattle.index_tree.proofs.removing.+remove_below.Goals as goal
use Rattle.index_tree.proofs.Touches.{live_same, value_of}

pub returns-then-level-eq0-clause-number : goal.returns-then-level-eq0-clause-number
returns-then-level-eq0-clause-number t c =
    c.remove_in.ensures.number ∙ leaf_held (nodes_of (live_at c.args.region.now)) c.args.level c.args.at c.args.key.now c.if-level-eq0.true

pub returns-then-level-eq0-clause-lost : goal.returns-then-level-eq0-clause-lost
returns-then-level-eq0-clause-lost t c = λ some parent low high tree from up.
    (let r1 = c.args.region.now in let p = c.args.at in let key = c.args.key.now in let level = c.args.level in let nodes = nodes_of (live_at r1) in
    let taken = c.remove_in.ensures.taken some in let w = taken.2 in let new = c.remove_in.new.region in
    let there : IsSome (number_of key (entries_of (nodes p))) = subst (λ (o : Option ℕ). IsSome o) c.remove_in.ensures.number some in
    let f = leaf_found nodes level parent low high p key taken.0 c.if-level-eq0.true tree there taken.1 in
    ([], (sym (append-nil c.args.freed.now), leaf_lost nodes (nodes_of (live_at new)) level parent low high p key taken.0 c.if-level-eq0.true tree f w.here (λ r far. live_same r1 new r (w.others r far)))))

pub remove_below-requires : goal.remove_below-requires
remove_below-requires t c =
    let r1 = c.args.region.now in let b = c.requires.below in let p = c.args.at in let key = c.args.key.now in let level = c.args.level in let nodes = nodes_of (live_at r1) in
    let some : 0 < level = (let x = c.if-level-eq0.false in omega (arith, x)) in
    let s = step_of nodes level b.parent b.low b.high p key c.way_at-i.result some b.tree b.from b.up b.once c.way_at-i.ensures c.child_of.result c.child_of.ensures c.place_of-child.result c.place_of-child.ensures in
    let few = c.requires.room in let less = c.decreases in (omega (arith, less, some), (s.can, (c.requires.nodes, omega (arith, few))))

pub returns-in_err-number-clause-number : goal.returns-in_err-number-clause-number
returns-in_err-number-clause-number t c =
    let r1 = c.args.region.now in let b = c.requires.below in let p = c.args.at in let key = c.args.key.now in let level = c.args.level in let nodes = nodes_of (live_at r1) in
    let some : 0 < level = (let x = c.if-level-eq0.false in omega (arith, x)) in
    let s = step_of nodes level b.parent b.low b.high p key c.way_at-i.result some b.tree b.from b.up b.once c.way_at-i.ensures c.child_of.result c.child_of.ensures c.place_of-child.result c.place_of-child.ensures in
    c.from_residual.ensures ∙ (sym c.in_err-number.was ∙ (c.remove_below.ensures.number ∙ sym s.number))

pub count_at-requires : goal.count_at-requires
count_at-requires t c =
    let r1 = c.args.region.now in let b = c.requires.below in let p = c.args.at in let key = c.args.key.now in let level = c.args.level in let nodes = nodes_of (live_at r1) in
    let some : 0 < level = (let x = c.if-level-eq0.false in omega (arith, x)) in
    let s = step_of nodes level b.parent b.low b.high p key c.way_at-i.result some b.tree b.from b.up b.once c.way_at-i.ensures c.child_of.result c.child_of.ensures c.place_of-child.result c.place_of-child.ensures in
    let res = c.remove_below.ensures.lost (is_there c.remove_below.result c.in_ok-number.number c.in_ok-number.was) (Some p) s.lo s.hi s.sub s.from s.up in let mid = nodes_of (live_at c.remove_below.new.region) in
    let n = trunk_node mid (level - 1) (Some p) s.lo s.hi c.place_of-child.result res.1.1.trunk in
    c.remove_below.ensures.nodes c.place_of-child.result (is_live (live_at c.remove_below.new.region) c.place_of-child.result n.0 n.1)

pub returns-then-count_at-ge-HALF-clause-number : goal.returns-then-count_at-ge-HALF-clause-number
returns-then-count_at-ge-HALF-clause-number t c =
    let r1 = c.args.region.now in let b = c.requires.below in let p = c.args.at in let key = c.args.key.now in let level = c.args.level in let nodes = nodes_of (live_at r1) in
    let some : 0 < level = (let x = c.if-level-eq0.false in omega (arith, x)) in
    let s = step_of nodes level b.parent b.low b.high p key c.way_at-i.result some b.tree b.from b.up b.once c.way_at-i.ensures c.child_of.result c.child_of.ensures c.place_of-child.result c.place_of-child.ensures in
    sym c.in_ok-number.was ∙ (c.remove_below.ensures.number ∙ sym s.number)

pub returns-then-count_at-ge-HALF-clause-lost : goal.returns-then-count_at-ge-HALF-clause-lost
returns-then-count_at-ge-HALF-clause-lost t c = λ _ parent low high tree from up.
    (let r1 = c.args.region.now in let b = c.requires.below in let p = c.args.at in let key = c.args.key.now in let level = c.args.level in let nodes = nodes_of (live_at r1) in
    let some : 0 < level = (let x = c.if-level-eq0.false in omega (arith, x)) in
    let s = step_of nodes level parent low high p key c.way_at-i.result some tree from up b.once c.way_at-i.ensures c.child_of.result c.child_of.ensures c.place_of-child.result c.place_of-child.ensures in
    let res = c.remove_below.ensures.lost (is_there c.remove_below.result c.in_ok-number.number c.in_ok-number.was) (Some p) s.lo s.hi s.sub s.from s.up in let mid = nodes_of (live_at c.remove_below.new.region) in
    let n = trunk_node mid (level - 1) (Some p) s.lo s.hi c.place_of-child.result res.1.1.trunk in
    let count = value_of (λ node. c.count_at.result ≡ length node.entries) (mid c.place_of-child.result) n.0 n.1 c.count_at.ensures in
    let size : length (entries_of (mid c.place_of-child.result)) ≡ length n.0.entries = ap (λ (x : Option TreeNode). length (entries_of x)) n.1 in
    let many = c.if-count_at-ge-HALF.true in (res.0, (res.1.0, s.kept mid res.0 res.1.1 (omega (arith, many, count, size)))))

pub mend_child-requires-clause-short : goal.mend_child-requires-clause-short
mend_child-requires-clause-short t c =
    let r1 = c.args.region.now in let b = c.requires.below in let p = c.args.at in let key = c.args.key.now in let level = c.args.level in let nodes = nodes_of (live_at r1) in
    let some : 0 < level = (let x = c.if-level-eq0.false in omega (arith, x)) in
    let s = step_of nodes level b.parent b.low b.high p key c.way_at-i.result some b.tree b.from b.up b.once c.way_at-i.ensures c.child_of.result c.child_of.ensures c.place_of-child.result c.place_of-child.ensures in
    let res = c.remove_below.ensures.lost (is_there c.remove_below.result c.in_ok-number.number c.in_ok-number.was) (Some p) s.lo s.hi s.sub s.from s.up in let mid = nodes_of (live_at c.remove_below.new.region) in
    let n = trunk_node mid (level - 1) (Some p) s.lo s.hi c.place_of-child.result res.1.1.trunk in
    let count = value_of (λ node. c.count_at.result ≡ length node.entries) (mid c.place_of-child.result) n.0 n.1 c.count_at.ensures in
    let size : length (entries_of (mid c.place_of-child.result)) ≡ length n.0.entries = ap (λ (x : Option TreeNode). length (entries_of x)) n.1 in
    let few = c.if-count_at-ge-HALF.false in (nodes, (b.parent, (b.low, (b.high, (key, (res.0, s.short mid res.0 res.1.1 (omega (arith, few, count, size))))))))

pub returns-in-Some-clause-number : goal.returns-in-Some-clause-number
returns-in-Some-clause-number t c =
    let r1 = c.args.region.now in let b = c.requires.below in let p = c.args.at in let key = c.args.key.now in let level = c.args.level in let nodes = nodes_of (live_at r1) in
    let some : 0 < level = (let x = c.if-level-eq0.false in omega (arith, x)) in
    let s = step_of nodes level b.parent b.low b.high p key c.way_at-i.result some b.tree b.from b.up b.once c.way_at-i.ensures c.child_of.result c.child_of.ensures c.place_of-child.result c.place_of-child.ensures in
    sym c.in_ok-number.was ∙ (c.remove_below.ensures.number ∙ sym s.number)

pub returns-in-Some-clause-lost : goal.returns-in-Some-clause-lost
returns-in-Some-clause-lost t c = λ _ parent low high tree from up.
    (let r1 = c.args.region.now in let b = c.requires.below in let p = c.args.at in let key = c.args.key.now in let level = c.args.level in let nodes = nodes_of (live_at r1) in
    let some : 0 < level = (let x = c.if-level-eq0.false in omega (arith, x)) in
    let s = step_of nodes level parent low high p key c.way_at-i.result some tree from up b.once c.way_at-i.ensures c.child_of.result c.child_of.ensures c.place_of-child.result c.place_of-child.ensures in
    let res = c.remove_below.ensures.lost (is_there c.remove_below.result c.in_ok-number.number c.in_ok-number.was) (Some p) s.lo s.hi s.sub s.from s.up in let mid = nodes_of (live_at c.remove_below.new.region) in
    let n = trunk_node mid (level - 1) (Some p) s.lo s.hi c.place_of-child.result res.1.1.trunk in
    let count = value_of (λ node. c.count_at.result ≡ length node.entries) (mid c.place_of-child.result) n.0 n.1 c.count_at.ensures in
    let size : length (entries_of (mid c.place_of-child.result)) ≡ length n.0.entries = ap (λ (x : Option TreeNode). length (entries_of x)) n.1 in
    let few = c.if-count_at-ge-HALF.false in let new = nodes_of (live_at c.mend_child.new.region) in
    let m = c.mend_child.ensures.mended nodes parent low high key res.0 (s.short mid res.0 res.1.1 (omega (arith, few, count, size))) in
    let l = subst (λ n. Loses nodes new n parent low high p key (c.in-Some.free ∷ res.0)) (sym s.level_is) (subst (λ (o : Option Place). Loses nodes new (suc (level - 1)) parent low high p key (option_to_list o ++ res.0)) c.in-Some.is m) in (
      res.0 ++ c.in-Some.free ∷ [],
      (
        c.push.ensures ∙ (ap (λ (ps : List Place). ps ++ c.in-Some.free ∷ []) res.1.0 ∙ append_assoc c.args.freed.now res.0 (c.in-Some.free ∷ [])),
        loses_turned nodes new level parent low high p key (c.in-Some.free ∷ []) res.0 l,
      ),
    ))

pub returns-in_default-clause-number : goal.returns-in_default-clause-number
returns-in_default-clause-number t c =
    let r1 = c.args.region.now in let b = c.requires.below in let p = c.args.at in let key = c.args.key.now in let level = c.args.level in let nodes = nodes_of (live_at r1) in
    let some : 0 < level = (let x = c.if-level-eq0.false in omega (arith, x)) in
    let s = step_of nodes level b.parent b.low b.high p key c.way_at-i.result some b.tree b.from b.up b.once c.way_at-i.ensures c.child_of.result c.child_of.ensures c.place_of-child.result c.place_of-child.ensures in
    sym c.in_ok-number.was ∙ (c.remove_below.ensures.number ∙ sym s.number)

pub returns-in_default-clause-lost : goal.returns-in_default-clause-lost
returns-in_default-clause-lost t c = λ _ parent low high tree from up.
    (let r1 = c.args.region.now in let b = c.requires.below in let p = c.args.at in let key = c.args.key.now in let level = c.args.level in let nodes = nodes_of (live_at r1) in
    let some : 0 < level = (let x = c.if-level-eq0.false in omega (arith, x)) in
    let s = step_of nodes level parent low high p key c.way_at-i.result some tree from up b.once c.way_at-i.ensures c.child_of.result c.child_of.ensures c.place_of-child.result c.place_of-child.ensures in
    let res = c.remove_below.ensures.lost (is_there c.remove_below.result c.in_ok-number.number c.in_ok-number.was) (Some p) s.lo s.hi s.sub s.from s.up in let mid = nodes_of (live_at c.remove_below.new.region) in
    let n = trunk_node mid (level - 1) (Some p) s.lo s.hi c.place_of-child.result res.1.1.trunk in
    let count = value_of (λ node. c.count_at.result ≡ length node.entries) (mid c.place_of-child.result) n.0 n.1 c.count_at.ensures in
    let size : length (entries_of (mid c.place_of-child.result)) ≡ length n.0.entries = ap (λ (x : Option TreeNode). length (entries_of x)) n.1 in
    let few = c.if-count_at-ge-HALF.false in let new = nodes_of (live_at c.mend_child.new.region) in
    let m = c.mend_child.ensures.mended nodes parent low high key res.0 (s.short mid res.0 res.1.1 (omega (arith, few, count, size))) in
    let l = subst (λ n. Loses nodes new n parent low high p key res.0) (sym s.level_is) (subst (λ (o : Option Place). Loses nodes new (suc (level - 1)) parent low high p key (option_to_list o ++ res.0)) c.in_default.is m) in
    (res.0, (res.1.0, l)))
