use Rattle.std.proofs.Common.{◌≡◌, ℕ, suc, ◌+◌, ◌-◌, ◌≤◌, ◌∷◌, length, Some, sym, ap, subst, ◌∙◌, arith}
use Rattle.regions.specs.Contents.{live_at}
use Rattle.regions.specs.declared.place.Place.{Place}
use Rattle.tree_nodes.specs.Nodes.{child_at}
use Rattle.regions.specs.Places.{link_to}
use Rattle.index_tree.specs.Store.{nodes_of}
use Rattle.index_tree.specs.Trees.{leaves_below, places_of}
use Rattle.index_tree.specs.inside.Climbs.{HasSubtree, IsBefore, IsLast, child_in}
use Rattle.index_tree.proofs.Climbed.{above_it, child_led, first_child, in_front, no_parent, parent_led, read_of, there_of}
use Rattle.place_lemmas.proofs.Places.{some_is, some_none}
use Rattle.index_tree.proofs.Positions.{node_at}
use Rattle.index_tree.proofs.roots.Roots.+leaf_before.Goals as goal
use Rattle.index_tree.proofs.SearchNode.{is_live}

pub parent_at-requires : goal.parent_at-requires
parent_at-requires t c =
    let r = c.requires in let nodes = nodes_of (live_at c.args.region.now) in let s = c.args.self.now.tree in let at = c.args.at in let level = c.args.level in
    let n = node_at nodes level r.above at r.sub in
    r.holds at (is_live (live_at c.args.region.now) at n.node n.is)

pub returns-in_err-parent : goal.returns-in_err-parent
returns-in_err-parent t c =
    let r = c.requires in let nodes = nodes_of (live_at c.args.region.now) in let s = c.args.self.now.tree in let at = c.args.at in let level = c.args.level in
    let n = node_at nodes level r.above at r.sub in
    λ leaf rest e.
    subst (λ o. IsBefore nodes (places_of nodes s) leaf o) (sym c.from_residual.ensures)
    (no_parent nodes s r.tree at level r.above r.among r.sub (parent_led nodes at n.node c.parent_at.result c.led_to.result n.is c.parent_at.ensures.parent c.led_to.ensures ∙ c.in_err-parent.was) leaf rest e)

pub child_index-i-requires-clause-node : goal.child_index-i-requires-clause-node
child_index-i-requires-clause-node m c =
    let r = c.requires in let nodes = nodes_of (live_at c.args.region.now) in let t = c.args.self.now.tree in let at = c.args.at in let level = c.args.level in
    let n = node_at nodes level r.above at r.sub in
    let parent = c.in_ok-parent.parent in
    let u = above_it nodes t r.tree at parent level r.above r.among r.sub (parent_led nodes at n.node c.parent_at.result c.led_to.result n.is c.parent_at.ensures.parent c.led_to.ensures ∙ c.in_ok-parent.was) in
    r.holds parent (is_live (live_at c.args.region.now) parent u.node u.is)

pub child_index-i-requires-clause-there : goal.child_index-i-requires-clause-there
child_index-i-requires-clause-there m c =
    let r = c.requires in let nodes = nodes_of (live_at c.args.region.now) in let t = c.args.self.now.tree in let at = c.args.at in let level = c.args.level in
    let n = node_at nodes level r.above at r.sub in
    let parent = c.in_ok-parent.parent in
    let u = above_it nodes t r.tree at parent level r.above r.among r.sub (parent_led nodes at n.node c.parent_at.result c.led_to.result n.is c.parent_at.ensures.parent c.led_to.ensures ∙ c.in_ok-parent.was) in
    there_of (λ node. (k : ℕ) × (k ≤ length node.entries) × (child_at node k ≡ c.link_to.result)) nodes parent u.node u.is (u.index, u.within, u.child ∙ sym c.link_to.ensures)

pub overflow_add-level : goal.overflow_add-level
overflow_add-level m c =
    let r = c.requires in let nodes = nodes_of (live_at c.args.region.now) in let t = c.args.self.now.tree in let at = c.args.at in let level = c.args.level in
    let n = node_at nodes level r.above at r.sub in
    let parent = c.in_ok-parent.parent in
    let u = above_it nodes t r.tree at parent level r.above r.among r.sub (parent_led nodes at n.node c.parent_at.result c.led_to.result n.is c.parent_at.ensures.parent c.led_to.ensures ∙ c.in_ok-parent.was) in
    let high = node_at nodes (suc level) u.higher parent u.sub in let small = high.stands.level in let is = high.level_is in
    omega (arith, small, is)

pub leaf_before-requires : goal.leaf_before-requires
leaf_before-requires m c =
    let r = c.requires in let nodes = nodes_of (live_at c.args.region.now) in let t = c.args.self.now.tree in let at = c.args.at in let level = c.args.level in
    let n = node_at nodes level r.above at r.sub in
    let parent = c.in_ok-parent.parent in
    let u = above_it nodes t r.tree at parent level r.above r.among r.sub (parent_led nodes at n.node c.parent_at.result c.led_to.result n.is c.parent_at.ensures.parent c.led_to.ensures ∙ c.in_ok-parent.was) in
    let short = u.short in (
      omega (arith, short),
      record { holds = r.holds; tree = r.tree; among = u.among; above = u.higher; sub = subst (λ l. HasSubtree nodes l u.higher parent) {x = suc level} {y = level + 1} (omega arith) u.sub },
    )

pub returns-then-i-eq0 : goal.returns-then-i-eq0
returns-then-i-eq0 m c = λ leaf rest e.
    (let r = c.requires in let nodes = nodes_of (live_at c.args.region.now) in let t = c.args.self.now.tree in let at = c.args.at in let level = c.args.level in
    let n = node_at nodes level r.above at r.sub in
    let parent = c.in_ok-parent.parent in
    let u = above_it nodes t r.tree at parent level r.above r.among r.sub (parent_led nodes at n.node c.parent_at.result c.led_to.result n.is c.parent_at.ensures.parent c.led_to.ensures ∙ c.in_ok-parent.was) in
    let link : child_in (nodes parent) 0 ≡ link_to (Some at) =
    ap (λ o. child_in o 0) u.is
    ∙ (ap (λ k. child_at u.node k) (sym c.if-i-eq0.true) ∙ (read_of (λ node. child_at node c.child_index-i.result ≡ c.link_to.result) nodes parent u.node u.is c.child_index-i.ensures.child ∙ c.link_to.ensures)) in
    let w = first_child nodes t r.tree at parent level r.above u r.sub link leaf rest e in
    c.leaf_before.ensures leaf w.0 (subst (λ l. leaves_below nodes l (Some parent) ≡ leaf ∷ w.0) {x = suc level} {y = level + 1} (omega arith) w.1))

pub child_of-requires-clause-node : goal.child_of-requires-clause-node
child_of-requires-clause-node m c =
    let r = c.requires in let nodes = nodes_of (live_at c.args.region.now) in let t = c.args.self.now.tree in let at = c.args.at in let level = c.args.level in
    let n = node_at nodes level r.above at r.sub in
    let parent = c.in_ok-parent.parent in
    let u = above_it nodes t r.tree at parent level r.above r.among r.sub (parent_led nodes at n.node c.parent_at.result c.led_to.result n.is c.parent_at.ensures.parent c.led_to.ensures ∙ c.in_ok-parent.was) in
    r.holds parent (is_live (live_at c.args.region.now) parent u.node u.is)

pub child_of-requires-clause-i : goal.child_of-requires-clause-i
child_of-requires-clause-i m c =
    let r = c.requires in let nodes = nodes_of (live_at c.args.region.now) in let t = c.args.self.now.tree in let at = c.args.at in let level = c.args.level in
    let n = node_at nodes level r.above at r.sub in
    let parent = c.in_ok-parent.parent in
    let u = above_it nodes t r.tree at parent level r.above r.among r.sub (parent_led nodes at n.node c.parent_at.result c.led_to.result n.is c.parent_at.ensures.parent c.led_to.ensures ∙ c.in_ok-parent.was) in
    let i = c.child_index-i.result in
    let up : i ≡ suc (i - 1) = (let some = c.if-i-eq0.false in omega (arith, some)) in
    let within : suc (i - 1) ≤ length u.node.entries = subst (λ k. k ≤ length u.node.entries) up (read_of (λ node. i ≤ length node.entries) nodes parent u.node u.is c.child_index-i.ensures.within) in
    let link : child_at u.node (suc (i - 1)) ≡ link_to (Some at) =
    ap (λ k. child_at u.node k) (sym up) ∙ (read_of (λ node. child_at node i ≡ c.link_to.result) nodes parent u.node u.is c.child_index-i.ensures.child ∙ c.link_to.ensures) in
    let f = in_front nodes t r.tree at parent level (i - 1) r.above u r.sub u.node u.is within link in
    let few = u.few in omega (arith, within, few)

pub returns-in_err-before : goal.returns-in_err-before
returns-in_err-before m c =
    let r = c.requires in let nodes = nodes_of (live_at c.args.region.now) in let t = c.args.self.now.tree in let at = c.args.at in let level = c.args.level in
    let n = node_at nodes level r.above at r.sub in
    let parent = c.in_ok-parent.parent in
    let u = above_it nodes t r.tree at parent level r.above r.among r.sub (parent_led nodes at n.node c.parent_at.result c.led_to.result n.is c.parent_at.ensures.parent c.led_to.ensures ∙ c.in_ok-parent.was) in
    let i = c.child_index-i.result in
    let up : i ≡ suc (i - 1) = (let some = c.if-i-eq0.false in omega (arith, some)) in
    let within : suc (i - 1) ≤ length u.node.entries = subst (λ k. k ≤ length u.node.entries) up (read_of (λ node. i ≤ length node.entries) nodes parent u.node u.is c.child_index-i.ensures.within) in
    let link : child_at u.node (suc (i - 1)) ≡ link_to (Some at) =
    ap (λ k. child_at u.node k) (sym up) ∙ (read_of (λ node. child_at node i ≡ c.link_to.result) nodes parent u.node u.is c.child_index-i.ensures.child ∙ c.link_to.ensures) in
    let f = in_front nodes t r.tree at parent level (i - 1) r.above u r.sub u.node u.is within link in
    some_none f.leads (child_led nodes parent u.node (i - 1) c.child_of.result c.led_to-2.result u.is c.child_of.ensures c.led_to-2.ensures ∙ c.in_err-before.was)

pub last_leaf-requires-clause-below : goal.last_leaf-requires-clause-below
last_leaf-requires-clause-below m c =
    let r = c.requires in let nodes = nodes_of (live_at c.args.region.now) in let t = c.args.self.now.tree in let at = c.args.at in let level = c.args.level in
    let n = node_at nodes level r.above at r.sub in
    let parent = c.in_ok-parent.parent in
    let u = above_it nodes t r.tree at parent level r.above r.among r.sub (parent_led nodes at n.node c.parent_at.result c.led_to.result n.is c.parent_at.ensures.parent c.led_to.ensures ∙ c.in_ok-parent.was) in
    let i = c.child_index-i.result in
    let up : i ≡ suc (i - 1) = (let some = c.if-i-eq0.false in omega (arith, some)) in
    let within : suc (i - 1) ≤ length u.node.entries = subst (λ k. k ≤ length u.node.entries) up (read_of (λ node. i ≤ length node.entries) nodes parent u.node u.is c.child_index-i.ensures.within) in
    let link : child_at u.node (suc (i - 1)) ≡ link_to (Some at) =
    ap (λ k. child_at u.node k) (sym up) ∙ (read_of (λ node. child_at node i ≡ c.link_to.result) nodes parent u.node u.is c.child_index-i.ensures.child ∙ c.link_to.ensures) in
    let f = in_front nodes t r.tree at parent level (i - 1) r.above u r.sub u.node u.is within link in
    let here : f.place ≡ c.in_ok-before.before =
    some_is (sym f.leads ∙ (child_led nodes parent u.node (i - 1) c.child_of.result c.led_to-2.result u.is c.child_of.ensures c.led_to-2.ensures ∙ c.in_ok-before.was)) in
    (Some parent, subst (λ (q : Place). HasSubtree nodes level (Some parent) q) here f.sub)

pub returns : goal.returns
returns m c =
    let r = c.requires in let nodes = nodes_of (live_at c.args.region.now) in let t = c.args.self.now.tree in let at = c.args.at in let level = c.args.level in
    let n = node_at nodes level r.above at r.sub in
    let parent = c.in_ok-parent.parent in
    let u = above_it nodes t r.tree at parent level r.above r.among r.sub (parent_led nodes at n.node c.parent_at.result c.led_to.result n.is c.parent_at.ensures.parent c.led_to.ensures ∙ c.in_ok-parent.was) in
    let i = c.child_index-i.result in
    let up : i ≡ suc (i - 1) = (let some = c.if-i-eq0.false in omega (arith, some)) in
    let within : suc (i - 1) ≤ length u.node.entries = subst (λ k. k ≤ length u.node.entries) up (read_of (λ node. i ≤ length node.entries) nodes parent u.node u.is c.child_index-i.ensures.within) in
    let link : child_at u.node (suc (i - 1)) ≡ link_to (Some at) =
    ap (λ k. child_at u.node k) (sym up) ∙ (read_of (λ node. child_at node i ≡ c.link_to.result) nodes parent u.node u.is c.child_index-i.ensures.child ∙ c.link_to.ensures) in
    let f = in_front nodes t r.tree at parent level (i - 1) r.above u r.sub u.node u.is within link in
    let here : f.place ≡ c.in_ok-before.before =
    some_is (sym f.leads ∙ (child_led nodes parent u.node (i - 1) c.child_of.result c.led_to-2.result u.is c.child_of.ensures c.led_to-2.ensures ∙ c.in_ok-before.was)) in
    λ leaf rest e. f.before leaf rest c.last_leaf.result e (subst (λ (q : Place). IsLast nodes level q c.last_leaf.result) (sym here) c.last_leaf.ensures)
