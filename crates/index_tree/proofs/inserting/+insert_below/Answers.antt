use Rattle.std.proofs.Common.{◌≡◌, ◌≢◌, ℕ, suc, ◌-◌, ◌≤◌, Option, drop, sym, subst, arith}
use Rattle.regions.specs.Contents.{live_at}
use Rattle.regions.specs.declared.place.Place.{Place}
use Rattle.index_tree.specs.Inserts.{Grows}
use Rattle.index_tree.specs.Splits.{branches_of}
use Rattle.index_tree.specs.Store.{nodes_of}
use Rattle.index_tree.specs.Trees.{IsSubtree}
use Rattle.index_tree.specs.declared.split.Split.{Split}
use Rattle.index_tree.proofs.InsertSteps as steps
use Rattle.index_tree.proofs.inserting.+insert_below.Goals as goal

abbrev none_place : Place
none_place = record { segment = 0; at = 0 }

deeper : (n : ℕ) → n ≢ 0 → n ≡ suc (n - 1)
deeper n some = omega arith

pub returns-then-level-eq0-clause-grows : goal.returns-then-level-eq0-clause-grows
returns-then-level-eq0-clause-grows t c = λ parent low high sub from up.
    subst (λ n. Grows (nodes_of (live_at c.args.region.now)) (nodes_of (live_at c.insert_into_leaf.new.region)) n parent low high c.args.at (branches_of c.insert_into_leaf.result.split) c.args.key.now c.args.number (drop c.insert_into_leaf.result.left c.args.spares.now))
    (sym c.if-level-eq0.true)
    (c.insert_into_leaf.ensures.grows parent low high (subst (λ n. IsSubtree (nodes_of (live_at c.args.region.now)) n parent low high c.args.at) c.if-level-eq0.true sub) from up)

pub way_at-i-requires-clause-node : goal.way_at-i-requires-clause-node
way_at-i-requires-clause-node t c = let deep : c.args.level ≡ suc (c.args.level - 1) = deeper c.args.level c.if-level-eq0.false in steps.holds_node c.args.region.now c.args.level (c.args.level - 1) deep c.args.at c.args.spares.now c.args.key.now c.args.number c.requires.room

pub way_at-i-requires-clause-rising : goal.way_at-i-requires-clause-rising
way_at-i-requires-clause-rising t c = let deep : c.args.level ≡ suc (c.args.level - 1) = deeper c.args.level c.if-level-eq0.false in steps.rising c.args.region.now c.args.level (c.args.level - 1) deep c.args.at c.args.spares.now c.args.key.now c.args.number c.requires.room

pub child_of-requires-clause-node : goal.child_of-requires-clause-node
child_of-requires-clause-node t c = let deep : c.args.level ≡ suc (c.args.level - 1) = deeper c.args.level c.if-level-eq0.false in steps.holds_node c.args.region.now c.args.level (c.args.level - 1) deep c.args.at c.args.spares.now c.args.key.now c.args.number c.requires.room

pub child_of-requires-clause-i : goal.child_of-requires-clause-i
child_of-requires-clause-i t c = let deep : c.args.level ≡ suc (c.args.level - 1) = deeper c.args.level c.if-level-eq0.false in steps.few_children c.args.region.now c.args.level
    (c.args.level - 1) deep c.args.at c.args.spares.now c.args.key.now c.args.number c.requires.room c.way_at-i.result c.way_at-i.ensures

pub insert_below-below-requires : goal.insert_below-below-requires
insert_below-below-requires t c = let deep : c.args.level ≡ suc (c.args.level - 1) = deeper c.args.level c.if-level-eq0.false in (
  let smaller = c.decreases in omega (arith, deep, smaller),
  (
    steps.room_below c.args.region.now c.args.level
        (c.args.level - 1) deep c.args.at c.args.spares.now c.args.key.now c.args.number c.requires.room c.way_at-i.result c.way_at-i.ensures c.child_of.result c.place_of-child.result c.child_of.ensures c.place_of-child.ensures,
    (c.requires.some_key, c.requires.short_key),
  ),
)

pub returns-in_default-clause-grows : goal.returns-in_default-clause-grows
returns-in_default-clause-grows t c = let deep : c.args.level ≡ suc (c.args.level - 1) = deeper c.args.level c.if-level-eq0.false in steps.kept_grows c.args.region.now c.args.level
    (c.args.level - 1) deep c.args.at c.args.spares.now c.args.key.now c.args.number c.requires.room c.way_at-i.result c.way_at-i.ensures c.child_of.result c.place_of-child.result c.child_of.ensures c.place_of-child.ensures c.insert_below-below.new.region c.insert_below-below.result.left
    (λ above l h s f u. subst (λ (o : Option Split). Grows (nodes_of (live_at c.args.region.now)) (nodes_of (live_at c.insert_below-below.new.region)) (c.args.level - 1) above l h c.place_of-child.result
    (branches_of o) c.args.key.now c.args.number (drop c.insert_below-below.result.left c.args.spares.now)) c.in_default.is (c.insert_below-below.ensures.grows above l h s f u)) c.insert_below-below.ensures.touched

pub returns-in_default-clause-touched : goal.returns-in_default-clause-touched
returns-in_default-clause-touched t c = let deep : c.args.level ≡ suc (c.args.level - 1) = deeper c.args.level c.if-level-eq0.false in steps.all_touched c.args.region.now c.args.level
    (c.args.level - 1) deep c.args.at c.args.spares.now c.args.key.now c.args.number c.requires.room c.way_at-i.result c.way_at-i.ensures c.child_of.result c.place_of-child.result c.child_of.ensures c.place_of-child.ensures c.insert_below-below.new.region
    (branches_of c.insert_below-below.result.split) c.insert_below-below.result.left c.insert_below-below.ensures.grows c.insert_below-below.ensures.touched

pub count_at-requires : goal.count_at-requires
count_at-requires t c = let deep : c.args.level ≡ suc (c.args.level - 1) = deeper c.args.level c.if-level-eq0.false in steps.holds_now c.args.region.now c.args.level
    (c.args.level - 1) deep c.args.at c.args.spares.now c.args.key.now c.args.number c.requires.room c.way_at-i.result c.way_at-i.ensures c.child_of.result c.place_of-child.result c.child_of.ensures c.place_of-child.ensures c.insert_below-below.new.region
    (branches_of c.insert_below-below.result.split) c.insert_below-below.result.left c.insert_below-below.ensures.grows c.insert_below-below.ensures.touched

pub widen-requires-clause-node : goal.widen-requires-clause-node
widen-requires-clause-node t c = let deep : c.args.level ≡ suc (c.args.level - 1) = deeper c.args.level c.if-level-eq0.false in steps.holds_now c.args.region.now c.args.level
    (c.args.level - 1) deep c.args.at c.args.spares.now c.args.key.now c.args.number c.requires.room c.way_at-i.result c.way_at-i.ensures c.child_of.result c.place_of-child.result c.child_of.ensures c.place_of-child.ensures c.insert_below-below.new.region
    (branches_of c.insert_below-below.result.split) c.insert_below-below.result.left c.insert_below-below.ensures.grows c.insert_below-below.ensures.touched

pub widen-requires-clause-i : goal.widen-requires-clause-i
widen-requires-clause-i t c = let deep : c.args.level ≡ suc (c.args.level - 1) = deeper c.args.level c.if-level-eq0.false in steps.spot_now c.args.region.now c.args.level
    (c.args.level - 1) deep c.args.at c.args.spares.now c.args.key.now c.args.number c.requires.room c.way_at-i.result c.way_at-i.ensures c.child_of.result c.place_of-child.result c.child_of.ensures c.place_of-child.ensures c.insert_below-below.new.region c.in-Some.split
    c.insert_below-below.result.left (λ above l h s f u. subst (λ (o : Option Split). Grows (nodes_of (live_at c.args.region.now)) (nodes_of (live_at c.insert_below-below.new.region)) (c.args.level - 1) above l h c.place_of-child.result
    (branches_of o) c.args.key.now c.args.number (drop c.insert_below-below.result.left c.args.spares.now)) c.in-Some.is (c.insert_below-below.ensures.grows above l h s f u)) c.insert_below-below.ensures.touched

pub returns-then-count_at-lt-MOST_ENTRIES-clause-grows : goal.returns-then-count_at-lt-MOST_ENTRIES-clause-grows
returns-then-count_at-lt-MOST_ENTRIES-clause-grows t c = let deep : c.args.level ≡ suc (c.args.level - 1) = deeper c.args.level c.if-level-eq0.false in steps.wide_grows c.args.region.now c.args.level
    (c.args.level - 1) deep c.args.at c.args.spares.now c.args.key.now c.args.number c.requires.room c.way_at-i.result c.way_at-i.ensures c.child_of.result c.place_of-child.result c.child_of.ensures c.place_of-child.ensures c.insert_below-below.new.region c.in-Some.split
    c.insert_below-below.result.left (λ above l h s f u. subst (λ (o : Option Split). Grows (nodes_of (live_at c.args.region.now)) (nodes_of (live_at c.insert_below-below.new.region)) (c.args.level - 1) above l h c.place_of-child.result (branches_of o) c.args.key.now c.args.number
    (drop c.insert_below-below.result.left c.args.spares.now)) c.in-Some.is (c.insert_below-below.ensures.grows above l h s f u)) c.insert_below-below.ensures.touched c.count_at.result c.count_at.ensures c.widen.new.region c.if-count_at-lt-MOST_ENTRIES.true c.widen.ensures

pub returns-then-count_at-lt-MOST_ENTRIES-clause-touched : goal.returns-then-count_at-lt-MOST_ENTRIES-clause-touched
returns-then-count_at-lt-MOST_ENTRIES-clause-touched t c = let deep : c.args.level ≡ suc (c.args.level - 1) = deeper c.args.level c.if-level-eq0.false in steps.wide_touched c.args.region.now c.args.level
    (c.args.level - 1) deep c.args.at c.args.spares.now c.args.key.now c.args.number c.requires.room c.way_at-i.result c.way_at-i.ensures c.child_of.result c.place_of-child.result c.child_of.ensures c.place_of-child.ensures c.insert_below-below.new.region c.in-Some.split
    c.insert_below-below.result.left (λ above l h s f u. subst (λ (o : Option Split). Grows (nodes_of (live_at c.args.region.now)) (nodes_of (live_at c.insert_below-below.new.region)) (c.args.level - 1) above l h c.place_of-child.result
    (branches_of o) c.args.key.now c.args.number (drop c.insert_below-below.result.left c.args.spares.now)) c.in-Some.is (c.insert_below-below.ensures.grows above l h s f u)) c.insert_below-below.ensures.touched c.count_at.result c.count_at.ensures c.widen.new.region c.widen.ensures

pub split_inner-middle-requires-clause-node : goal.split_inner-middle-requires-clause-node
split_inner-middle-requires-clause-node t c = let deep : c.args.level ≡ suc (c.args.level - 1) = deeper c.args.level c.if-level-eq0.false in steps.holds_now c.args.region.now c.args.level
    (c.args.level - 1) deep c.args.at c.args.spares.now c.args.key.now c.args.number c.requires.room c.way_at-i.result c.way_at-i.ensures c.child_of.result c.place_of-child.result c.child_of.ensures c.place_of-child.ensures c.insert_below-below.new.region
    (branches_of c.insert_below-below.result.split) c.insert_below-below.result.left c.insert_below-below.ensures.grows c.insert_below-below.ensures.touched

pub split_inner-middle-requires-clause-new : goal.split_inner-middle-requires-clause-new
split_inner-middle-requires-clause-new t c = let deep : c.args.level ≡ suc (c.args.level - 1) = deeper c.args.level c.if-level-eq0.false in let left_bounds = c.insert_below-below.ensures.left in let many = c.requires.room.many in let some_left : 1 ≤ c.insert_below-below.result.left = omega
    (arith, left_bounds.0, left_bounds.1, many, deep) in steps.new_held c.args.region.now c.args.level
    (c.args.level - 1) deep c.args.at c.args.spares.now c.args.key.now c.args.number c.requires.room c.way_at-i.result c.way_at-i.ensures c.child_of.result c.place_of-child.result c.child_of.ensures c.place_of-child.ensures c.insert_below-below.new.region c.in-Some.split
    c.insert_below-below.result.left (λ above l h s f u. subst (λ (o : Option Split). Grows (nodes_of (live_at c.args.region.now)) (nodes_of (live_at c.insert_below-below.new.region)) (c.args.level - 1) above l h c.place_of-child.result (branches_of o) c.args.key.now c.args.number
    (drop c.insert_below-below.result.left c.args.spares.now)) c.in-Some.is (c.insert_below-below.ensures.grows above l h s f u)) c.insert_below-below.ensures.touched c.count_at.result c.count_at.ensures none_place some_left c.insert_below-below.ensures.left.0 c.if-count_at-lt-MOST_ENTRIES.false

pub split_inner-middle-requires-clause-apart : goal.split_inner-middle-requires-clause-apart
split_inner-middle-requires-clause-apart t c = let deep : c.args.level ≡ suc (c.args.level - 1) = deeper c.args.level c.if-level-eq0.false in let left_bounds = c.insert_below-below.ensures.left in let many = c.requires.room.many in let some_left : 1 ≤ c.insert_below-below.result.left = omega
    (arith, left_bounds.0, left_bounds.1, many, deep) in steps.new_apart c.args.region.now c.args.level
    (c.args.level - 1) deep c.args.at c.args.spares.now c.args.key.now c.args.number c.requires.room c.way_at-i.result c.way_at-i.ensures c.child_of.result c.place_of-child.result c.child_of.ensures c.place_of-child.ensures c.insert_below-below.new.region c.in-Some.split
    c.insert_below-below.result.left (λ above l h s f u. subst (λ (o : Option Split). Grows (nodes_of (live_at c.args.region.now)) (nodes_of (live_at c.insert_below-below.new.region)) (c.args.level - 1) above l h c.place_of-child.result (branches_of o) c.args.key.now c.args.number
    (drop c.insert_below-below.result.left c.args.spares.now)) c.in-Some.is (c.insert_below-below.ensures.grows above l h s f u)) c.insert_below-below.ensures.touched c.count_at.result c.count_at.ensures none_place some_left c.insert_below-below.ensures.left.0 c.if-count_at-lt-MOST_ENTRIES.false

pub split_inner-middle-requires-clause-full : goal.split_inner-middle-requires-clause-full
split_inner-middle-requires-clause-full t c = let deep : c.args.level ≡ suc (c.args.level - 1) = deeper c.args.level c.if-level-eq0.false in let left_bounds = c.insert_below-below.ensures.left in let many = c.requires.room.many in let some_left : 1 ≤ c.insert_below-below.result.left = omega
    (arith, left_bounds.0, left_bounds.1, many, deep) in steps.full_is c.args.region.now c.args.level
    (c.args.level - 1) deep c.args.at c.args.spares.now c.args.key.now c.args.number c.requires.room c.way_at-i.result c.way_at-i.ensures c.child_of.result c.place_of-child.result c.child_of.ensures c.place_of-child.ensures c.insert_below-below.new.region c.in-Some.split
    c.insert_below-below.result.left (λ above l h s f u. subst (λ (o : Option Split). Grows (nodes_of (live_at c.args.region.now)) (nodes_of (live_at c.insert_below-below.new.region)) (c.args.level - 1) above l h c.place_of-child.result (branches_of o) c.args.key.now c.args.number
    (drop c.insert_below-below.result.left c.args.spares.now)) c.in-Some.is (c.insert_below-below.ensures.grows above l h s f u)) c.insert_below-below.ensures.touched c.count_at.result c.count_at.ensures none_place some_left c.insert_below-below.ensures.left.0 c.if-count_at-lt-MOST_ENTRIES.false

pub split_inner-middle-requires-clause-i : goal.split_inner-middle-requires-clause-i
split_inner-middle-requires-clause-i t c = let deep : c.args.level ≡ suc (c.args.level - 1) = deeper c.args.level c.if-level-eq0.false in let left_bounds = c.insert_below-below.ensures.left in let many = c.requires.room.many in let some_left : 1 ≤ c.insert_below-below.result.left = omega
    (arith, left_bounds.0, left_bounds.1, many, deep) in steps.i_short c.args.region.now c.args.level
    (c.args.level - 1) deep c.args.at c.args.spares.now c.args.key.now c.args.number c.requires.room c.way_at-i.result c.way_at-i.ensures c.child_of.result c.place_of-child.result c.child_of.ensures c.place_of-child.ensures c.insert_below-below.new.region c.in-Some.split
    c.insert_below-below.result.left (λ above l h s f u. subst (λ (o : Option Split). Grows (nodes_of (live_at c.args.region.now)) (nodes_of (live_at c.insert_below-below.new.region)) (c.args.level - 1) above l h c.place_of-child.result (branches_of o) c.args.key.now c.args.number
    (drop c.insert_below-below.result.left c.args.spares.now)) c.in-Some.is (c.insert_below-below.ensures.grows above l h s f u)) c.insert_below-below.ensures.touched c.count_at.result c.count_at.ensures none_place some_left c.insert_below-below.ensures.left.0 c.if-count_at-lt-MOST_ENTRIES.false

pub split_inner-middle-requires-clause-held : goal.split_inner-middle-requires-clause-held
split_inner-middle-requires-clause-held t c = let deep : c.args.level ≡ suc (c.args.level - 1) = deeper c.args.level c.if-level-eq0.false in let left_bounds = c.insert_below-below.ensures.left in let many = c.requires.room.many in let some_left : 1 ≤ c.insert_below-below.result.left = omega
    (arith, left_bounds.0, left_bounds.1, many, deep) in steps.upper_held c.args.region.now c.args.level
    (c.args.level - 1) deep c.args.at c.args.spares.now c.args.key.now c.args.number c.requires.room c.way_at-i.result c.way_at-i.ensures c.child_of.result c.place_of-child.result c.child_of.ensures c.place_of-child.ensures c.insert_below-below.new.region c.in-Some.split
    c.insert_below-below.result.left (λ above l h s f u. subst (λ (o : Option Split). Grows (nodes_of (live_at c.args.region.now)) (nodes_of (live_at c.insert_below-below.new.region)) (c.args.level - 1) above l h c.place_of-child.result (branches_of o) c.args.key.now c.args.number
    (drop c.insert_below-below.result.left c.args.spares.now)) c.in-Some.is (c.insert_below-below.ensures.grows above l h s f u)) c.insert_below-below.ensures.touched c.count_at.result c.count_at.ensures none_place some_left c.insert_below-below.ensures.left.0 c.if-count_at-lt-MOST_ENTRIES.false

pub split_inner-middle-requires-clause-not_at : goal.split_inner-middle-requires-clause-not_at
split_inner-middle-requires-clause-not_at t c = let deep : c.args.level ≡ suc (c.args.level - 1) = deeper c.args.level c.if-level-eq0.false in let left_bounds = c.insert_below-below.ensures.left in let many = c.requires.room.many in let some_left : 1 ≤ c.insert_below-below.result.left = omega
    (arith, left_bounds.0, left_bounds.1, many, deep) in steps.upper_not_p c.args.region.now c.args.level
    (c.args.level - 1) deep c.args.at c.args.spares.now c.args.key.now c.args.number c.requires.room c.way_at-i.result c.way_at-i.ensures c.child_of.result c.place_of-child.result c.child_of.ensures c.place_of-child.ensures c.insert_below-below.new.region c.in-Some.split
    c.insert_below-below.result.left (λ above l h s f u. subst (λ (o : Option Split). Grows (nodes_of (live_at c.args.region.now)) (nodes_of (live_at c.insert_below-below.new.region)) (c.args.level - 1) above l h c.place_of-child.result (branches_of o) c.args.key.now c.args.number
    (drop c.insert_below-below.result.left c.args.spares.now)) c.in-Some.is (c.insert_below-below.ensures.grows above l h s f u)) c.insert_below-below.ensures.touched c.count_at.result c.count_at.ensures none_place some_left c.insert_below-below.ensures.left.0 c.if-count_at-lt-MOST_ENTRIES.false

pub split_inner-middle-requires-clause-not_new : goal.split_inner-middle-requires-clause-not_new
split_inner-middle-requires-clause-not_new t c = let deep : c.args.level ≡ suc (c.args.level - 1) = deeper c.args.level c.if-level-eq0.false in let left_bounds = c.insert_below-below.ensures.left in let many = c.requires.room.many in let some_left : 1 ≤ c.insert_below-below.result.left = omega
    (arith, left_bounds.0, left_bounds.1, many, deep) in steps.upper_not_new c.args.region.now c.args.level
    (c.args.level - 1) deep c.args.at c.args.spares.now c.args.key.now c.args.number c.requires.room c.way_at-i.result c.way_at-i.ensures c.child_of.result c.place_of-child.result c.child_of.ensures c.place_of-child.ensures c.insert_below-below.new.region c.in-Some.split
    c.insert_below-below.result.left (λ above l h s f u. subst (λ (o : Option Split). Grows (nodes_of (live_at c.args.region.now)) (nodes_of (live_at c.insert_below-below.new.region)) (c.args.level - 1) above l h c.place_of-child.result (branches_of o) c.args.key.now c.args.number
    (drop c.insert_below-below.result.left c.args.spares.now)) c.in-Some.is (c.insert_below-below.ensures.grows above l h s f u)) c.insert_below-below.ensures.touched c.count_at.result c.count_at.ensures none_place some_left c.insert_below-below.ensures.left.0 c.if-count_at-lt-MOST_ENTRIES.false

pub returns-clause-grows : goal.returns-clause-grows
returns-clause-grows t c = let deep : c.args.level ≡ suc (c.args.level - 1) = deeper c.args.level c.if-level-eq0.false in let left_bounds = c.insert_below-below.ensures.left in let many = c.requires.room.many in let some_left : 1 ≤ c.insert_below-below.result.left = omega
    (arith, left_bounds.0, left_bounds.1, many, deep) in steps.split_grows c.args.region.now c.args.level
    (c.args.level - 1) deep c.args.at c.args.spares.now c.args.key.now c.args.number c.requires.room c.way_at-i.result c.way_at-i.ensures c.child_of.result c.place_of-child.result c.child_of.ensures c.place_of-child.ensures c.insert_below-below.new.region c.in-Some.split
    c.insert_below-below.result.left (λ above l h s f u. subst (λ (o : Option Split). Grows (nodes_of (live_at c.args.region.now)) (nodes_of (live_at c.insert_below-below.new.region)) (c.args.level - 1) above l h c.place_of-child.result (branches_of o) c.args.key.now c.args.number
    (drop c.insert_below-below.result.left c.args.spares.now)) c.in-Some.is (c.insert_below-below.ensures.grows above l h s f u)) c.insert_below-below.ensures.touched c.count_at.result c.count_at.ensures
    none_place some_left c.insert_below-below.ensures.left.0 c.if-count_at-lt-MOST_ENTRIES.false c.split_inner-middle.new.region c.split_inner-middle.result c.split_inner-middle.ensures.cut c.split_inner-middle.ensures.adopts

pub returns-clause-touched : goal.returns-clause-touched
returns-clause-touched t c = let deep : c.args.level ≡ suc (c.args.level - 1) = deeper c.args.level c.if-level-eq0.false in let left_bounds = c.insert_below-below.ensures.left in let many = c.requires.room.many in let some_left : 1 ≤ c.insert_below-below.result.left = omega
    (arith, left_bounds.0, left_bounds.1, many, deep) in steps.split_touched c.args.region.now c.args.level
    (c.args.level - 1) deep c.args.at c.args.spares.now c.args.key.now c.args.number c.requires.room c.way_at-i.result c.way_at-i.ensures c.child_of.result c.place_of-child.result c.child_of.ensures c.place_of-child.ensures c.insert_below-below.new.region c.in-Some.split
    c.insert_below-below.result.left (λ above l h s f u. subst (λ (o : Option Split). Grows (nodes_of (live_at c.args.region.now)) (nodes_of (live_at c.insert_below-below.new.region)) (c.args.level - 1) above l h c.place_of-child.result (branches_of o) c.args.key.now c.args.number
    (drop c.insert_below-below.result.left c.args.spares.now)) c.in-Some.is (c.insert_below-below.ensures.grows above l h s f u)) c.insert_below-below.ensures.touched c.count_at.result c.count_at.ensures
    none_place some_left c.insert_below-below.ensures.left.0 c.if-count_at-lt-MOST_ENTRIES.false c.split_inner-middle.new.region c.split_inner-middle.result c.split_inner-middle.ensures.cut c.split_inner-middle.ensures.adopts
