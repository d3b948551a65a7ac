use Rattle.std.proofs.Common.{◌≤◌, ◌+◌, Option, None, drop, subst, arith}
use Rattle.regions.specs.Contents.{live_at}
use Rattle.regions.specs.declared.place.Place.{Place}
use Rattle.index_tree.specs.Inserts.{Grows}
use Rattle.index_tree.specs.Splits.{branches_of}
use Rattle.index_tree.specs.Store.{nodes_of}
use Rattle.index_tree.specs.declared.split.Split.{Split}
use Rattle.index_tree.proofs.Planted.{behind_held, behind_room, higher_planted, higher_touched, root_held, root_room, same_planted, top_held, top_not_behind, top_not_root}
use Rattle.index_tree.proofs.planting.insert_at_root.Goals as goal

abbrev none_place : Place
none_place = record { segment = 0; at = 0 }

pub returns-in_default-clause-planted : goal.returns-in_default-clause-planted
returns-in_default-clause-planted c = same_planted c.args.region.now c.args.level c.args.root c.args.spares.now c.args.key.now c.args.number c.requires.room c.requires.whole c.insert_below-below.new.region c.insert_below-below.result.left c.insert_below-below.ensures.touched
    (subst (λ (o : Option Split). Grows (nodes_of (live_at c.args.region.now)) (nodes_of (live_at c.insert_below-below.new.region)) c.args.level None None None c.args.root (branches_of o) c.args.key.now c.args.number (drop c.insert_below-below.result.left c.args.spares.now)) c.in_default.is
    (c.insert_below-below.ensures.grows None None None c.requires.whole tt tt))

pub raise-requires-clause-node : goal.raise-requires-clause-node
raise-requires-clause-node c = let left_bounds = c.insert_below-below.ensures.left in let many = c.requires.spares in let some_left : 1 ≤ c.insert_below-below.result.left = omega
    (arith, left_bounds.0, left_bounds.1, many) in top_held c.args.region.now c.args.level c.args.root c.args.spares.now c.args.key.now c.args.number c.requires.room c.requires.whole c.insert_below-below.new.region c.insert_below-below.result.left c.insert_below-below.ensures.touched
    c.in-Some.split (subst (λ (o : Option Split). Grows (nodes_of (live_at c.args.region.now)) (nodes_of (live_at c.insert_below-below.new.region)) c.args.level None None None c.args.root (branches_of o) c.args.key.now c.args.number
    (drop c.insert_below-below.result.left c.args.spares.now)) c.in-Some.is (c.insert_below-below.ensures.grows None None None c.requires.whole tt tt)) none_place some_left c.insert_below-below.ensures.left.0

pub raise-requires-clause-root : goal.raise-requires-clause-root
raise-requires-clause-root c = let left_bounds = c.insert_below-below.ensures.left in let many = c.requires.spares in let some_left : 1 ≤ c.insert_below-below.result.left = omega
    (arith, left_bounds.0, left_bounds.1, many) in root_held c.args.region.now c.args.level c.args.root c.args.spares.now c.args.key.now c.args.number c.requires.room c.requires.whole c.insert_below-below.new.region c.insert_below-below.result.left c.insert_below-below.ensures.touched
    c.in-Some.split (subst (λ (o : Option Split). Grows (nodes_of (live_at c.args.region.now)) (nodes_of (live_at c.insert_below-below.new.region)) c.args.level None None None c.args.root (branches_of o) c.args.key.now c.args.number
    (drop c.insert_below-below.result.left c.args.spares.now)) c.in-Some.is (c.insert_below-below.ensures.grows None None None c.requires.whole tt tt)) none_place some_left c.insert_below-below.ensures.left.0

pub raise-requires-clause-behind : goal.raise-requires-clause-behind
raise-requires-clause-behind c = let left_bounds = c.insert_below-below.ensures.left in let many = c.requires.spares in let some_left : 1 ≤ c.insert_below-below.result.left = omega
    (arith, left_bounds.0, left_bounds.1, many) in behind_held c.args.region.now c.args.level c.args.root c.args.spares.now c.args.key.now c.args.number c.requires.room c.requires.whole c.insert_below-below.new.region c.insert_below-below.result.left c.insert_below-below.ensures.touched
    c.in-Some.split (subst (λ (o : Option Split). Grows (nodes_of (live_at c.args.region.now)) (nodes_of (live_at c.insert_below-below.new.region)) c.args.level None None None c.args.root (branches_of o) c.args.key.now c.args.number
    (drop c.insert_below-below.result.left c.args.spares.now)) c.in-Some.is (c.insert_below-below.ensures.grows None None None c.requires.whole tt tt)) none_place some_left c.insert_below-below.ensures.left.0

pub raise-requires-clause-not_root : goal.raise-requires-clause-not_root
raise-requires-clause-not_root c = let left_bounds = c.insert_below-below.ensures.left in let many = c.requires.spares in let some_left : 1 ≤ c.insert_below-below.result.left = omega
    (arith, left_bounds.0, left_bounds.1, many) in top_not_root c.args.region.now c.args.level c.args.root c.args.spares.now c.args.key.now c.args.number c.requires.room c.requires.whole c.insert_below-below.new.region c.insert_below-below.result.left c.insert_below-below.ensures.touched
    c.in-Some.split (subst (λ (o : Option Split). Grows (nodes_of (live_at c.args.region.now)) (nodes_of (live_at c.insert_below-below.new.region)) c.args.level None None None c.args.root (branches_of o) c.args.key.now c.args.number
    (drop c.insert_below-below.result.left c.args.spares.now)) c.in-Some.is (c.insert_below-below.ensures.grows None None None c.requires.whole tt tt)) none_place some_left c.insert_below-below.ensures.left.0

pub raise-requires-clause-not_behind : goal.raise-requires-clause-not_behind
raise-requires-clause-not_behind c = let left_bounds = c.insert_below-below.ensures.left in let many = c.requires.spares in let some_left : 1 ≤ c.insert_below-below.result.left = omega
    (arith, left_bounds.0, left_bounds.1, many) in top_not_behind c.args.region.now c.args.level c.args.root c.args.spares.now c.args.key.now c.args.number c.requires.room c.requires.whole c.insert_below-below.new.region c.insert_below-below.result.left c.insert_below-below.ensures.touched
    c.in-Some.split (subst (λ (o : Option Split). Grows (nodes_of (live_at c.args.region.now)) (nodes_of (live_at c.insert_below-below.new.region)) c.args.level None None None c.args.root (branches_of o) c.args.key.now c.args.number
    (drop c.insert_below-below.result.left c.args.spares.now)) c.in-Some.is (c.insert_below-below.ensures.grows None None None c.requires.whole tt tt)) none_place some_left c.insert_below-below.ensures.left.0

pub raise-requires-clause-root_room : goal.raise-requires-clause-root_room
raise-requires-clause-root_room c = let left_bounds = c.insert_below-below.ensures.left in let many = c.requires.spares in let some_left : 1 ≤ c.insert_below-below.result.left = omega
    (arith, left_bounds.0, left_bounds.1, many) in root_room c.args.region.now c.args.level c.args.root c.args.spares.now c.args.key.now c.args.number c.requires.room c.requires.whole c.insert_below-below.new.region c.insert_below-below.result.left c.insert_below-below.ensures.touched
    c.in-Some.split (subst (λ (o : Option Split). Grows (nodes_of (live_at c.args.region.now)) (nodes_of (live_at c.insert_below-below.new.region)) c.args.level None None None c.args.root (branches_of o) c.args.key.now c.args.number
    (drop c.insert_below-below.result.left c.args.spares.now)) c.in-Some.is (c.insert_below-below.ensures.grows None None None c.requires.whole tt tt)) none_place some_left c.insert_below-below.ensures.left.0

pub raise-requires-clause-behind_room : goal.raise-requires-clause-behind_room
raise-requires-clause-behind_room c = let left_bounds = c.insert_below-below.ensures.left in let many = c.requires.spares in let some_left : 1 ≤ c.insert_below-below.result.left = omega
    (arith, left_bounds.0, left_bounds.1, many) in behind_room c.args.region.now c.args.level c.args.root c.args.spares.now c.args.key.now c.args.number c.requires.room c.requires.whole c.insert_below-below.new.region c.insert_below-below.result.left c.insert_below-below.ensures.touched
    c.in-Some.split (subst (λ (o : Option Split). Grows (nodes_of (live_at c.args.region.now)) (nodes_of (live_at c.insert_below-below.new.region)) c.args.level None None None c.args.root (branches_of o) c.args.key.now c.args.number
    (drop c.insert_below-below.result.left c.args.spares.now)) c.in-Some.is (c.insert_below-below.ensures.grows None None None c.requires.whole tt tt)) none_place some_left c.insert_below-below.ensures.left.0

pub returns-clause-planted : goal.returns-clause-planted
returns-clause-planted c = let left_bounds = c.insert_below-below.ensures.left in let many = c.requires.spares in let some_left : 1 ≤ c.insert_below-below.result.left = omega
    (arith, left_bounds.0, left_bounds.1, many) in higher_planted c.args.region.now c.args.level c.args.root c.args.spares.now c.args.key.now c.args.number c.requires.room c.requires.whole c.insert_below-below.new.region c.insert_below-below.result.left c.insert_below-below.ensures.touched
    c.in-Some.split (subst (λ (o : Option Split). Grows (nodes_of (live_at c.args.region.now)) (nodes_of (live_at c.insert_below-below.new.region)) c.args.level None None None c.args.root (branches_of o) c.args.key.now c.args.number
    (drop c.insert_below-below.result.left c.args.spares.now)) c.in-Some.is (c.insert_below-below.ensures.grows None None None c.requires.whole tt tt)) none_place some_left c.insert_below-below.ensures.left.0 c.raise.new.region
    (c.args.level + 1) (omega arith) (let l = c.requires.level in omega arith) c.raise.ensures.top c.raise.ensures.adopts

pub returns-clause-touched : goal.returns-clause-touched
returns-clause-touched c = let left_bounds = c.insert_below-below.ensures.left in let many = c.requires.spares in let some_left : 1 ≤ c.insert_below-below.result.left = omega
    (arith, left_bounds.0, left_bounds.1, many) in higher_touched c.args.region.now c.args.level c.args.root c.args.spares.now c.args.key.now c.args.number c.requires.room c.requires.whole c.insert_below-below.new.region c.insert_below-below.result.left c.insert_below-below.ensures.touched
    c.in-Some.split (subst (λ (o : Option Split). Grows (nodes_of (live_at c.args.region.now)) (nodes_of (live_at c.insert_below-below.new.region)) c.args.level None None None c.args.root (branches_of o) c.args.key.now c.args.number
    (drop c.insert_below-below.result.left c.args.spares.now)) c.in-Some.is (c.insert_below-below.ensures.grows None None None c.requires.whole tt tt)) none_place some_left c.insert_below-below.ensures.left.0 c.raise.new.region
    (c.args.level + 1) (omega arith) (let l = c.requires.level in omega arith) c.raise.ensures.top c.raise.ensures.adopts
