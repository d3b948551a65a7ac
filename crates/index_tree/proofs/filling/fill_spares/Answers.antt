use Rattle.std.proofs.Common.{◌∙◌, arith}
use Rattle.index_tree.proofs.Filled.{filling_more, filling_none}
use Rattle.index_tree.proofs.filling.fill_spares.Goals as goal

pub loop-region-init : goal.loop-region-init
loop-region-init c = let q = c.requires in filling_none c.args.roots.now c.args.region.now c.args.wanted q.roster q.free q.room q.spares

pub add_spare-requires-clause-roster : goal.add_spare-requires-clause-roster
add_spare-requires-clause-roster c = c.loop-region.invariant.roster

pub add_spare-requires-clause-one : goal.add_spare-requires-clause-one
add_spare-requires-clause-one c = c.loop-region.invariant.segments.groups ∙ c.requires.one

pub add_spare-requires-clause-guards : goal.add_spare-requires-clause-guards
add_spare-requires-clause-guards c = c.loop-region.invariant.segments.guards 0 ∙ c.requires.guards

pub add_spare-requires-clause-held : goal.add_spare-requires-clause-held
add_spare-requires-clause-held c = let a = c.loop-region.invariant.segments.held in let b = c.requires.held in omega (arith, a, b)

pub add_spare-requires-clause-free : goal.add_spare-requires-clause-free
add_spare-requires-clause-free c = c.loop-region.invariant.free

pub add_spare-requires-clause-room : goal.add_spare-requires-clause-room
add_spare-requires-clause-room c =
    let a = c.loop-region.invariant.room in let n = c.spare_count.ensures.count in let s = c.loop-region-test.true in omega (arith, a, n, s)

pub add_spare-requires-clause-few : goal.add_spare-requires-clause-few
add_spare-requires-clause-few c = let n = c.spare_count.ensures.count in let s = c.loop-region-test.true in let most = c.requires.most in omega (arith, n, s, most)

pub loop-region-preserved : goal.loop-region-preserved
loop-region-preserved c =
    let e = c.add_spare.ensures in let n = c.spare_count.ensures.count in let s = c.loop-region-test.true in
    filling_more c.args.roots.now c.loop-region.roots c.add_spare.new.roots c.args.region.now c.loop-region.region c.add_spare.new.region c.args.wanted c.loop-region.invariant
    (omega (arith, n, s)) c.requires.most e.roster e.free e.segments e.index e.level e.rooted e.spares e.nodes e.live_total

pub loop-region-smaller : goal.loop-region-smaller
loop-region-smaller c = let n = c.spare_count.ensures.count in let s = c.loop-region-test.true in let more = c.add_spare.ensures.spares in omega (arith, n, s, more)

pub returns-clause-roster : goal.returns-clause-roster
returns-clause-roster c = c.loop-region.invariant.roster

pub returns-clause-index : goal.returns-clause-index
returns-clause-index c = c.loop-region.invariant.index

pub returns-clause-level : goal.returns-clause-level
returns-clause-level c = c.loop-region.invariant.level

pub returns-clause-rooted : goal.returns-clause-rooted
returns-clause-rooted c = c.loop-region.invariant.rooted

pub returns-clause-spares : goal.returns-clause-spares
returns-clause-spares c = c.loop-region.invariant.spare

pub returns-clause-enough : goal.returns-clause-enough
returns-clause-enough c = let n = c.spare_count.ensures.count in let s = c.loop-region-test.false in omega (arith, n, s)

pub returns-clause-nodes : goal.returns-clause-nodes
returns-clause-nodes c = c.loop-region.invariant.nodes

pub returns-clause-live_total : goal.returns-clause-live_total
returns-clause-live_total c = c.loop-region.invariant.total

pub returns-clause-free : goal.returns-clause-free
returns-clause-free c = c.loop-region.invariant.free

pub returns-clause-segments : goal.returns-clause-segments
returns-clause-segments c = c.loop-region.invariant.segments
