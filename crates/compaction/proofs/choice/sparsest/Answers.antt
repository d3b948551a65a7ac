use Rattle.std.proofs.Common.{◌≤◌, arith}
use Rattle.regions.specs.Shapes.{group_count}
use Rattle.compaction.proofs.Chosen.{so-far-none, all-none, all-some}
use Rattle.compaction.proofs.choice.sparsest.Goals as goal

pub loop-group-init : goal.loop-group-init
loop-group-init c = so-far-none c.args.region.now

pub returns-clause-none : goal.returns-clause-none
returns-clause-none c =
    let all : group_count c.args.region.now ≤ c.loop-group.group = (let end = c.loop-group-test.false in let count = c.groups-group-end.ensures.count in omega (arith, end, count)) in
    all-none c.args.region.now c.loop-group.group all c.groups-group-end.ensures.closed c.loop-group.found c.loop-group.invariant

pub returns-clause-some : goal.returns-clause-some
returns-clause-some c =
    let all : group_count c.args.region.now ≤ c.loop-group.group = (let end = c.loop-group-test.false in let count = c.groups-group-end.ensures.count in omega (arith, end, count)) in
    all-some c.args.region.now c.loop-group.group all c.groups-group-end.ensures.closed c.loop-group.found c.loop-group.invariant
