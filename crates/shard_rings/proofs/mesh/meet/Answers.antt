use Rattle.std.proofs.Common.{◌+◌, set, sym, subst, arith}
use Rattle.shard_rings.proofs.Meshes.{MeetTo, meet_next, all_met}
use Rattle.shard_rings.proofs.mesh.meet.Goals as goal

pub loop-shard-preserved : goal.loop-shard-preserved
loop-shard-preserved c =
    let one = c.in_ok-meet_one.ensures in
    let test = c.loop-shard-test.true in
    let same = c.loop-shard.auto.links in
    let links = c.loop-shard.links in
    let i = c.loop-shard.shard-index in
    subst (λ l. MeetTo (i + 1) c.args.links.now (set links i c.meet_one.new.shard) l) (sym one.1)
    (meet_next i c.args.links.now links c.loop-shard.own.items c.meet_one.new.shard c.shard-item.result one.0 c.loop-shard.invariant (omega (arith, test, same)) one.2)

pub returns : goal.returns
returns c = all_met c.loop-shard.shard-index c.args.links.now c.loop-shard.links c.loop-shard.own.items c.loop-shard-test.false c.loop-shard.invariant
