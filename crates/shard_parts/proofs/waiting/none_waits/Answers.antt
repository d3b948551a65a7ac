use Rattle.std.proofs.Common.{◌<◌, All, length, arith, refl, subst}
use Rattle.std.proofs.lemmas.List.{take_all}
use Rattle.std.proofs.lemmas.List.Elements.{All-more}
use Rattle.shard_parts.specs.Peers.{HasNoneWaiting}
use Rattle.shard_parts.proofs.waiting.none_waits.Goals as goal

pub loop-peer-preserved : goal.loop-peer-preserved
loop-peer-preserved g c =
    let test = c.loop-peer-test.true in
    let same = c.loop-peer.auto.peer-index-end in
    let within : c.loop-peer.peer-index < length c.args.peers.now = omega (arith, test, same) in
    All-more HasNoneWaiting c.args.peers.now c.loop-peer.peer-index c.peer-item.result within c.loop-peer.invariant (subst HasNoneWaiting c.peer-item.is (c.waits_for_none.ensures.0 c.if-not-waits_for_none.false))

pub returns : goal.returns
returns g c =
    let test = c.loop-peer-test.false in
    let same = c.loop-peer.auto.peer-index-end in
    (λ is. subst (All HasNoneWaiting) (take_all c.loop-peer.peer-index c.args.peers.now (omega (arith, test, same))) c.loop-peer.invariant, λ all. refl)
