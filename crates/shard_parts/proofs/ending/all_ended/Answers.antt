use Rattle.std.proofs.Common.{◌<◌, All, length, arith, refl, subst}
use Rattle.std.proofs.lemmas.List.{take_all}
use Rattle.std.proofs.lemmas.List.Elements.{All-more}
use Rattle.shard_parts.specs.Receives.{HasEnded}
use Rattle.shard_parts.proofs.ending.all_ended.Goals as goal

pub loop-peer-preserved : goal.loop-peer-preserved
loop-peer-preserved g c =
    let test = c.loop-peer-test.true in
    let same = c.loop-peer.auto.peer-index-end in
    let within : c.loop-peer.peer-index < length c.args.peers.now = omega (arith, test, same) in
    All-more HasEnded c.args.peers.now c.loop-peer.peer-index c.peer-item.result within c.loop-peer.invariant (subst HasEnded c.peer-item.is (c.has_ended.ensures.0 c.if-not-has_ended.false))

pub returns : goal.returns
returns g c =
    let test = c.loop-peer-test.false in
    let same = c.loop-peer.auto.peer-index-end in
    (λ is. subst (All HasEnded) (take_all c.loop-peer.peer-index c.args.peers.now (omega (arith, test, same))) c.loop-peer.invariant, λ all. refl)
