use Rattle.std.proofs.Common.{◌<◌, length, arith, true≢false, sym}
use Rattle.shard_parts.proofs.Each.{once_begins, once_next, sent_next}
use Rattle.part_lemmas.proofs.Packets.Passed.{bye_low}
use Rattle.shard_parts.proofs.peer_steps.say_byes.Goals as goal

pub loop-peer-init : goal.loop-peer-init
loop-peer-init g c = record {
  each = once_begins _ _;
  sent = (λ is. absurd (true≢false (sym is)), λ less. absurd (omega (arith, less)));
  low = omega arith;
}

pub loop-peer-preserved : goal.loop-peer-preserved
loop-peer-preserved g c =
    let traffic = g.L.Link.traffic in
    let test = c.loop-peer-test.true in
    let same = c.loop-peer.auto.peers in
    let within : c.loop-peer.peer-index < length c.loop-peer.peers = omega (arith, test, same) in
    let so_far = c.loop-peer.invariant in
    let next = sent_next traffic c.args.peers.now c.loop-peer.peers c.loop-peer.peer-index c.peer-item.result c.say_bye-moved.new.self c.loop-peer.moved c.say_bye-moved.result within
    so_far.sent so_far.low c.say_bye-moved.ensures.sent (bye_low _ _ _ _ c.say_bye-moved.ensures.says.tries) in
    record { each = once_next _ _ _ _ _ _ within c.say_bye-moved.ensures.says so_far.each; sent = next.0; low = next.1 }
