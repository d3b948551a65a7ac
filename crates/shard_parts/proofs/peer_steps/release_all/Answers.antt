use Rattle.std.proofs.Common.{◌<◌, length, arith, true≢false, sym}
use Rattle.shard_parts.specs.Peers.{TriesHeld}
use Rattle.shard_parts.proofs.Each.{fewer_by_all, once_begins, once_next, or_falls, release_next}
use Rattle.shard_parts.proofs.peer_steps.release_all.Goals as goal

pub loop-peer-init : goal.loop-peer-init
loop-peer-init g c = record {
  releases = record { released = 0; all = omega arith; counts = λ most. omega (arith, most) };
  each = once_begins _ _;
  released = (λ is. absurd (true≢false (sym is)), λ less. absurd (omega (arith, less)));
}

pub loop-peer-preserved : goal.loop-peer-preserved
loop-peer-preserved g c =
    let test = c.loop-peer-test.true in
    let same = c.loop-peer.auto.peers in
    let within : c.loop-peer.peer-index < length c.loop-peer.peers = omega (arith, test, same) in
    let so_far = c.loop-peer.invariant in
    let fewer = fewer_by_all c.loop-peer.peers c.loop-peer.peer-index c.peer-item.result c.release_held-moved.new.self c.loop-peer.tally c.release_held-moved.new.tally within c.release_held-moved.ensures.tries in
    let before = so_far.releases.all in
    record {
      releases = release_next c.args.peers.now c.loop-peer.peers c.loop-peer.peer-index c.args.tally.now c.loop-peer.tally c.release_held-moved.new.tally c.peer-item.result c.release_held-moved.new.self
          within c.release_held-moved.ensures.tries so_far.releases;
      each = once_next TriesHeld _ _ _ _ _ within (record {
        before = c.loop-peer.tally;
        after = c.release_held-moved.new.tally;
        tries = c.release_held-moved.ensures.tries;
        same = c.release_held-moved.ensures.same;
      }) so_far.each;
      released = or_falls c.loop-peer.moved c.release_held-moved.result _ _ _ so_far.released
          (fewer.1 _ c.release_held-moved.ensures.released) (omega (arith, before)) fewer.0;
    }
