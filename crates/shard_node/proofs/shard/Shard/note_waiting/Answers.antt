use Rattle.std.proofs.Common.{All, subst}
use Rattle.shard_parts.specs.Peers.{HasNoneWaiting, WaitsNone, peer_state}
use Rattle.shard_node.proofs.Turning.Calms.{seen_so}
use Rattle.shard_node.proofs.shard.Shard.note_waiting.Goals as goal

pub returns-then-moved : goal.returns-then-moved
returns-then-moved g c is =
    seen_so peer_state WaitsNone c.args.self.now.peers.items (subst (All HasNoneWaiting) c.as_slice.ensures.value (c.none_waits.ensures.0 is))

pub returns-else-moved : goal.returns-else-moved
returns-else-moved g c = c.requires c.if-moved.false
