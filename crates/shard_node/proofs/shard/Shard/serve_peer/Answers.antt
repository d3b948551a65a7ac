-- A reply that was sent takes nothing from what came.
use Rattle.std.proofs.Common.{ap, arith, refl, subst}
use Rattle.shard_parts.specs.declared.stray_packet.Tried.TheVariants.{Expected}
use Rattle.shard_node.specs.inside.Moves.{ReceivesOneStray, TriedSays}
use Rattle.shard_rings.specs.declared.link.Lane.TheVariants.{Replies, Requests}
use Rattle.shard_node.specs.inside.Shards.{node_state}
use Rattle.shard_node.proofs.Turning.TellsStrays.{stray_between, came_back, none_here, none_join, one_then_none, tried_so}
use Rattle.shard_node.proofs.Turning.ThroughGate.{none_then_none}
use Rattle.shard_node.specs.inside.Seen.{has_come}
use Rattle.shard_node.proofs.Turning.StepGoes.{all_go, packets_rise}
use Rattle.shard_node.proofs.shard.Shard.serve_peer.Goals as goal

pub returns-in-Expected-clause-replies : goal.returns-in-Expected-clause-replies
returns-in-Expected-clause-replies g c =
    none_join g.L.Link.traffic g.G.Gate.holds Replies
    (node_state c.args.self.now) (node_state c.take_request.new.self) (node_state c.send_reply.new.self) c.take_request.ensures.replies (c.send_reply.ensures.received Replies)

pub returns-in-Expected-clause-one : goal.returns-in-Expected-clause-one
returns-in-Expected-clause-one g c =
    one_then_none g.L.Link.traffic g.G.Gate.holds Requests
    (node_state c.args.self.now) (node_state c.take_request.new.self) (node_state c.send_reply.new.self) c.take_request.ensures.one (c.send_reply.ensures.received Requests)

pub returns-in-Expected-clause-tells : goal.returns-in-Expected-clause-tells
returns-in-Expected-clause-tells g c stands =
    let traffic = g.L.Link.traffic in
    let holds = g.G.Gate.holds in
    let first = node_state c.args.self.now in
    let taken = node_state c.take_request.new.self in
    let sent = node_state c.send_reply.new.self in
    let none = c.send_reply.ensures.received Requests in
    tried_so (ReceivesOneStray traffic holds Requests first taken c.args.at) (ReceivesOneStray traffic holds Requests first sent c.args.at) Expected
    (λ x. stray_between traffic holds Requests first taken first sent c.args.at x (record { trace = refl; shards = refl; shard = refl }) (none_here traffic holds Requests first) none)
    (λ x. stray_between traffic holds Requests first sent first taken c.args.at x (record { trace = refl; shards = refl; shard = refl }) (none_here traffic holds Requests first) (came_back traffic holds Requests taken sent none))
    (subst (TriedSays (ReceivesOneStray traffic holds Requests first taken c.args.at)) c.in-Expected.is (c.take_request.ensures.tells stands))

pub returns-in-Expected-clause-goes : goal.returns-in-Expected-clause-goes
returns-in-Expected-clause-goes g c =
    all_go g.L.Link.traffic (node_state c.args.self.now) (node_state c.take_request.new.self) (node_state c.send_reply.new.self) c.take_request.ensures.goes c.send_reply.ensures.goes

pub returns-in-Expected-clause-own : goal.returns-in-Expected-clause-own
returns-in-Expected-clause-own g c =
    none_then_none (node_state c.args.self.now) (node_state c.take_request.new.self) (node_state c.send_reply.new.self) c.take_request.ensures.own c.send_reply.ensures.own

pub returns-in-Expected-clause-moved : goal.returns-in-Expected-clause-moved
returns-in-Expected-clause-moved g c =
    let traffic = g.L.Link.traffic in
    let first = node_state c.args.self.now in
    let taken = node_state c.take_request.new.self in
    let sent = node_state c.send_reply.new.self in
    let more = packets_rise traffic taken sent c.send_reply.ensures.goes in
    let less = c.take_request.ensures.moved.0 (ap has_come c.in-Expected.is) in
    (λ so. omega (arith, less, more), λ so. refl)

pub returns-in-Expected-clause-held_up : goal.returns-in-Expected-clause-held_up
returns-in-Expected-clause-held_up g c quiet =
    let traffic = g.L.Link.traffic in
    let more = packets_rise traffic (node_state c.take_request.new.self) (node_state c.send_reply.new.self) c.send_reply.ensures.goes in
    let less = c.take_request.ensures.moved.0 (ap has_come c.in-Expected.is) in
    absurd (omega (arith, less, more, quiet))
