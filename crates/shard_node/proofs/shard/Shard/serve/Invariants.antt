use Rattle.std.specs.Prelude.{◌⊎◌}
use Rattle.std.proofs.Common.{◌<◌, ◌↔◌, IsTrue, ◌≡◌, ◌≤◌, ℕ, ◌-◌, length, slice_get}
use Rattle.shard_rings.specs.declared.link.Lane.TheVariants.{Replies, Requests}
use Rattle.shard_node.specs.Standing.{InStanding}
use Rattle.shard_node.specs.inside.Moves.{BeginsNone, Goes, HeldUp, NonePassed, packets_of, ReceivesNone, ReceivesOne, RequestLacks, ReceivesOneStray, Tells}
use Rattle.shard_node.specs.inside.Shards.{node_state}
use Rattle.shard_node.specs.inside.Steps.{IsStep}
use Rattle.shard_node.proofs.shard.Shard.serve.Given as goal

abbrev pub invariant-loop-at : goal.invariant-loop-at
invariant-loop-at g l = record {
  step : IsStep g.L.Link.traffic g.L.Link.end l.initial.self l.self;
  replies : ReceivesNone g.L.Link.traffic Replies (node_state l.initial.self) (node_state l.self);
  one : ReceivesOne g.L.Link.traffic Requests (node_state l.initial.self) (node_state l.self);
  goes : Goes g.L.Link.traffic (node_state l.initial.self) (node_state l.self);
  own : BeginsNone (node_state l.initial.self) (node_state l.self);
  moved : IsTrue l.seen.moved ↔ (IsTrue l.initial.seen.moved ⊎ (packets_of g.L.Link.traffic (node_state l.initial.self) < packets_of g.L.Link.traffic (node_state l.self)));
  held_up : NonePassed g.L.Link.traffic (node_state l.initial.self) (node_state l.self)
      → HeldUp g.L.Link.traffic
      (λ k a b. k < l.at → RequestLacks g.L.Link.traffic (node_state l.initial.self).store.lent a b)
      (node_state l.initial.self) (node_state l.self);
  later : (k : ℕ) → l.at ≤ k → slice_get (node_state l.self).peers k ≡ slice_get (node_state l.initial.self).peers k;
  tells : InStanding g.L.Link.traffic (node_state l.initial.self)
      → Tells (ReceivesOneStray g.L.Link.traffic g.G.Gate.holds Requests (node_state l.initial.self) (node_state l.self)) l.initial.seen.stray l.seen.stray;
}

abbrev pub decreases-loop-at : goal.decreases-loop-at
decreases-loop-at g l = length l.self.peers.items - l.at
