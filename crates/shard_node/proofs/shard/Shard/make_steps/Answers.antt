use Rattle.std.proofs.Common.{All, refl, subst, sym}
use Rattle.shard_node.specs.Nodes.{NodeState}
use Rattle.shard_node.specs.inside.Calm.{WaitsNone}
use Rattle.shard_node.proofs.shard.Shard.make_steps.Goals as goal

pub make_later_steps-seen-requires : goal.make_later_steps-seen-requires
make_later_steps-seen-requires g c κs = (
  (refl, tt),
  (
    c.take_back.ensures.step.consistent,
    λ is. subst (λ (n : NodeState g.row.L.Denot g.row.G.Denot). All WaitsNone n.peers) (sym c.take_back.ensures.same) (c.requires.calm is),
  ),
)
