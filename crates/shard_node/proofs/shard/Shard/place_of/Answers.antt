use Rattle.std.proofs.Common.{arith}
use Rattle.part_lemmas.proofs.Cursors.OtherPlaces.{other-is, place-above, place-below}
use Rattle.shard_node.proofs.shard.Shard.place_of.Goals as goal

pub overflow_sub-result : goal.overflow_sub-result
overflow_sub-result g c =
    let self = c.args.self.now in
    let other = other-is self.shards self.shard c.args.peer c.requires in
    let from = c.if-peer-self.false in
    omega (arith, other, from)

pub returns-then-peer-self : goal.returns-then-peer-self
returns-then-peer-self g c =
    let self = c.args.self.now in
    place-below self.shards self.shard c.args.peer c.if-peer-self.true c.requires

pub returns-else-peer-self : goal.returns-else-peer-self
returns-else-peer-self g c =
    let self = c.args.self.now in
    place-above self.shards self.shard c.args.peer c.if-peer-self.false c.requires
