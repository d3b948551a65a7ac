use Rattle.shard_tests.proofs.TwoEnds.{are_pair, popped}
use Rattle.shard_tests.proofs.shard_rings_tests.links.close_two.Goals as goal

pub close_pair-requires : goal.close_pair-requires
close_pair-requires c =
    let fewer = popped _ _ _ _ c.pop.ensures.items c.unwrap-second.ensures in
    let front = popped _ _ _ _ c.pop-2.ensures.items c.unwrap-first.ensures in
    let xs = popped _ _ _ _ c.pop-3.ensures.items c.unwrap.ensures in
    let ys = popped _ _ _ _ c.pop-4.ensures.items c.unwrap-2.ensures in
    are_pair c.args.shards.items c.pop.new.self.items c.pop-2.new.self.items c.unwrap-first.result
    c.unwrap-second.result c.pop-3.new.self.items c.pop-4.new.self.items c.unwrap.result c.unwrap-2.result
    c.requires.mesh c.requires.two fewer front xs ys
