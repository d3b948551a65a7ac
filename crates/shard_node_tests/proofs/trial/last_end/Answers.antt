use Rattle.shard_node_tests.proofs.Ends.{last_unused}
use Rattle.shard_node_tests.proofs.trial.last_end.Goals as goal

pub returns : goal.returns
returns c = last_unused c.args.shards.now.items c.pop.new.self.items c.in-Some.ends c.pop-end.new.self.items c.pop-end.result c.in-Some.ensures.items c.pop-end.ensures.items
