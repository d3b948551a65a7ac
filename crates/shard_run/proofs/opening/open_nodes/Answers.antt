use Rattle.shard_run.proofs.Openings.{all_back}
use Rattle.shard_run.proofs.opening.open_nodes.Goals as goal

pub returns-clause-refused : goal.returns-clause-refused
returns-clause-refused g c =
    all_back c.args.trace.now.shards c.args.homes.now c.open_all.new.seats.items c.abandon_nodes.new.seats.items c.open_all.new.nodes.items
    c.requires.seats.lists c.in-Err.ensures.refused c.abandon_nodes.ensures
