use Rattle.shard_drive.proofs.Trials.{unused-or-none}
use Rattle.shard_drive.proofs.tests.opening.links_of.Goals as goal

pub returns-clause-unused : goal.returns-clause-unused
returns-clause-unused c = unused-or-none c.args.shards c.ring_links.result c.ring_links.ensures.shards c.ring_links.ensures.mesh
