use Rattle.shard_drive.proofs.Same.{same-nodes}
use Rattle.shard_drive.proofs.scheduled.drive_schedule.Goals as goal

pub returns-clause-same : goal.returns-clause-same
returns-clause-same g c = same-nodes g.L.Link.end c.args.nodes.now c.follow.new.nodes c.follow.ensures.lasting
