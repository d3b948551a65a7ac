use Rattle.shard_rings.specs.Links.{end_of}
use Rattle.shard_drive.proofs.Same.{same-nodes}
use Rattle.shard_drive.proofs.threads.drive_threads.Goals as goal

pub returns-clause-same : goal.returns-clause-same
returns-clause-same g c = same-nodes end_of c.args.nodes.now c.finish_all.new.nodes c.finish_all.ensures.lasting
