use Rattle.shard_drive.proofs.Same.{same-nodes}
use Rattle.shard_drive.proofs.by_words.drive_numbered.Goals as goal

pub returns-clause-same : goal.returns-clause-same
returns-clause-same g c = same-nodes g.L.Link.end c.args.nodes.now c.finish_numbered.new.nodes c.finish_numbered.ensures.lasting
