use Rattle.regions.specs.Contents.{live_at}
use Rattle.compaction.proofs.Copies.{live-size, whole-copy}
use Rattle.compaction.proofs.Shut.{closed-in}
use Rattle.compaction.proofs.moving.append_copy.Goals as goal

pub place_copy-requires-clause-live : goal.place_copy-requires-clause-live
place_copy-requires-clause-live c = live-size (live_at c.args.region.now c.args.from) c.args.kind c.args.size c.requires.live

pub place_copy-requires-clause-closed : goal.place_copy-requires-clause-closed
place_copy-requires-clause-closed c = closed-in c.args.region.now c.args.group c.args.from.segment c.requires.closed

pub returns-clause-copied : goal.returns-clause-copied
returns-clause-copied c =
    whole-copy c.args.region.now c.place_copy.new.self c.args.from c.in-Ok.to c.args.group c.args.kind c.args.size c.requires.live c.requires.closed c.in-Ok.ensures.added
