use Rattle.std.proofs.Common.{zero}
use Rattle.regions.specs.Contents.{live_at}
use Rattle.part_examples.proofs.Only.{same-object}
use Rattle.part_examples.proofs.bookmark.tidy.Goals as goal

pub returns-clause-same : goal.returns-clause-same
returns-clause-same c =
    same-object (live_at c.compact_one.new.region c.compact_one.new.movers.place) (live_at c.args.region.now c.args.bookmark.now.place) (c.compact_one.ensures.store zero)
