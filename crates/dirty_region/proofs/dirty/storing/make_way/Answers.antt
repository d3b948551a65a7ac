use Rattle.regions.specs.Contents.{live_at}
use Rattle.dirty_region.proofs.Stored.{index_moved, puts_moved}
use Rattle.dirty_region.proofs.dirty.storing.make_way.Goals as goal

pub returns-clause-index : goal.returns-clause-index
returns-clause-index c =
    let m = c.make_room.ensures in
    index_moved c.args.ring.now c.make_room.new.movers (live_at c.args.region.now) (live_at c.make_room.new.region) c.args.index.now c.requires.ring m.fits m.rest m.store c.requires.index

pub returns-clause-puts : goal.returns-clause-puts
returns-clause-puts c =
    let m = c.make_room.ensures in
    puts_moved c.args.ring.now c.make_room.new.movers (live_at c.args.region.now) (live_at c.make_room.new.region) c.requires.ring m.fits m.rest m.store
