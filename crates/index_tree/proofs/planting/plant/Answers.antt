use Rattle.regions.specs.declared.place.Place.{Place}
use Rattle.index_tree.proofs.Planted.{first_planted, first_touched}
use Rattle.index_tree.proofs.planting.plant.Goals as goal

abbrev none_place : Place
none_place = record { segment = 0; at = 0 }

pub returns-clause-planted : goal.returns-clause-planted
returns-clause-planted c = first_planted c.args.region.now c.start_at.new.region c.add_at.new.region c.args.spares.now c.args.key.now c.args.number none_place
    c.requires.spares c.requires.held c.requires.rooms c.requires.some_key c.requires.short_key c.ranges.number.fits c.start_at.ensures c.add_at.ensures

pub returns-clause-touched : goal.returns-clause-touched
returns-clause-touched c = first_touched c.args.region.now c.start_at.new.region c.add_at.new.region c.args.spares.now c.args.key.now c.args.number none_place
    c.requires.spares c.requires.held c.requires.rooms c.requires.some_key c.requires.short_key c.ranges.number.fits c.start_at.ensures c.add_at.ensures
