use Rattle.regions.specs.Stores.{renamed}
use Rattle.regions.specs.declared.place.Place.{Place}
use Rattle.index_tree.proofs.Renamed.{one_more}
use Rattle.index_tree.proofs.spares.rename_all.Goals as goal

abbrev start : Place
start = record { segment = 0; at = 0 }

pub loop-i-preserved : goal.loop-i-preserved
loop-i-preserved c =
    one_more (renamed c.args.from c.args.to) c.args.places.now c.loop-i.places c.loop-i.i start c.renamed.result c.loop-i-test.true c.loop-i.invariant c.renamed.ensures
