use Rattle.std.specs.Prelude.{IfSome}
use Rattle.regions.specs.Contents.{live_at}
use Rattle.regions.specs.declared.place.Place.{Place}
use Rattle.index_tree.specs.Store.{nodes_of}
use Rattle.index_tree.proofs.InsertedLeaf.{Free, add_grows, add_touched, free_other, set_grows, set_touched, spare_apart, split_grows, split_touched}
use Rattle.index_tree.proofs.inserting.insert_into_leaf.Goals as goal

abbrev none_place : Place
none_place = record { segment = 0; at = 0 }

pub returns-then-has_at-clause-grows : goal.returns-then-has_at-clause-grows
returns-then-has_at-clause-grows c =
    set_grows c.args.region.now c.args.at c.args.spares.now c.args.key.now c.args.number c.requires.room c.set_number_at.new.region c.below_at-i.result c.requires.some_key c.requires.short_key
    c.ranges.number.fits c.below_at-i.ensures c.has_at.result c.has_at.ensures c.if-has_at.true c.set_number_at.ensures

pub returns-then-has_at-clause-touched : goal.returns-then-has_at-clause-touched
returns-then-has_at-clause-touched c = set_touched c.args.region.now c.args.at c.args.spares.now c.args.key.now c.args.number c.requires.room c.set_number_at.new.region c.below_at-i.result c.requires.some_key c.requires.short_key c.ranges.number.fits c.below_at-i.ensures c.set_number_at.ensures

pub returns-then-count_at-lt-MOST_ENTRIES-clause-grows : goal.returns-then-count_at-lt-MOST_ENTRIES-clause-grows
returns-then-count_at-lt-MOST_ENTRIES-clause-grows c =
    let free : IfSome (nodes_of (live_at c.args.region.now) c.args.at) (Free c.args.key.now c.below_at-i.result) =
    free_other (nodes_of (live_at c.args.region.now) c.args.at) c.args.key.now c.below_at-i.result c.has_at.result c.has_at.ensures c.if-has_at.false in
    add_grows c.args.region.now c.args.at c.args.spares.now c.args.key.now c.args.number c.requires.room c.add_at.new.region c.below_at-i.result c.requires.some_key
    c.requires.short_key c.ranges.number.fits c.below_at-i.ensures c.count_at.result c.count_at.ensures free c.if-count_at-lt-MOST_ENTRIES.true c.add_at.ensures

pub returns-then-count_at-lt-MOST_ENTRIES-clause-touched : goal.returns-then-count_at-lt-MOST_ENTRIES-clause-touched
returns-then-count_at-lt-MOST_ENTRIES-clause-touched c = add_touched c.args.region.now c.args.at c.args.spares.now c.args.key.now c.args.number c.requires.room c.add_at.new.region c.below_at-i.result c.requires.some_key c.requires.short_key c.ranges.number.fits c.below_at-i.ensures c.add_at.ensures

pub split_leaf-split-requires-clause-apart : goal.split_leaf-split-requires-clause-apart
split_leaf-split-requires-clause-apart c = spare_apart c.args.region.now c.args.at c.args.spares.now c.args.key.now c.args.number c.requires.room c.args.region.now c.below_at-i.result c.requires.some_key c.requires.short_key c.ranges.number.fits c.below_at-i.ensures none_place

pub returns-clause-grows : goal.returns-clause-grows
returns-clause-grows c =
    let free : IfSome (nodes_of (live_at c.args.region.now) c.args.at) (Free c.args.key.now c.below_at-i.result) =
    free_other (nodes_of (live_at c.args.region.now) c.args.at) c.args.key.now c.below_at-i.result c.has_at.result c.has_at.ensures c.if-has_at.false in
    split_grows c.args.region.now c.args.at c.args.spares.now c.args.key.now c.args.number c.requires.room c.split_leaf-split.new.region c.below_at-i.result c.requires.some_key
    c.requires.short_key c.ranges.number.fits c.below_at-i.ensures none_place c.split_leaf-split.result free c.split_leaf-split.ensures.cut c.split_leaf-split.ensures.touched

pub returns-clause-touched : goal.returns-clause-touched
returns-clause-touched c = split_touched c.args.region.now c.args.at c.args.spares.now c.args.key.now c.args.number c.requires.room c.split_leaf-split.new.region
    c.below_at-i.result c.requires.some_key c.requires.short_key c.ranges.number.fits c.below_at-i.ensures none_place c.split_leaf-split.ensures.touched
