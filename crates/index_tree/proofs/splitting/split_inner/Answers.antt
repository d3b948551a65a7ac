use Rattle.std.proofs.Common.{Some}
use Rattle.regions.specs.Places.{link_to}
use Rattle.index_tree.specs.Splits.{branch_of}
use Rattle.index_tree.proofs.SplitInner.{held_new, places_apart, places_held, split_adopts, split_cut}
use Rattle.index_tree.proofs.splitting.split_inner.Goals as goal

pub adopt-requires-clause-node : goal.adopt-requires-clause-node
adopt-requires-clause-node c = held_new c.args.region.now c.cut_inner-middle.new.region c.args.at c.args.new c.args.i
    (branch_of c.args.split.now) c.cut_inner-middle.result c.requires.node c.requires.i c.requires.held c.requires.not_at c.requires.not_new c.cut_inner-middle.ensures.cut c.cut_inner-middle.ensures.touched

pub adopt-requires-clause-children : goal.adopt-requires-clause-children
adopt-requires-clause-children c = places_held c.args.region.now c.cut_inner-middle.new.region c.args.at c.args.new c.args.i
    (branch_of c.args.split.now) c.cut_inner-middle.result c.requires.node c.requires.i c.requires.held c.requires.not_at c.requires.not_new c.cut_inner-middle.ensures.cut c.cut_inner-middle.ensures.touched

pub adopt-requires-clause-apart : goal.adopt-requires-clause-apart
adopt-requires-clause-apart c = places_apart c.args.region.now c.cut_inner-middle.new.region c.args.at c.args.new c.args.i
    (branch_of c.args.split.now) c.cut_inner-middle.result c.requires.node c.requires.i c.requires.held c.requires.not_at c.requires.not_new c.cut_inner-middle.ensures.cut c.cut_inner-middle.ensures.touched

pub returns-clause-cut : goal.returns-clause-cut
returns-clause-cut c = split_cut c.args.region.now c.cut_inner-middle.new.region c.args.at c.args.new c.args.i
    (branch_of c.args.split.now) c.cut_inner-middle.result c.requires.node c.requires.i c.requires.held c.requires.not_at c.requires.not_new c.cut_inner-middle.ensures.cut c.cut_inner-middle.ensures.touched c.adopt.new.region (link_to (Some c.args.new)) c.adopt.ensures

pub returns-clause-adopts : goal.returns-clause-adopts
returns-clause-adopts c = split_adopts c.args.region.now c.cut_inner-middle.new.region c.args.at c.args.new c.args.i
    (branch_of c.args.split.now) c.cut_inner-middle.result c.requires.node c.requires.i c.requires.held c.requires.not_at c.requires.not_new c.cut_inner-middle.ensures.cut c.cut_inner-middle.ensures.touched c.adopt.new.region (link_to (Some c.args.new)) c.adopt.ensures
