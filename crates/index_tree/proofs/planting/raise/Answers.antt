use Rattle.std.proofs.Common.{Some}
use Rattle.regions.specs.Places.{link_to}
use Rattle.index_tree.specs.Splits.{branch_of}
use Rattle.index_tree.proofs.Planted.{adopts_two, top_now, two_apart, two_held}
use Rattle.index_tree.proofs.planting.raise.Goals as goal

pub adopt-requires-clause-children : goal.adopt-requires-clause-children
adopt-requires-clause-children c = two_held c.args.region.now c.start_top.new.region c.args.top c.args.root c.args.level
    (branch_of c.args.split.now) c.requires.root c.requires.behind c.requires.not_root c.requires.not_behind c.requires.root_room c.requires.behind_room c.start_top.ensures.top c.start_top.ensures.touched

pub adopt-requires-clause-apart : goal.adopt-requires-clause-apart
adopt-requires-clause-apart c = two_apart c.args.region.now c.start_top.new.region c.args.top c.args.root c.args.level
    (branch_of c.args.split.now) c.requires.root c.requires.behind c.requires.not_root c.requires.not_behind c.requires.root_room c.requires.behind_room c.start_top.ensures.top c.start_top.ensures.touched

pub returns-clause-top : goal.returns-clause-top
returns-clause-top c = top_now c.args.region.now c.start_top.new.region c.args.top c.args.root c.args.level
    (branch_of c.args.split.now) c.requires.root c.requires.behind c.requires.not_root c.requires.not_behind c.requires.root_room c.requires.behind_room c.start_top.ensures.top c.start_top.ensures.touched c.adopt.new.region (link_to (Some c.args.top)) c.adopt.ensures

pub returns-clause-adopts : goal.returns-clause-adopts
returns-clause-adopts c = adopts_two c.args.region.now c.start_top.new.region c.args.top c.args.root c.args.level
    (branch_of c.args.split.now) c.requires.root c.requires.behind c.requires.not_root c.requires.not_behind c.requires.root_room c.requires.behind_room c.start_top.ensures.top c.start_top.ensures.touched c.adopt.new.region (link_to (Some c.args.top)) c.adopt.ensures
