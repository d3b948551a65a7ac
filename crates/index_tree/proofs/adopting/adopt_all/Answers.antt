use Rattle.index_tree.proofs.RemoveAdopt.{adopted_all, few_kids, kids_apart, kids_held}
use Rattle.index_tree.proofs.adopting.adopt_all.Goals as goal

pub adopt-requires-clause-n : goal.adopt-requires-clause-n
adopt-requires-clause-n c = few_kids c.args.region.now c.args.at c.requires.node c.requires.kids c.count_at-n.result c.count_at-n.ensures

pub adopt-requires-clause-children : goal.adopt-requires-clause-children
adopt-requires-clause-children c = kids_held c.args.region.now c.args.at c.requires.node c.requires.kids c.count_at-n.result c.count_at-n.ensures

pub adopt-requires-clause-apart : goal.adopt-requires-clause-apart
adopt-requires-clause-apart c = kids_apart c.args.region.now c.args.at c.requires.node c.requires.kids c.count_at-n.result c.count_at-n.ensures

pub returns : goal.returns
returns c = adopted_all c.args.region.now c.args.at c.requires.node c.requires.kids c.count_at-n.result c.count_at-n.ensures c.adopt.new.region c.adopt.ensures
