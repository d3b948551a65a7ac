use Rattle.std.proofs.Common.{◌∙◌}
use Rattle.regions.specs.Shapes.{group_count}
use Rattle.shard_store.proofs.Holding.{consistent-held}
use Rattle.shard_store.proofs.giving.give_compacted.Goals as goal

pub give_freed-requires-clause-consistent : goal.give_freed-requires-clause-consistent
give_freed-requires-clause-consistent c =
    let e = c.compact.ensures in let m = c.args.memory.now in let groups = group_count c.args.cache.now.region in
    (groups, consistent-held m.owner m.pages groups m c.args.cache.now.region c.compact.new.self.region e.holds e.free c.requires.consistent)

pub returns-clause-consistent : goal.returns-clause-consistent
returns-clause-consistent c =
    let e = c.compact.ensures in let m = c.args.memory.now in let groups = group_count c.args.cache.now.region in
    c.give_freed.ensures.leaves.consistent m.owner m.pages groups (consistent-held m.owner m.pages groups m c.args.cache.now.region c.compact.new.self.region e.holds e.free c.requires.consistent)

pub returns-clause-unguarded : goal.returns-clause-unguarded
returns-clause-unguarded c = λ g. c.give_freed.ensures.leaves.guards g ∙ c.compact.ensures.holds.guards g ∙ c.requires.unguarded g

pub returns-clause-tables : goal.returns-clause-tables
returns-clause-tables c = c.give_freed.ensures.leaves.keeps.room ∙ c.compact.ensures.room
