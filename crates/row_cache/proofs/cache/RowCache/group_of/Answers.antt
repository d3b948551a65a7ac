use Rattle.std.proofs.Common.{ap, subst, ◌∙◌}
use Rattle.regions.specs.Shapes.{HasGroup}
use Rattle.row_cache.specs.Rows.{CacheState, group_for}
use Rattle.row_cache.proofs.cache.RowCache.group_of.Goals as goal

pub group_for-requires : goal.group_for-requires
group_for-requires c = c.self.invariant.some

pub returns-clause-group : goal.returns-clause-group
returns-clause-group c = c.group_for.ensures.group ∙ ap (λ (x : CacheState). group_for x.region c.args.table) c.self.view_is

pub returns-clause-has : goal.returns-clause-has
returns-clause-has c = subst (λ (x : CacheState). HasGroup x.region c.group_for.result) c.self.view_is c.group_for.ensures.has
