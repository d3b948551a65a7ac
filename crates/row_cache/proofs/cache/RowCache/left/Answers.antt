use Rattle.std.proofs.Common.{sym, subst}
use Rattle.regions.specs.Shapes.{HasGroup}
use Rattle.row_cache.specs.Rows.{CacheState}
use Rattle.row_cache.proofs.cache.RowCache.left.Goals as goal

pub left-requires : goal.left-requires
left-requires c = subst (λ (x : CacheState). HasGroup x.region c.args.group) (sym c.self.view_is) c.requires
