use Rattle.std.proofs.Common.{sym, subst}
use Rattle.regions.specs.Shapes.{HasGroup}
use Rattle.row_cache.specs.Rows.{CacheState}
use Rattle.row_cache.proofs.cache.RowCache.guards.Goals as goal

pub guards-requires : goal.guards-requires
guards-requires c = subst (λ (x : CacheState). HasGroup x.region c.args.group) (sym c.self.view_is) c.requires
