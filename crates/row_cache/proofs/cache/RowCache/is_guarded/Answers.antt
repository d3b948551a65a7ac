use Rattle.std.proofs.Common.{◌≡◌, ◌↔◌, false, subst}
use Rattle.regions.specs.Shapes.{IsUnguarded}
use Rattle.row_cache.specs.Rows.{CacheState}
use Rattle.row_cache.proofs.cache.RowCache.is_guarded.Goals as goal

pub returns : goal.returns
returns c = subst (λ (x : CacheState). c.is_guarded.result ≡ false ↔ IsUnguarded x.region) c.self.view_is c.is_guarded.ensures
