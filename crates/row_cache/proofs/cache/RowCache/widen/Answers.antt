use Rattle.std.proofs.Common.{sym, ap, subst, ◌∙◌}
use Rattle.regions.specs.Segments.{RegionState}
use Rattle.row_cache.specs.Rows.{CacheState}
use Rattle.row_cache.specs.inside.Consistent.{IsConsistent}
use Rattle.row_cache.specs.inside.Tables.{TableState}
use Rattle.row_cache.proofs.cache.RowCache.widen.Goals as goal

pub invariant_of-self : goal.invariant_of-self
invariant_of-self c = subst (λ (t : TableState). IsConsistent t c.self.inside.region) (sym c.widen.ensures.unchanged) c.self.invariant

abbrev cache_of : TableState → RegionState → CacheState
cache_of t region = record { room = t.room; front = t.ends.front; last = t.ends.last; places = t.places; region = region }

pub returns : goal.returns
returns c = record { unchanged = ap (λ (t : TableState). cache_of t c.self.inside.region) c.widen.ensures.unchanged ∙ c.self.view_is }
