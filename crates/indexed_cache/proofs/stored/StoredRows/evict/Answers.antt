use Rattle.std.proofs.Common.{◌≡◌, ◌-◌, ◌&&◌, nat_lt, true, length, take, None, subst, ◌∙◌}
use Rattle.std.specs.List.{last_or}
use Rattle.rows.specs.Row.{is_of_put, live}
use Rattle.row_cache.specs.Rows.{CacheState, rows_of}
use Rattle.segmented_store.specs.Segments.{HoldsSegments}
use Rattle.indexed_cache.proofs.stored.StoredRows.evict.Goals as goal

pub invariant_of-self : goal.invariant_of-self
invariant_of-self c =
    let kept = c.evict.ensures.kept in
    (kept.segments.groups ∙ c.self.invariant.0, kept.room ∙ c.self.invariant.1)

pub returns-clause-possible : goal.returns-clause-possible
returns-clause-possible c =
    subst (λ (s : CacheState). c.evict.result ≡ (is_of_put c.args.put (last_or None (rows_of s)) && nat_lt c.args.floor (live (rows_of s)))) c.self.view_is c.evict.ensures.possible

pub returns-clause-removed : goal.returns-clause-removed
returns-clause-removed c =
    subst (λ (s : CacheState). c.evict.result ≡ true → rows_of c.evict.new.cache ≡ take (length (rows_of s) - 1) (rows_of s)) c.self.view_is c.evict.ensures.removed

pub returns-clause-segments : goal.returns-clause-segments
returns-clause-segments c = subst (λ (s : CacheState). HoldsSegments s.region c.evict.new.cache.region) c.self.view_is c.evict.ensures.kept.segments
