-- The rows in the range are those of the cache.
use Rattle.std.proofs.Common.{◌≡◌, ℕ, ◌-◌, ◌&&◌, nat_lt, Bool, true, false, List, length, take, None, refl, ap, subst, ◌∙◌}
use Rattle.std.specs.Bool.{OnTrue}
use Rattle.std.specs.List.{last_or}
use Rattle.rows.specs.Row.{Row, is_of_put, live}
use Rattle.row_cache.specs.Rows.{rows_of}
use Rattle.cache_model.specs.Legal.{can_evict}
use Rattle.plain_cache.specs.Cache.{Cache}
use Rattle.indexed_cache.proofs.indexed.Indexed.evict.Goals as goal

-- the same cache with other rows
abbrev with_rows : Cache → List Row → Cache
with_rows cache rows = record cache { rows = rows }

on-true : (b : Bool) (cache : Cache) (rows left : List Row) → (b ≡ true → rows ≡ left) → OnTrue b (with_rows cache rows ≡ with_rows cache left)
on-true true cache rows left is = ap (with_rows cache) (is refl)
on-true false cache rows left is = tt

pub returns-clause-possible : goal.returns-clause-possible
returns-clause-possible c =
    let i = c.self.inside in
    c.evict_in.ensures.possible
    ∙ ap (λ (floor : ℕ). is_of_put c.args.put (last_or None (rows_of i.ranged.store)) && nat_lt floor (live (rows_of i.ranged.store))) c.floor_of-floor.ensures
    ∙ ap (λ (k : Cache). can_evict k.pages k.regions c.args.put k.rows) c.self.view_is

pub returns-clause-removed : goal.returns-clause-removed
returns-clause-removed c =
    let i = c.self.inside in
    let rows = rows_of i.ranged.store in
    let held : Cache = record { pages = i.pages; regions = i.regions; rows = rows } in
    subst (λ (k : Cache). OnTrue c.evict_in.result (with_rows held (rows_of c.evict_in.new.ranged.store) ≡ with_rows k (take (length k.rows - 1) k.rows))) c.self.view_is
    (on-true c.evict_in.result held (rows_of c.evict_in.new.ranged.store) (take (length rows - 1) rows) c.evict_in.ensures.removed)
