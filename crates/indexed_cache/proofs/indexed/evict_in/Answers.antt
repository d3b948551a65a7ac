-- The segments are those of the range still.
use Rattle.std.proofs.Common.{◌≡◌, ◌-◌, ◌&&◌, nat_lt, true, length, take, None, subst, ◌∙◌}
use Rattle.std.specs.List.{last_or}
use Rattle.rows.specs.Row.{is_of_put, live}
use Rattle.place_lemmas.proofs.Ranges.{first_kept}
use Rattle.row_cache.specs.Rows.{CacheState, rows_of}
use Rattle.segmented_store.specs.Ranged.{InRange}
use Rattle.indexed_cache.proofs.indexed.evict_in.Goals as goal

pub invariant_of-ranged : goal.invariant_of-ranged
invariant_of-ranged c =
    let r = c.ranged.inside in let i = c.ranged.invariant in let same = c.evict.ensures.segments in
    record {
      are = i.are;
      first = first_kept r.range r.store.region c.evict.new.self.region _ i.first same.most same.pieces same.held;
      unguarded = same.guards 0 ∙ i.unguarded;
    }

pub returns-clause-possible : goal.returns-clause-possible
returns-clause-possible c =
    subst (λ (r : InRange CacheState). c.evict.result ≡ (is_of_put c.args.put (last_or None (rows_of r.store)) && nat_lt c.args.floor (live (rows_of r.store)))) c.ranged.view_is c.evict.ensures.possible

pub returns-clause-removed : goal.returns-clause-removed
returns-clause-removed c =
    subst (λ (r : InRange CacheState). c.evict.result ≡ true → rows_of c.evict.new.self ≡ take (length (rows_of r.store) - 1) (rows_of r.store)) c.ranged.view_is c.evict.ensures.removed
