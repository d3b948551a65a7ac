use Rattle.std.proofs.Common.{length, ap, subst, ◌∙◌}
use Rattle.regions.specs.Segments.{RegionState}
use Rattle.regions.specs.Shapes.{group_count}
use Rattle.row_cache.specs.Rows.{CacheState, rows_of, Stay}
use Rattle.row_cache.proofs.Caches.{cache_kept, kept_reads, stays_kept}
use Rattle.row_cache.proofs.cache.RowCache.add_segment.Goals as goal

pub invariant_of-self : goal.invariant_of-self
invariant_of-self c = cache_kept c.self.inside.tables c.self.inside.region c.add_segment.new.self c.self.invariant c.add_segment.ensures.objects c.add_segment.ensures.live_total
    (ap (λ (r : RegionState). group_count r) c.add_segment.ensures.added.2)

pub returns-clause-rows : goal.returns-clause-rows
returns-clause-rows c =
    let t = c.self.inside.tables in
    kept_reads c.self.inside.region c.add_segment.new.self (length t.places) t.ends.front c.add_segment.ensures.objects ∙ ap rows_of c.self.view_is

pub returns-clause-keeps : goal.returns-clause-keeps
returns-clause-keeps c =
    let r = c.self.inside.region in let s = c.add_segment.new.self in
    record {
      room = ap (λ (x : CacheState). x.room) c.self.view_is;
      stay = subst (λ (x : CacheState). Stay x.region s) c.self.view_is (stays_kept r s c.add_segment.ensures.objects);
    }
