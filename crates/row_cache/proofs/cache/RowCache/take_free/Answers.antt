use Rattle.std.proofs.Common.{length, ap, subst, ◌∙◌}
use Rattle.row_cache.specs.Rows.{CacheState, rows_of, Stay}
use Rattle.row_cache.proofs.Caches.{cache_kept, kept_reads, stays_kept}
use Rattle.row_cache.proofs.Groups.{groups_taken}
use Rattle.row_cache.proofs.cache.RowCache.take_free.Goals as goal

pub invariant_of-self : goal.invariant_of-self
invariant_of-self c = cache_kept c.self.inside.tables c.self.inside.region c.take_free.new.self c.self.invariant c.take_free.ensures.objects c.take_free.ensures.live_total
    (groups_taken c.self.inside.region c.take_free.new.self c.take_free.result c.take_free.ensures.unchanged c.take_free.ensures.taken)

pub returns-clause-rows : goal.returns-clause-rows
returns-clause-rows c =
    let t = c.self.inside.tables in
    kept_reads c.self.inside.region c.take_free.new.self (length t.places) t.ends.front c.take_free.ensures.objects ∙ ap rows_of c.self.view_is

pub returns-clause-keeps : goal.returns-clause-keeps
returns-clause-keeps c =
    let r = c.self.inside.region in let s = c.take_free.new.self in
    record {
      room = ap (λ (x : CacheState). x.room) c.self.view_is;
      stay = subst (λ (x : CacheState). Stay x.region s) c.self.view_is (stays_kept r s c.take_free.ensures.objects);
    }
