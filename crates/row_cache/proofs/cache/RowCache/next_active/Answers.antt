use Rattle.std.proofs.Common.{◌≤◌, inl, inr, length, sym, ap, subst, ◌∙◌, arith}
use Rattle.regions.specs.Shapes.{HasGroup, free_count}
use Rattle.row_cache.specs.Rows.{CacheState, rows_of, Stay}
use Rattle.row_cache.proofs.Caches.{cache_kept, kept_reads, stays_kept}
use Rattle.row_cache.proofs.Groups.{groups_activated}
use Rattle.row_cache.proofs.cache.RowCache.next_active.Goals as goal

pub invariant_of-self : goal.invariant_of-self
invariant_of-self c = cache_kept c.self.inside.tables c.self.inside.region c.next_active.new.self c.self.invariant c.next_active.ensures.objects c.next_active.ensures.live_total
    (groups_activated c.self.inside.region c.next_active.new.self c.args.group c.next_active.ensures.activated.0 c.next_active.ensures.activated.2)

pub returns-clause-rows : goal.returns-clause-rows
returns-clause-rows c =
    let t = c.self.inside.tables in
    kept_reads c.self.inside.region c.next_active.new.self (length t.places) t.ends.front c.next_active.ensures.objects ∙ ap rows_of c.self.view_is

pub returns-clause-keeps : goal.returns-clause-keeps
returns-clause-keeps c =
    let r = c.self.inside.region in let s = c.next_active.new.self in
    record {
      room = ap (λ (x : CacheState). x.room) c.self.view_is;
      stay = subst (λ (x : CacheState). Stay x.region s) c.self.view_is (stays_kept r s c.next_active.ensures.objects);
    }

pub next_active-requires-clause-group : goal.next_active-requires-clause-group
next_active-requires-clause-group c = subst (λ (x : CacheState). HasGroup x.region c.args.group) (sym c.self.view_is) c.requires.group

pub next_active-requires-clause-free : goal.next_active-requires-clause-free
next_active-requires-clause-free c =
    let free : 1 ≤ free_count c.args.self.now.region = elim c.requires.free [ inl two ↦ omega (arith, two) | inr one ↦ one.0 ] in
    subst (λ (x : CacheState). 1 ≤ free_count x.region) (sym c.self.view_is) free
