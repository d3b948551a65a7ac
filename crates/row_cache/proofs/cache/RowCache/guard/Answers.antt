use Rattle.std.proofs.Common.{◌+◌, length, sym, ap, subst, ◌∙◌}
use Rattle.regions.specs.Shapes.{HasGroup, guards_of}
use Rattle.row_cache.specs.Rows.{CacheState, rows_of, Stay}
use Rattle.row_cache.proofs.Caches.{cache_kept, keeps_same, kept_reads, stays_kept}
use Rattle.row_cache.proofs.Groups.{groups_guarded, guards_counted, guards_elsewhere}
use Rattle.row_cache.proofs.cache.RowCache.guard.Goals as goal

pub invariant_of-self : goal.invariant_of-self
invariant_of-self c =
    let r = c.self.inside.region in let s = c.guard.new.self in let g = c.args.group in
    cache_kept c.self.inside.tables r s c.self.invariant (keeps_same r s g (guards_of r g + 1) c.guard.ensures.guards) c.guard.ensures.live_total
    (groups_guarded r s g (guards_of r g + 1) c.guard.ensures.guards)

pub returns-clause-rows : goal.returns-clause-rows
returns-clause-rows c =
    let t = c.self.inside.tables in let r = c.self.inside.region in let s = c.guard.new.self in let g = c.args.group in
    kept_reads r s (length t.places) t.ends.front (keeps_same r s g (guards_of r g + 1) c.guard.ensures.guards) ∙ ap rows_of c.self.view_is

pub returns-clause-keeps : goal.returns-clause-keeps
returns-clause-keeps c =
    let r = c.self.inside.region in let s = c.guard.new.self in let g = c.args.group in
    record {
      room = ap (λ (x : CacheState). x.room) c.self.view_is;
      stay = subst (λ (x : CacheState). Stay x.region s) c.self.view_is (stays_kept r s (keeps_same r s g (guards_of r g + 1) c.guard.ensures.guards));
    }

pub guard-requires-clause-group : goal.guard-requires-clause-group
guard-requires-clause-group c = subst (λ (x : CacheState). HasGroup x.region c.args.group) (sym c.self.view_is) c.requires.group

pub returns-clause-count : goal.returns-clause-count
returns-clause-count c =
    let r = c.self.inside.region in let g = c.args.group in
    guards_counted r c.guard.new.self g (guards_of r g + 1) (subst (λ (x : CacheState). HasGroup x.region g) (sym c.self.view_is) c.requires.group) c.guard.ensures.guards
    ∙ ap (λ (x : CacheState). guards_of x.region g + 1) c.self.view_is

pub returns-clause-others : goal.returns-clause-others
returns-clause-others c g far =
    let r = c.self.inside.region in let h = c.args.group in
    guards_elsewhere r c.guard.new.self h (guards_of r h + 1) g far c.guard.ensures.guards ∙ ap (λ (x : CacheState). guards_of x.region g) c.self.view_is
