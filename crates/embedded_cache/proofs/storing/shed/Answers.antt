use Rattle.std.proofs.Common.{◌<◌, ◌++◌, [], ◌∷◌, refl, sym, subst, ◌∙◌, arith}
use Rattle.rows.specs.Row.{live}
use Rattle.rows.specs.Evictions.{Evicts}
use Rattle.row_lemmas.proofs.Laws.{evictions_are_counted-more, evictions_are_counted-none}
use Rattle.embedded_cache.proofs.Gone.{live_some}
use Rattle.embedded_cache.proofs.Kept.{keeps_both, keeps_none, same_both, same_store}
use Rattle.embedded_cache.proofs.Telling.{told_both}
use Rattle.embedded_cache.proofs.storing.shed.Goals as goal

pub evict_last-requires-clause-some : goal.evict_last-requires-clause-some
evict_last-requires-clause-some g c = live_some c.args.bound c.shedding.store.rows (c.shedding-test.ensures.above refl)

pub evict_last-requires-clause-unguarded : goal.evict_last-requires-clause-unguarded
evict_last-requires-clause-unguarded g c = λ k. c.shedding.invariant.same.guards k ∙ c.requires.unguarded k

pub evict_last-requires-clause-told : goal.evict_last-requires-clause-told
evict_last-requires-clause-told g c =
    let some = live_some c.args.bound c.shedding.store.rows (c.shedding-test.ensures.above refl) in let told = c.shedding.invariant.told in omega (arith, some, told)

pub shedding-init : goal.shedding-init
shedding-init g c =
    let s = c.args.store.now in
    record {
      shed = record { tags = []; evicts = evictions_are_counted-none c.args.bound s.rows; told = refl };
      told = c.requires.told;
      same = same_store s;
      tickets = keeps_none s;
    }

pub shedding-preserved : goal.shedding-preserved
shedding-preserved g c =
    let l = c.shedding in let i = l.invariant in let e = c.evict_last.ensures in let one = e.evicted in
    let first = c.args.store.now in let new = c.evict_last.new.self in let bound = c.args.bound in
    let above : bound < live l.store.rows = c.shedding-test.ensures.above refl in
    let evicts = evictions_are_counted-more bound one.0 first.rows l.store.rows i.shed.tags i.shed.evicts one.1 above in
    let less = e.one_less in let spare = e.spare in let told = i.told in
    record {
      shed = record {
        tags = i.shed.tags ++ one.0 ∷ [];
        evicts = subst (Evicts bound first.rows (i.shed.tags ++ one.0 ∷ [])) (sym e.rows) evicts;
        told = told_both g.E.Evictions.tells i.shed.tags (one.0 ∷ []) c.args.evictions.now l.evictions c.evict_last.new.evictions i.shed.told (c.evict_last.new.evictions, one.2, refl);
      };
      told = omega (arith, less, spare, told);
      same = same_both first l.store new i.same e.same;
      tickets = keeps_both first l.store new i.tickets e.tickets;
    }
