use Rattle.std.proofs.Common.{◌≡◌, ◌⊎◌, ◌<◌, ℕ, ◌++◌, min, true, length, refl, sym, ap, subst, ◌∙◌, arith}
use Rattle.rows.specs.Apply as apply
use Rattle.rows.specs.Evictions.{Evicts}
use Rattle.rows.specs.Key.{in_table}
use Rattle.rows.specs.Row.{live}
use Rattle.shard_store.specs.Works.{pressure}
use Rattle.embedded_cache.proofs.Gone.{joined, live_gone, live_put, lower, min_first, min_second, place_left}
use Rattle.embedded_cache.proofs.Kept.{keeps_both, pressed_same, same_both, taken_after}
use Rattle.embedded_cache.proofs.Telling.{told_both}
use Rattle.embedded_cache.proofs.storing.put_told.Goals as goal

pub shed-requires-clause-unguarded : goal.shed-requires-clause-unguarded
shed-requires-clause-unguarded g c = λ k. c.spare_place.ensures.same.guards k ∙ c.requires.unguarded k

pub put-requires-clause-unguarded : goal.put-requires-clause-unguarded
put-requires-clause-unguarded g c = λ k. c.shed.ensures.same.guards k ∙ (c.spare_place.ensures.same.guards k ∙ c.requires.unguarded k)

pub put-requires-clause-room : goal.put-requires-clause-room
put-requires-clause-room g c =
    let key = in_table c.args.table c.args.key.now in let mid = c.spare_place.new.store in let low = c.shed.new.store in let s = c.spare_place.ensures in let h = c.shed.ensures.shed in
    let same : c.args.limits.room ≡ low.room = c.requires.limits.0 ∙ (sym s.same.room ∙ sym c.shed.ensures.same.room) in
    subst (λ (n : ℕ). (apply.has key low.rows ≡ true) ⊎ (length low.rows < n)) same
    (place_left c.args.limits.room c.args.limits.bound key mid.rows low.rows h.tags h.evicts s.place s.few)

pub returns-clause-put : goal.returns-clause-put
returns-clause-put g c =
    let tells = g.E.Evictions.tells in let old = c.args.store.now in let mid = c.spare_place.new.store in let low = c.shed.new.store in
    let s = c.spare_place.ensures in let h = c.shed.ensures in let p = c.put.ensures.stored in
    let pressed = pressure old.pages old.lent old.regions in let bound = min c.args.limits.bound pressed in
    let same = same_both old mid low s.same h.same in let keeps = keeps_both old mid low s.tickets h.tickets in
    let above : Evicts pressed low.rows p.evicted p.rest = subst (λ (n : ℕ). Evicts n low.rows p.evicted p.rest) (pressed_same old low same keeps) p.evicts in
    let first = lower c.args.limits.bound bound (min_first c.args.limits.bound pressed) mid.rows h.shed.tags low.rows h.shed.evicts in
    let second = lower pressed bound (min_second c.args.limits.bound pressed) low.rows p.evicted p.rest above in
    record {
      tags = s.spared.tags ++ (h.shed.tags ++ p.evicted);
      rest = p.rest;
      goes = record {
        spared = s.spared.tags;
        kept = mid.rows;
        evicted = h.shed.tags ++ p.evicted;
        spares = s.spared.spares;
        evicts = joined bound mid.rows low.rows p.rest h.shed.tags p.evicted first second;
        all = refl;
      };
      told = told_both tells s.spared.tags (h.shed.tags ++ p.evicted) c.args.evictions.now c.spare_place.new.evictions c.put.new.evictions s.spared.told
          (told_both tells h.shed.tags p.evicted c.spare_place.new.evictions c.shed.new.evictions c.put.new.evictions h.shed.told p.told);
      done = p.rows;
      reply = p.reply;
    }

pub returns-clause-low : goal.returns-clause-low
returns-clause-low g c =
    let key = in_table c.args.table c.args.key.now in let low = c.shed.new.store in let p = c.put.ensures.stored in
    let all = ap live p.rows in let put = live_put key c.args.value.now c.args.tag p.rest in
    let less = live_gone (pressure low.pages low.lent low.regions) low.rows p.rest p.evicted p.evicts in let few = c.shed.ensures.low in
    omega (arith, all, put, less, few)

pub returns-clause-same : goal.returns-clause-same
returns-clause-same g c =
    let old = c.args.store.now in let mid = c.spare_place.new.store in let low = c.shed.new.store in
    same_both old low c.put.new.self (same_both old mid low c.spare_place.ensures.same c.shed.ensures.same) c.put.ensures.stored.same

pub returns-clause-taken : goal.returns-clause-taken
returns-clause-taken g c =
    let old = c.args.store.now in let mid = c.spare_place.new.store in let low = c.shed.new.store in
    taken_after old low c.put.new.self (keeps_both old mid low c.spare_place.ensures.tickets c.shed.ensures.tickets) c.put.ensures.taken
