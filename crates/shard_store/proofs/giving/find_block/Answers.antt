use Rattle.std.proofs.Common.{◌<◌, ◌++◌, ◌∷◌, [], length, List, sym, ap, ◌∙◌, not, subst, arith}
use Rattle.foreign_list.specs.Blocks.{Block}
use Rattle.rows.specs.Row.{Row, live}
use Rattle.rows.specs.Evictions.{Evicts}
use Rattle.regions.specs.Shapes.{group_count}
use Rattle.row_cache.specs.Rows.{rows_of}
use Rattle.shard_store.specs.Works.{floor_of}
use Rattle.shard_store.specs.inside.Evicted.{HasEvicted}
use Rattle.shard_store.specs.inside.Homecoming.{TakesHome, GivesAfter}
use Rattle.shard_store.proofs.Telling.{evicted-more, evicted-none}
use Rattle.shard_store.proofs.Holding.{consistent-own, consistent-since}
use Rattle.shard_store.proofs.Homecoming.{after-home, some-map, if-none, none-known, takes-both}
use Rattle.shard_store.proofs.Pressure.{floor-kept}
use Rattle.row_lemmas.proofs.Laws.{evictions_are_counted-more}
use Rattle.shard_store.proofs.giving.find_block.Goals as goal

pub give_unevicted-found-requires-in-loop-share-clause-consistent : goal.give_unevicted-found-requires-in-loop-share-clause-consistent
give_unevicted-found-requires-in-loop-share-clause-consistent g c =
    let l = c.loop-share in let i = l.invariant in let old = c.args.memory.now in
    let h = c.evict.ensures.consistent old.owner old.pages (group_count c.args.cache.now.region) l.memory i.consistent in
    consistent-own old.owner old.pages (group_count c.args.cache.now.region) l.memory c.evict.new.cache.region h

pub give_unevicted-found-requires-in-loop-share-clause-unguarded : goal.give_unevicted-found-requires-in-loop-share-clause-unguarded
give_unevicted-found-requires-in-loop-share-clause-unguarded g c = λ k. c.evict.ensures.guards k ∙ c.loop-share.invariant.unguarded k

pub loop-share-init : goal.loop-share-init
loop-share-init g c =
    let found = c.give_unevicted-found in let e = found.ensures in let old = c.args.memory.now in let rows = rows_of c.args.cache.now in
    let bound = floor_of old.pages old.lent (group_count c.args.cache.now.region) in let now = c.args.evictions.now in let same = ap length e.rows in let enough = c.requires.told in
    record {
      consistent = e.consistent;
      unguarded = e.unguarded;
      given = e.given;
      taken = e.taken;
      pressed = e.pressed;
      evicted = subst (λ (r : List Row). HasEvicted g.E.Evictions.tells bound rows r now now) (sym e.rows) (evicted-none g.E.Evictions.tells bound rows now);
      tables = e.tables;
      told = omega (arith, same, enough);
    }

pub loop-share-preserved : goal.loop-share-preserved
loop-share-preserved g c =
    let l = c.loop-share in let i = l.invariant in let e = c.evict.ensures in let one = e.evicted in let found = c.give_unevicted-found-in-loop-share in
    let share = c.args.share in let size = c.args.size in let old = c.args.memory.now in let mid = l.memory in let new = found.new.memory in
    let none = c.is_none.ensures ∙ ap not c.loop-share-test.true in
    let takes : TakesHome old mid = none-known (TakesHome old mid) l.found none i.taken in
    let groups = group_count c.args.cache.now.region in let bound = floor_of old.pages old.lent groups in let rows = rows_of c.args.cache.now in let rest = rows_of l.cache in
    let above : bound < live rest = none-known (bound < live rest) l.found none i.pressed in
    let evicts = evictions_are_counted-more bound one.0 rows rest i.evicted.tags i.evicted.evicts one.1 above in
    let after : HasEvicted g.E.Evictions.tells bound rows (rows_of c.evict.new.cache) c.args.evictions.now c.evict.new.evictions =
    evicted-more g.E.Evictions.tells bound one.0 rows rest (rows_of c.evict.new.cache) c.args.evictions.now l.evictions c.evict.new.evictions i.evicted (subst (Evicts bound rows (i.evicted.tags ++ one.0 ∷ [])) (sym e.rows) evicts) one.2
    in
    let one-less = e.one_less in let less = e.spare in let enough = i.told in let same = ap length found.ensures.rows in
    let made = (e.consistent old.owner old.pages groups mid i.consistent).made in let count = group_count c.evict.new.cache.region in
    record {
      consistent = consistent-since old.owner old.pages groups mid new c.evict.new.cache.region found.new.cache.region made found.ensures.consistent;
      unguarded = found.ensures.unguarded;
      given = some-map (GivesAfter share size mid new) (GivesAfter share size old new) found.result (λ (b : Block) h. after-home share size old mid new b takes h) found.ensures.given;
      taken = if-none (TakesHome mid new) (TakesHome old new) found.result (λ h. takes-both old mid new takes h) found.ensures.taken;
      pressed = if-none (floor_of mid.pages mid.lent count < live (rows_of found.new.cache)) (bound < live (rows_of found.new.cache)) found.result
          (λ more. floor-kept groups old mid (live (rows_of found.new.cache)) takes (subst (λ k. floor_of mid.pages mid.lent k < live (rows_of found.new.cache)) made.groups more)) found.ensures.pressed;
      evicted = subst (λ (r : List Row). HasEvicted g.E.Evictions.tells bound rows r c.args.evictions.now c.evict.new.evictions) (sym found.ensures.rows) after;
      tables = found.ensures.tables ∙ e.tables ∙ i.tables;
      told = omega (arith, one-less, less, enough, same);
    }
