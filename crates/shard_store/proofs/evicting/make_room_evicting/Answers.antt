use Rattle.std.proofs.Common.{◌<◌, ◌++◌, ◌∷◌, [], sym, ap, ◌∙◌, inl, inr, refl, subst, arith}
use Rattle.std.specs.Prelude.{length, List}
use Rattle.rows.specs.Row.{Row, live}
use Rattle.rows.specs.Evictions.{Evicts}
use Rattle.regions.specs.Shapes.{group_count}
use Rattle.row_cache.specs.Rows.{rows_of}
use Rattle.shard_store.specs.Works.{pressure}
use Rattle.shard_store.specs.inside.Evicted.{HasEvicted}
use Rattle.shard_store.proofs.Telling.{evicted-more, evicted-none}
use Rattle.shard_store.proofs.Groups.{has-kept}
use Rattle.shard_store.proofs.Holding.{consistent-own, consistent-since}
use Rattle.shard_store.proofs.Homecoming.{takes-both, takes-none}
use Rattle.shard_store.proofs.Pressure.{pressure-kept}
use Rattle.row_lemmas.proofs.Laws.{evictions_are_counted-more}
use Rattle.shard_store.proofs.evicting.make_room_evicting.Goals as goal

pub make_room-requires-clause-consistent : goal.make_room-requires-clause-consistent
make_room-requires-clause-consistent g c =
    let i = c.loop-cache.invariant in consistent-own c.args.memory.now.owner c.args.memory.now.pages (group_count c.args.cache.now.region) c.loop-cache.memory c.loop-cache.cache.region i.consistent

pub make_room-requires-clause-group : goal.make_room-requires-clause-group
make_room-requires-clause-group g c = has-kept c.args.cache.now.region c.loop-cache.cache.region c.args.group c.loop-cache.invariant.consistent.made.groups c.requires.group

pub make_room-requires-clause-unguarded : goal.make_room-requires-clause-unguarded
make_room-requires-clause-unguarded g c = c.loop-cache.invariant.unguarded

pub loop-cache-init : goal.loop-cache-init
loop-cache-init g c = record {
  consistent = c.requires.consistent;
  unguarded = c.requires.unguarded;
  taken = takes-none c.args.memory.now c.requires.consistent.made.counted.backs;
  evicted = evicted-none g.E.Evictions.tells (pressure c.args.memory.now.pages c.args.memory.now.lent (group_count c.args.cache.now.region)) (rows_of c.args.cache.now) c.args.evictions.now;
  fewer = inl refl;
  tables = refl;
  told = c.requires.told;
}

pub loop-cache-preserved : goal.loop-cache-preserved
loop-cache-preserved g c =
    let i = c.loop-cache.invariant in let room = c.make_room.ensures in let e = c.evict.ensures in let one = e.evicted in
    let groups = group_count c.args.cache.now.region in
    let bound = pressure c.args.memory.now.pages c.args.memory.now.lent groups in let rows = rows_of c.args.cache.now in let rest = rows_of c.make_room.new.cache in
    let h : HasEvicted g.E.Evictions.tells bound rows rest c.args.evictions.now c.loop-cache.evictions = subst (λ (r : List Row). HasEvicted g.E.Evictions.tells bound rows r c.args.evictions.now c.loop-cache.evictions) (sym room.rows) i.evicted in
    let consistent =
    consistent-since c.args.memory.now.owner c.args.memory.now.pages groups c.loop-cache.memory c.make_room.new.memory c.loop-cache.cache.region c.make_room.new.cache.region i.consistent.made room.consistent
    in
    let above : bound < live rest = pressure-kept groups c.args.memory.now c.loop-cache.memory (live rest) i.taken
    (subst (λ count. pressure c.loop-cache.memory.pages c.loop-cache.memory.lent count < live rest) i.consistent.made.groups (c.loop-cache-test.ensures.pressed refl)) in
    let evicts = evictions_are_counted-more bound one.0 rows rest h.tags h.evicts one.1 above in
    let same = ap length room.rows in let one-less = e.one_less in let less = e.spare in let enough = i.told in
    record {
      consistent = e.consistent c.args.memory.now.owner c.args.memory.now.pages groups c.make_room.new.memory consistent;
      unguarded = λ k. e.guards k ∙ room.unguarded k;
      taken = takes-both c.args.memory.now c.loop-cache.memory c.make_room.new.memory i.taken room.taken;
      evicted = evicted-more g.E.Evictions.tells bound one.0 rows rest (rows_of c.evict.new.cache) c.args.evictions.now c.loop-cache.evictions c.evict.new.evictions h (subst (Evicts bound rows (h.tags ++ one.0 ∷ [])) (sym e.rows) evicts) one.2;
      fewer = inr e.few;
      tables = e.tables ∙ room.tables ∙ i.tables;
      told = omega (arith, one-less, same, less, enough);
    }

pub returns-clause-consistent : goal.returns-clause-consistent
returns-clause-consistent g c =
    let i = c.loop-cache.invariant in
    consistent-since c.args.memory.now.owner c.args.memory.now.pages (group_count c.args.cache.now.region) c.loop-cache.memory c.make_room.new.memory c.loop-cache.cache.region c.make_room.new.cache.region i.consistent.made c.make_room.ensures.consistent

pub returns-clause-unguarded : goal.returns-clause-unguarded
returns-clause-unguarded g c = c.make_room.ensures.unguarded

pub returns-clause-taken : goal.returns-clause-taken
returns-clause-taken g c = takes-both c.args.memory.now c.loop-cache.memory c.make_room.new.memory c.loop-cache.invariant.taken c.make_room.ensures.taken
