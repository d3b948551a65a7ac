use mathlib.Core.List.{[]}
use mir.Syntax.{named}
use Rattle.std.proofs.Common.{length, take, drop, ap, sym, ◌∙◌, subst}
use Rattle.std.specs.List.{refill}
use Rattle.rows.specs.Apply.{scanned}
use Rattle.rows.specs.Key.{in_table}
use Rattle.rows.specs.Evictions.{Evicts}
use Rattle.rows.specs.KeyBody.{AreKeys}
use Rattle.regions.specs.Shapes.{group_count, guards_of}
use Rattle.row_cache.specs.Rows.{CacheState, rows_of}
use Rattle.shard_store.specs.Stores.{IsUnguarded, StoreState}
use Rattle.shard_store.specs.Lending.{LendsBlock}
use Rattle.shard_store.specs.Works.{EvictsForBlock, floor_of}
use Rattle.shard_store.specs.inside.Consistent.{IsConsistent}
use Rattle.shard_store.specs.contracts.store.ShardStore.{the_view}
use Rattle.shard_store.proofs.Holding.{consistent-own}
use Rattle.shard_store.proofs.Homecoming.{lends-block, lends-written}
use Rattle.shard_store.proofs.Lookups.{refill-whole}
use Rattle.shard_store.proofs.store.ShardStore.lend_keys.Goals as goal

pub find_block-block-requires-clause-unguarded : goal.find_block-block-requires-clause-unguarded
find_block-block-requires-clause-unguarded g c = subst (λ (s : StoreState). IsUnguarded s) (sym c.self.view_is) c.requires.unguarded

pub returns-clause-lends : goal.returns-clause-lends
returns-clause-lends g c =
    let a = c.self.inside.memory in let b = c.find_block-block.new.memory in let block = c.find_block-block.result in
    let new = the_view (record { mir = named 1; lft = [] }) (record { memory = b; cache = c.write_keys-scanned.new.cache }) in
    let bytes = refill (length block.piece.bytes) block.piece.bytes c.write_keys-scanned.new.into in
    let same = c.write_keys-scanned.auto.into ∙ ap length c.bytes_mut.ensures.value in
    let whole = refill-whole block.piece.bytes c.write_keys-scanned.new.into same in
    subst (λ (old : StoreState). LendsBlock c.args.share old new (record block { piece = record block.piece { bytes = bytes } })) c.self.view_is
    (lends-written c.args.share (the_view (record { mir = named 1; lft = [] }) c.self.inside) new block bytes (ap length whole ∙ same)
    (lends-block c.args.share _ a b c.self.inside.cache c.write_keys-scanned.new.cache block c.find_block-block.ensures.given))

pub returns-clause-evicted : goal.returns-clause-evicted
returns-clause-evicted g c =
    let tells = g.E.Evictions.tells in let f = c.find_block-block.ensures in let given = f.given in let same = c.write_keys-scanned.ensures.unchanged in
    let m = c.self.inside.memory in let rows = rows_of c.self.inside.cache in
    let new = the_view (record { mir = named 1; lft = [] }) (record { memory = c.find_block-block.new.memory; cache = c.write_keys-scanned.new.cache }) in
    subst (λ (old : StoreState). EvictsForBlock tells old new c.args.evictions.now c.find_block-block.new.evictions) c.self.view_is (record {
      evicted = f.evicted.tags;
      evicts = subst (λ (k : CacheState). Evicts (floor_of m.pages m.lent (group_count c.self.inside.cache.region)) rows f.evicted.tags (rows_of k)) (sym same) f.evicted.evicts;
      told = f.evicted.told;
      same = record {
        shard = given.gives.owner ∙ given.came.owner;
        pages = given.gives.pages ∙ given.came.pages;
        regions = ap (λ (k : CacheState). group_count k.region) same ∙ f.consistent.made.groups;
        room = ap (λ (k : CacheState). k.room) same ∙ f.tables;
        list = given.gives.list ∙ given.came.list;
        guards = λ k. ap (λ (x : CacheState). guards_of x.region k) same ∙ f.unguarded k ∙ sym (ap (λ (v : StoreState). guards_of v.region k) c.self.view_is ∙ c.requires.unguarded k);
      };
    })

pub returns-clause-keys : goal.returns-clause-keys
returns-clause-keys g c =
    let block = c.find_block-block.result in let w = c.write_keys-scanned in let bytes = refill (length block.piece.bytes) block.piece.bytes w.new.into in
    let whole = refill-whole block.piece.bytes w.new.into (w.auto.into ∙ ap length c.bytes_mut.ensures.value) in
    subst (λ (k : CacheState). AreKeys (take w.result.bytes (drop c.args.head bytes)) (scanned (in_table c.args.table c.args.from.now) c.args.count (rows_of k))) (sym w.ensures.unchanged)
    (subst (λ all. AreKeys (take w.result.bytes (drop c.args.head all)) (scanned (in_table c.args.table c.args.from.now) c.args.count (rows_of c.find_block-block.new.cache))) (sym whole) w.ensures.keys)

pub invariant_of-self : goal.invariant_of-self
invariant_of-self g c =
    let m = c.self.inside.memory in let f = c.find_block-block in let groups = group_count c.self.inside.cache.region in
    subst (λ (k : CacheState). IsConsistent f.new.memory.owner f.new.memory.pages (group_count k.region) f.new.memory k.region) (sym c.write_keys-scanned.ensures.unchanged)
    (consistent-own m.owner m.pages groups f.new.memory f.new.cache.region f.ensures.consistent)
