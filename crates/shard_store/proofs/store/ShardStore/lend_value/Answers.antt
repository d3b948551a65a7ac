use mathlib.Core.List.{[]}
use mir.Syntax.{named}
use Rattle.std.proofs.Common.{length, drop, ap, sym, ◌∙◌, subst, arith}
use Rattle.std.specs.List.{refill}
use Rattle.rows.specs.Apply as apply
use Rattle.rows.specs.Key.{in_table}
use Rattle.regions.specs.Shapes.{group_count, guards_of}
use Rattle.row_cache.specs.Rows.{rows_of}
use Rattle.shard_store.specs.Stores.{IsUnguarded, StoreState}
use Rattle.shard_store.specs.Lending.{LendsBlock, found_in}
use Rattle.shard_store.specs.Works.{DoesAbove, floor_of}
use Rattle.shard_store.specs.contracts.store.ShardStore.{the_view}
use Rattle.shard_store.proofs.Telling.{done}
use Rattle.shard_store.proofs.Holding.{consistent-own}
use Rattle.shard_store.proofs.Homecoming.{lends-block, lends-written}
use Rattle.shard_store.proofs.Lookups.{refill-whole, shorter-behind}
use Rattle.shard_store.proofs.store.ShardStore.lend_value.Goals as goal

pub find_block-block-requires-clause-unguarded : goal.find_block-block-requires-clause-unguarded
find_block-block-requires-clause-unguarded g c = subst (λ (s : StoreState). IsUnguarded s) (sym c.self.view_is) c.requires.unguarded

pub write_found-found-requires-clause-room : goal.write_found-found-requires-clause-room
write_found-found-requires-clause-room g c =
    let m = c.self.inside.memory in let rows = rows_of c.self.inside.cache in let mid = rows_of c.find_block-block.new.cache in
    let e = c.find_block-block.ensures.evicted in let f = c.length_found.ensures.value in
    let bytes = ap length c.bytes_mut.ensures.value ∙ c.find_block-block.ensures.given.gives.bytes in
    let less = shorter-behind (floor_of m.pages m.lent (group_count c.self.inside.cache.region)) (in_table c.args.table c.args.key.now) rows mid e.tags e.evicts in
    omega (arith, bytes, less, f)

pub write_found-found-requires-clause-short : goal.write_found-found-requires-clause-short
write_found-found-requires-clause-short g c =
    let m = c.self.inside.memory in let rows = rows_of c.self.inside.cache in let mid = rows_of c.find_block-block.new.cache in
    let e = c.find_block-block.ensures.evicted in let f = c.length_found.ensures.value in let short = c.length_found.ensures.short in
    let less = shorter-behind (floor_of m.pages m.lent (group_count c.self.inside.cache.region)) (in_table c.args.table c.args.key.now) rows mid e.tags e.evicts in
    omega (arith, less, f, short)

pub returns-clause-lends : goal.returns-clause-lends
returns-clause-lends g c =
    let a = c.self.inside.memory in let b = c.find_block-block.new.memory in let block = c.find_block-block.result in
    let new = the_view (record { mir = named 1; lft = [] }) (record { memory = b; cache = c.write_found-found.new.cache }) in
    let bytes = refill (length block.piece.bytes) block.piece.bytes c.write_found-found.new.into in
    let same = c.write_found-found.auto.into ∙ ap length c.bytes_mut.ensures.value in
    let whole = refill-whole block.piece.bytes c.write_found-found.new.into same in
    subst (λ (old : StoreState). LendsBlock c.args.share old new (record block { piece = record block.piece { bytes = bytes } })) c.self.view_is
    (lends-written c.args.share (the_view (record { mir = named 1; lft = [] }) c.self.inside) new block bytes (ap length whole ∙ same)
    (lends-block c.args.share _ a b c.self.inside.cache c.write_found-found.new.cache block c.find_block-block.ensures.given))

pub returns-clause-found : goal.returns-clause-found
returns-clause-found g c =
    let tells = g.E.Evictions.tells in let f = c.find_block-block.ensures in let w = c.write_found-found.ensures in let given = f.given in let block = c.find_block-block.result in
    let m = c.self.inside.memory in let groups = group_count c.self.inside.cache.region in let bound = floor_of m.pages m.lent groups in let does = apply.get (in_table c.args.table c.args.key.now) in
    let old = the_view (record { mir = named 1; lft = [] }) c.self.inside in
    let new = the_view (record { mir = named 1; lft = [] }) (record { memory = c.find_block-block.new.memory; cache = c.write_found-found.new.cache }) in
    let whole = refill-whole block.piece.bytes c.write_found-found.new.into (c.write_found-found.auto.into ∙ ap length c.bytes_mut.ensures.value) in
    let answer = found_in c.write_found-found.result (drop c.args.head (refill (length block.piece.bytes) block.piece.bytes c.write_found-found.new.into)) in
    subst (λ (s : StoreState). DoesAbove tells (floor_of s.pages s.lent s.regions) does answer s new c.args.evictions.now c.find_block-block.new.evictions) c.self.view_is
    (done tells bound does answer old new c.args.evictions.now c.find_block-block.new.evictions (record {
      rest = rows_of c.find_block-block.new.cache;
      evicted = f.evicted;
      stored = w.rows;
      reply = ap (λ bytes. found_in c.write_found-found.result (drop c.args.head bytes)) whole ∙ w.found;
    }) (record {
      shard = given.gives.owner ∙ given.came.owner;
      pages = given.gives.pages ∙ given.came.pages;
      regions = (w.consistent m.owner m.pages groups c.find_block-block.new.memory f.consistent).made.groups;
      room = w.tables ∙ f.tables;
      list = given.gives.list ∙ given.came.list;
      guards = λ k. w.unguarded k ∙ sym (ap (λ (v : StoreState). guards_of v.region k) c.self.view_is ∙ c.requires.unguarded k);
    }))

pub invariant_of-self : goal.invariant_of-self
invariant_of-self g c =
    let m = c.self.inside.memory in let f = c.find_block-block.ensures in let w = c.write_found-found in
    let groups = group_count c.self.inside.cache.region in
    consistent-own m.owner m.pages groups c.find_block-block.new.memory w.new.cache.region (w.ensures.consistent m.owner m.pages groups c.find_block-block.new.memory f.consistent)
