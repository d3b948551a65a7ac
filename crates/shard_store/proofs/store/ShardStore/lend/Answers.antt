use mathlib.Core.List.{[]}
use mir.Syntax.{named}
use Rattle.std.proofs.Common.{◌≤◌, ap, sym, ◌∙◌, subst}
use Rattle.regions.specs.Shapes.{group_count, guards_of}
use Rattle.shard_store.specs.Stores.{IsUnguarded, StoreState}
use Rattle.shard_store.specs.Lending.{LendsBlock}
use Rattle.shard_store.specs.Works.{EvictsForBlock, floor_of, pressure}
use Rattle.shard_store.specs.contracts.store.ShardStore.{the_view}
use Rattle.shard_store.proofs.Holding.{consistent-own}
use Rattle.shard_store.proofs.Homecoming.{lends-block}
use Rattle.shard_store.proofs.Pressure.{floor-below}
use Rattle.shard_store.proofs.store.ShardStore.lend.Goals as goal

pub find_block-requires-clause-unguarded : goal.find_block-requires-clause-unguarded
find_block-requires-clause-unguarded g c = subst (λ (s : StoreState). IsUnguarded s) (sym c.self.view_is) c.requires.unguarded

pub returns-clause-lends : goal.returns-clause-lends
returns-clause-lends g c =
    let a = c.self.inside.memory in let b = c.find_block.new.memory in let block = c.find_block.result in
    let new = the_view (record { mir = named 1; lft = [] }) (record { memory = b; cache = c.find_block.new.cache }) in
    subst (λ (old : StoreState). LendsBlock c.args.share old new block) c.self.view_is
    (lends-block c.args.share c.args.size a b c.self.inside.cache c.find_block.new.cache block c.find_block.ensures.given)

pub returns-clause-evicted : goal.returns-clause-evicted
returns-clause-evicted g c =
    let tells = g.E.Evictions.tells in let f = c.find_block.ensures in let given = f.given in
    let new = the_view (record { mir = named 1; lft = [] }) (record { memory = c.find_block.new.memory; cache = c.find_block.new.cache }) in
    subst (λ (old : StoreState). EvictsForBlock tells old new c.args.evictions.now c.find_block.new.evictions) c.self.view_is (record {
      evicted = f.evicted.tags;
      evicts = f.evicted.evicts;
      told = f.evicted.told;
      same = record {
        shard = given.gives.owner ∙ given.came.owner;
        pages = given.gives.pages ∙ given.came.pages;
        regions = f.consistent.made.groups;
        room = f.tables;
        list = given.gives.list ∙ given.came.list;
        guards = λ k. f.unguarded k ∙ sym (ap (λ (v : StoreState). guards_of v.region k) c.self.view_is ∙ c.requires.unguarded k);
      };
    })

pub returns-clause-floor : goal.returns-clause-floor
returns-clause-floor g c =
    let a = c.self.inside.memory in let b = c.find_block.new.memory in let groups = group_count c.self.inside.cache.region in
    subst (λ (s : StoreState). floor_of s.pages s.lent s.regions ≤ pressure b.pages b.lent (group_count c.find_block.new.cache.region)) c.self.view_is
    (subst (λ count. floor_of a.pages a.lent groups ≤ pressure b.pages b.lent count) (sym c.find_block.ensures.consistent.made.groups)
    (floor-below c.args.share c.args.size groups a b c.find_block.result c.find_block.ensures.given))

pub invariant_of-self : goal.invariant_of-self
invariant_of-self g c =
    let m = c.self.inside.memory in let f = c.find_block in
    consistent-own m.owner m.pages (group_count c.self.inside.cache.region) f.new.memory f.new.cache.region f.ensures.consistent
