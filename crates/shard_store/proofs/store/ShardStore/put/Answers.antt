use mathlib.Core.List.{[]}
use mir.Syntax.{named}
use Rattle.std.proofs.Common.{ap, sym, ◌∙◌, subst}
use Rattle.rows.specs.Apply as apply
use Rattle.rows.specs.Key.{in_table}
use Rattle.regions.specs.Shapes.{group_count, guards_of}
use Rattle.row_cache.specs.Rows.{reply_of}
use Rattle.shard_store.specs.Stores.{IsUnguarded, StoreState}
use Rattle.shard_store.specs.Works.{DoesAbove, pressure}
use Rattle.shard_store.specs.contracts.store.ShardStore.{the_view}
use Rattle.shard_store.proofs.Holding.{consistent-own}
use Rattle.shard_store.proofs.Telling.{done}
use Rattle.shard_store.proofs.store.ShardStore.put.Goals as goal

pub put_evicting-requires-clause-unguarded : goal.put_evicting-requires-clause-unguarded
put_evicting-requires-clause-unguarded g c = subst (λ (s : StoreState). IsUnguarded s) (sym c.self.view_is) c.requires.unguarded

pub returns-clause-stored : goal.returns-clause-stored
returns-clause-stored g c =
    let tells = g.E.Evictions.tells in let does = apply.put (in_table c.args.table c.args.key.now) c.args.value.now c.args.tag in
    let reply = reply_of c.put_evicting.result in let e = c.put_evicting.ensures in
    let old = the_view (record { mir = named 1; lft = [] }) c.self.inside in
    let new = the_view (record { mir = named 1; lft = [] }) (record { memory = c.put_evicting.new.memory; cache = c.put_evicting.new.cache }) in
    subst (λ (s : StoreState). DoesAbove tells (pressure s.pages s.lent s.regions) does reply s new c.args.evictions.now c.put_evicting.new.evictions) c.self.view_is
    (done tells (pressure old.pages old.lent old.regions) does reply old new c.args.evictions.now c.put_evicting.new.evictions e.stored (record {
      shard = e.taken.owner;
      pages = e.taken.pages;
      regions = e.consistent.made.groups;
      room = e.tables;
      list = e.taken.list;
      guards = λ k. e.unguarded k ∙ sym (ap (λ (v : StoreState). guards_of v.region k) c.self.view_is ∙ c.requires.unguarded k);
    }))

pub invariant_of-self : goal.invariant_of-self
invariant_of-self g c =
    let m = c.self.inside.memory in let e = c.put_evicting in
    consistent-own m.owner m.pages (group_count c.self.inside.cache.region) e.new.memory e.new.cache.region e.ensures.consistent
