use mathlib.Core.List.{[]}
use mir.Syntax.{named}
use Rattle.std.proofs.Common.{length, refl, ap, subst}
use Rattle.regions.specs.Segments.{group_at}
use Rattle.regions.specs.Shapes.{Shape, group_count}
use Rattle.shard_store.specs.Stores.{IsSameStore, StoreState}
use Rattle.shard_store.specs.contracts.store.ShardStore.{the_view}
use Rattle.shard_store.proofs.Holding.{consistent-own, consistent-shape}
use Rattle.shard_store.proofs.store.ShardStore.patch.Goals as goal

pub returns-clause-same : goal.returns-clause-same
returns-clause-same c =
    let m = c.self.inside.memory in let e = c.patch.ensures in
    let new = the_view (record { mir = named 1; lft = [] }) (record { memory = m; cache = c.patch.new.self }) in
    subst (λ (s : StoreState). IsSameStore s new) c.self.view_is (record {
      shard = refl;
      pages = refl;
      regions = ap (λ (s : Shape). length s.groups) e.shape;
      room = e.room;
      list = refl;
      guards = λ g. ap (λ (s : Shape). (group_at s.groups g).guards) e.shape;
    })

pub invariant_of-self : goal.invariant_of-self
invariant_of-self c =
    let m = c.self.inside.memory in let old = c.self.inside.cache.region in let new = c.patch.new.self.region in
    consistent-own m.owner m.pages (group_count old) m new
    (consistent-shape m.owner m.pages (group_count old) m old new c.patch.ensures.shape c.self.invariant)
