use mathlib.Core.List.{[]}
use mir.Syntax.{named}
use Rattle.std.proofs.Common.{refl, sym, subst}
use Rattle.regions.specs.Shapes.{group_count}
use Rattle.shard_store.specs.Stores.{IsSameStore, IsUnguarded, StoreState}
use Rattle.shard_store.specs.contracts.store.ShardStore.{the_view}
use Rattle.shard_store.proofs.Holding.{consistent-held, consistent-own}
use Rattle.shard_store.proofs.store.ShardStore.compact.Goals as goal

pub compact-requires : goal.compact-requires
compact-requires c = c.self.invariant.free

pub returns-clause-guarded : goal.returns-clause-guarded
returns-clause-guarded c =
    let e = c.compact.ensures.guarded in (
      λ guarded none. e.0 guarded (subst (λ (s : StoreState). IsUnguarded s) (sym c.self.view_is) none),
      λ some. e.1 (λ none. some (subst (λ (s : StoreState). IsUnguarded s) c.self.view_is none)),
    )

pub returns-clause-same : goal.returns-clause-same
returns-clause-same c =
    let m = c.self.inside.memory in let e = c.compact.ensures in
    let new = the_view (record { mir = named 1; lft = [] }) (record { memory = m; cache = c.compact.new.self }) in
    subst (λ (s : StoreState). IsSameStore s new) c.self.view_is (record {
      shard = refl;
      pages = refl;
      regions = e.holds.groups;
      room = e.room;
      list = refl;
      guards = λ g. e.holds.guards g;
    })

pub invariant_of-self : goal.invariant_of-self
invariant_of-self c =
    let m = c.self.inside.memory in let region = c.self.inside.cache.region in let e = c.compact.ensures in let new = c.compact.new.self.region in
    consistent-own m.owner m.pages (group_count region) m new (consistent-held m.owner m.pages (group_count region) m region new e.holds e.free c.self.invariant)
