use mathlib.Core.List.{[]}
use mir.Syntax.{named}
use Rattle.std.proofs.Common.{◌≤◌, ◌∷◌, List, length, refl, sym, subst, arith}
use Rattle.std.proofs.lemmas.List.Sums.{sum_by-cons}
use Rattle.rows.specs.Row.{Row, live, size}
use Rattle.regions.specs.Shapes.{group_count}
use Rattle.shard_store.specs.Stores.{IsSameStore, StoreState}
use Rattle.shard_store.specs.contracts.store.ShardStore.{the_view}
use Rattle.shard_store.proofs.Holding.{consistent-own}
use Rattle.shard_store.proofs.store.ShardStore.evict_last.Goals as goal

-- where there is a row, some bytes are live
some-live : (rows : List Row) → 1 ≤ length rows → 1 ≤ live rows
some-live [] some = absurd (omega (arith, some))
some-live (row ∷ rows) some = let first = sum_by-cons (λ (x : Row). size x.key.bytes x.value) row rows in omega (arith, first)

pub evict-requires-clause-some : goal.evict-requires-clause-some
evict-requires-clause-some g c = subst (λ (s : StoreState). 1 ≤ live s.rows) (sym c.self.view_is) (some-live c.args.self.now.rows c.requires.some)

pub returns-clause-same : goal.returns-clause-same
returns-clause-same g c =
    let m = c.self.inside.memory in let region = c.self.inside.cache.region in let e = c.evict.ensures in
    let new = the_view (record { mir = named 1; lft = [] }) (record { memory = m; cache = c.evict.new.cache }) in
    subst (λ (s : StoreState). IsSameStore s new) c.self.view_is (record {
      shard = refl;
      pages = refl;
      regions = (e.consistent m.owner m.pages (group_count region) m c.self.invariant).made.groups;
      room = e.tables;
      list = refl;
      guards = e.guards;
    })

pub invariant_of-self : goal.invariant_of-self
invariant_of-self g c =
    let m = c.self.inside.memory in let region = c.self.inside.cache.region in
    consistent-own m.owner m.pages (group_count region) m c.evict.new.cache.region (c.evict.ensures.consistent m.owner m.pages (group_count region) m c.self.invariant)
