use Rattle.std.proofs.Common.{◌≡◌, ◌≢◌, ◌+◌, ◌%◌, ◌<◌, ℕ, sym, subst}
use Rattle.regions.specs.Segments as segments
use Rattle.regions.specs.Shapes.{group_count, guards_of, most_guards}
use Rattle.shard_store.specs.Stores.{StoreState, group_for, with_guards}
use Rattle.shard_store.specs.inside.Consistent.{store_of}
use Rattle.shard_store.proofs.Guarding.{consistent-guarded, store-guarded}
use Rattle.shard_store.proofs.Holding.{consistent-own}
use Rattle.shard_store.proofs.store.ShardStore.guard.Goals as goal

pub guard-requires-clause-few : goal.guard-requires-clause-few
guard-requires-clause-few c =
    subst (λ (g : ℕ). guards_of c.self.inside.cache.region g < most_guards) (sym c.group_of-group.ensures.group)
    (subst (λ (s : StoreState). guards_of s.region (group_for s c.args.table) < most_guards) (sym c.self.view_is) c.requires.few)

pub returns-clause-guards : goal.returns-clause-guards
returns-clause-guards c =
    let m = c.self.inside.memory in let old = c.self.inside.cache in let new = c.guard.new.self in let table = c.args.table in
    let is = subst (λ (g : ℕ). new.region ≡ segments.with_guards old.region g (guards_of old.region g + 1)) c.group_of-group.ensures.group c.guard.ensures.guards in
    subst (λ (s : StoreState). store_of m new ≡ with_guards s (group_for s table) (guards_of s.region (group_for s table) + 1)) c.self.view_is
    (store-guarded m old new (table % group_count old.region) (guards_of old.region (table % group_count old.region) + 1) c.guard.ensures.rows c.guard.ensures.keeps.room is)

pub returns-clause-count : goal.returns-clause-count
returns-clause-count c =
    let old = c.self.inside.cache in let new = c.guard.new.self in let table = c.args.table in
    let risen = subst (λ (g : ℕ). guards_of new.region g ≡ guards_of old.region g + 1) c.group_of-group.ensures.group c.guard.ensures.count in
    subst (λ (s : StoreState). guards_of new.region (group_for s table) ≡ guards_of s.region (group_for s table) + 1) c.self.view_is risen

pub returns-clause-others : goal.returns-clause-others
returns-clause-others c =
    let old = c.self.inside.cache in let new = c.guard.new.self in let table = c.args.table in
    let others = subst (λ (n : ℕ). (g : ℕ) → g ≢ n → guards_of new.region g ≡ guards_of old.region g) c.group_of-group.ensures.group c.guard.ensures.others in
    subst (λ (s : StoreState). (g : ℕ) → g ≢ group_for s table → guards_of new.region g ≡ guards_of s.region g) c.self.view_is others

pub invariant_of-self : goal.invariant_of-self
invariant_of-self c =
    let m = c.self.inside.memory in let old = c.self.inside.cache.region in let new = c.guard.new.self.region in let group = c.group_of-group.result in
    consistent-own m.owner m.pages (group_count old) m new
    (consistent-guarded m.owner m.pages (group_count old) m old new group (guards_of old group + 1) c.guard.ensures.guards c.self.invariant)
