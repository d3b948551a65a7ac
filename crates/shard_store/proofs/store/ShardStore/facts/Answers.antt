use Rattle.std.proofs.Common.{◌≡◌, ◌^◌, ◌<◌, ◌≤◌, length, refl, subst}
use Rattle.layout.specs.Sizes.{tickets}
use Rattle.layout.specs.Counts.{raised}
use Rattle.regions.specs.Shapes.{group_count}
use Rattle.shard_memory.specs.Tickets.{tickets_out}
use Rattle.shard_store.specs.Stores.{StoreState}
use Rattle.shard_store.proofs.store.ShardStore.facts.Goals as goal

pub returns-clause-owner : goal.returns-clause-owner
returns-clause-owner c = subst (λ (s : StoreState). s.shard ≡ s.list.owner) c.self.view_is c.self.invariant.made.counted.owner

pub returns-clause-rows : goal.returns-clause-rows
returns-clause-rows c = subst (λ (s : StoreState). length s.rows ≤ s.room) c.self.view_is c.rows.ensures.room

pub returns-clause-tickets : goal.returns-clause-tickets
returns-clause-tickets c = subst (λ (s : StoreState). length s.lent ≡ tickets) c.self.view_is c.self.invariant.made.counted.tickets

pub returns-clause-lends : goal.returns-clause-lends
returns-clause-lends c = subst (λ (s : StoreState). s.lends ≡ raised s.backs (tickets_out s.lent)) c.self.view_is c.self.invariant.made.counted.lends

pub returns-clause-backs : goal.returns-clause-backs
returns-clause-backs c = subst (λ (s : StoreState). s.backs < 2 ^ 64) c.self.view_is c.self.invariant.made.counted.backs

pub returns-clause-regions : goal.returns-clause-regions
returns-clause-regions c = subst (λ (s : StoreState). group_count s.region ≡ s.regions) c.self.view_is refl
