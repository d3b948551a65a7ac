use Rattle.std.proofs.Common.{◌≡◌, ◌↔◌, false, subst}
use Rattle.shard_store.specs.Stores.{IsUnguarded, StoreState}
use Rattle.shard_store.proofs.store.ShardStore.is_guarded.Goals as goal

pub returns : goal.returns
returns c = subst (λ (s : StoreState). c.is_guarded.result ≡ false ↔ IsUnguarded s) c.self.view_is c.is_guarded.ensures
