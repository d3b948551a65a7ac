use Rattle.std.proofs.Common.{sym, subst}
use Rattle.shard_store.specs.Stores.{IsUnguarded, StoreState}
use Rattle.shard_store.proofs.store.ShardStore.finish.Goals as goal

pub give_back-requires-clause-unguarded : goal.give_back-requires-clause-unguarded
give_back-requires-clause-unguarded c = subst (λ (s : StoreState). IsUnguarded s) (sym c.self.view_is) c.requires.unguarded
