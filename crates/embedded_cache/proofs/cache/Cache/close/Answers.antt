use Rattle.std.proofs.Common.{sym, subst}
use Rattle.embedded_cache.specs.States.{EmbeddedState, IsUnguarded}
use Rattle.embedded_cache.proofs.cache.Cache.close.Goals as goal

pub finish-requires-clause-unguarded : goal.finish-requires-clause-unguarded
finish-requires-clause-unguarded c = subst (λ (s : EmbeddedState). IsUnguarded s) (sym c.self.view_is) c.requires.unguarded
