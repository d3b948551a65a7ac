use Rattle.std.proofs.Common.{◌≡◌, ◌↔◌, false, subst}
use Rattle.embedded_cache.specs.States.{EmbeddedState, IsUnguarded}
use Rattle.embedded_cache.proofs.cache.Cache.is_guarded.Goals as goal

pub returns : goal.returns
returns c = subst (λ (s : EmbeddedState). c.is_guarded.result ≡ false ↔ IsUnguarded s) c.self.view_is c.is_guarded.ensures
