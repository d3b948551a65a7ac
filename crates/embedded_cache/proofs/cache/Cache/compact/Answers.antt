use Rattle.std.proofs.Common.{sym, subst, arith}
use Rattle.std.specs.Prelude.{vec_capacity}
use Rattle.embedded_cache.specs.States.{EmbeddedState, IsUnguarded}
use Rattle.embedded_cache.proofs.Kept.{limits_still}
use Rattle.embedded_cache.proofs.cache.Cache.compact.Goals as goal

pub returns-clause-guarded : goal.returns-clause-guarded
returns-clause-guarded c =
    let e = c.compact.ensures.guarded in (
      λ guarded. λ none. e.0 guarded (subst (λ (s : EmbeddedState). IsUnguarded s) (sym c.self.view_is) none),
      λ some. e.1 (λ none. some (subst (λ (s : EmbeddedState). IsUnguarded s) c.self.view_is none)),
    )

pub invariant_of-self : goal.invariant_of-self
invariant_of-self c =
    let i = c.self.inside in let capacity = vec_capacity i.joined in
    limits_still i.limits.room i.limits.bound capacity capacity i.store c.compact.new.self c.compact.ensures.same (omega arith) c.self.invariant
