use Rattle.std.proofs.Common.{arith}
use Rattle.std.specs.Prelude.{vec_capacity}
use Rattle.embedded_cache.proofs.Kept.{limits_still}
use Rattle.embedded_cache.proofs.cache.Cache.erase.Goals as goal

pub invariant_of-self : goal.invariant_of-self
invariant_of-self c =
    let i = c.self.inside in let capacity = vec_capacity i.joined in
    limits_still i.limits.room i.limits.bound capacity capacity i.store c.erase.new.self c.erase.ensures.same (omega arith) c.self.invariant
