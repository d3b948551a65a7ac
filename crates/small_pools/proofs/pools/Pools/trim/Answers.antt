use Rattle.std.proofs.Common.{sym, ◌∙◌, subst}
use Rattle.small_pools.specs.Objects.{AreUsed}
use Rattle.small_pools.proofs.pools.Pools.trim.Goals as goal

pub returns-clause-unchanged : goal.returns-clause-unchanged
returns-clause-unchanged c = λ used.
    let same = c.trim_marked.ensures.unchanged (subst AreUsed (sym c.self.view_is) used) in (same.0 ∙ c.self.view_is, same.1)
