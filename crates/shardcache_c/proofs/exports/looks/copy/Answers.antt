use Rattle.std.proofs.Common.{List, ℕ, inl, inr, refl, ap, arith}
use Rattle.std.specs.Prelude.{length}
use Rattle.shardcache_c.proofs.exports.looks.copy.Goals as goal

pub returns-in_default-clause-why : goal.returns-in_default-clause-why
returns-in_default-clause-why c = λ no. inr (inr (inr (inr (refl, c.args.cache.now, refl, c.in_default.ensures.value))))

pub returns-then-value-into-clause-why : goal.returns-then-value-into-clause-why
returns-then-value-into-clause-why c = λ no. let row = c.in-Some.ensures.value in
    inl (refl, c.args.cache.now, row.0, refl, row.1, omega (arith, ap (λ (v : List ℕ). length v) row.2, c.if-value-into.true))
