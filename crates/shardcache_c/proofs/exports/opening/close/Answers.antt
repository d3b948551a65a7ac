use Rattle.std.proofs.Common.{inl, inr, refl, sym, ap, ◌∙◌, arith}
use Rattle.shardcache_c.proofs.Refused.{guarded}
use Rattle.shardcache_c.specs.Handles.{cache_over}
use Rattle.shardcache_c.proofs.exports.opening.close.Goals as goal

pub returns-then-is_guarded-clause-why : goal.returns-then-is_guarded-clause-why
returns-then-is_guarded-clause-why c = λ no. inr (inl (guarded c.args.shard.now (sym c.take.ensures.value ∙ c.in-Some.is) c.is_guarded.ensures c.if-is_guarded.true))

pub returns-then-blocks_out-ne0-clause-why : goal.returns-then-blocks_out-ne0-clause-why
returns-then-blocks_out-ne0-clause-why c = λ no.
    inr (inr (refl, c.in-Some.opened.cache, ap cache_over (sym c.take.ensures.value ∙ c.in-Some.is), omega (arith, c.blocks_out.ensures, c.if-blocks_out-ne0.true)))
