use Rattle.std.proofs.Common.{refl, ap, inl, inr}
use Rattle.shardcache_c.specs.Handles.{cache_over}
use Rattle.shardcache_c.proofs.Opens.{stays}
use Rattle.shardcache_c.proofs.Refused.{guarded}
use Rattle.shardcache_c.proofs.exports.blocks.lend.Goals as goal

pub returns-in_default-lend_with_any-clause-refused : goal.returns-in_default-lend_with_any-clause-refused
returns-in_default-lend_with_any-clause-refused c = λ refused.
    (stays c.args.shard.now c.in-Some.opened _ c.in-Some.is refl c.in_default-lend_with_any.ensures.unchanged, refl)

pub returns-clause-done : goal.returns-clause-done
returns-clause-done c = λ done. let lent = c.in-Some-lend_with_any.lent in (
  c.in-Some.opened.cache,
  c.lend_with_any.new.cache,
  ap cache_over c.in-Some.is,
  refl,
  lent.block,
  refl,
  (lent, refl, c.in-Some-lend_with_any.ensures.lends, refl, c.tell.ensures, c.is_some.ensures),
)

pub returns-then-is_guarded-clause-why : goal.returns-then-is_guarded-clause-why
returns-then-is_guarded-clause-why c = λ no. inr (inr (inr (inr (inr (inl (guarded c.args.shard.now c.in-Some.is c.is_guarded.ensures c.if-is_guarded.true))))))

pub returns-in_default-lend_with_any-clause-why : goal.returns-in_default-lend_with_any-clause-why
returns-in_default-lend_with_any-clause-why c = λ no. inr (inr (inr (inr (inr (inr
    (refl, c.in-Some.opened.cache, ap cache_over c.in-Some.is, c.in_default-lend_with_any.ensures.none))))))
