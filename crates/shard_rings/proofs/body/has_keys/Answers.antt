use Rattle.std.proofs.Common.{◌≡◌, ℕ, ◌+◌, ◌-◌, arith, true≢false, sym, subst}
use Rattle.shard_rings.specs.inside.Body.{HasKeys}
use Rattle.shard_rings.proofs.body.has_keys.Goals as goal

pub returns-in_default : goal.returns-in_default
returns-in_default c =
    let left : c.args.count - c.loop.counter ≡ (c.args.count - c.loop.counter - 1) + 1 = omega arith in (
      λ no. absurd (true≢false (sym no)),
      λ h. absurd (c.in_default.ensures.none (c.args.count - c.loop.counter - 1) (subst (λ (n : ℕ). HasKeys c.loop.rest.now n) left (c.loop.invariant.0 h))),
    )
