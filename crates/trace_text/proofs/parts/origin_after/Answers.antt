-- One number more, in the round of the shards.
use Rattle.std.proofs.Common.{◌+◌, ◌%◌, arith, sym, ap, ◌∙◌}
use native.Mathlib.Nat.{mod_self}
use Rattle.std.proofs.Math.Nat.{mod-add-mod, mod-eq_of_lt}
use Rattle.trace_text.proofs.parts.origin_after.Goals as goal

pub returns-then-origin-shards : goal.returns-then-origin-shards
returns-then-origin-shards c at is =
    sym (sym (mod-add-mod at c.args.shards 1) ∙ ap (λ k. (k + 1) % c.args.shards) (sym is) ∙ ap (λ k. k % c.args.shards) c.if-origin-shards.true ∙ mod_self c.args.shards)

pub returns-else-origin-shards : goal.returns-else-origin-shards
returns-else-origin-shards c at is =
    let below = c.requires.below in
    let other = c.if-origin-shards.false in
    sym (mod-eq_of_lt (omega (arith, below, other))) ∙ ap (λ k. (k + 1) % c.args.shards) is ∙ mod-add-mod at c.args.shards 1
