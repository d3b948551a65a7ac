use Rattle.std.proofs.Common.{◌≡◌, ℕ, ◌+◌, ◌-◌, take, drop, sym, subst, ◌∙◌, arith}
use Rattle.std.proofs.lemmas.Slice.Eq.{bytes_eq-Decides}
use Rattle.key_index.proofs.Shares.{same_more}
use Rattle.key_index.proofs.shared.shared_strides.Goals as goal

pub loop-count-preserved : goal.loop-count-preserved
loop-count-preserved c =
    let n = c.loop-count.count in
    let s = c.args.stride in
    let same : n + s - n ≡ s = omega arith in
    same_more n s c.args.a.now c.args.b.now c.loop-count.invariant (omega arith) (omega arith)
    (subst (λ (m : ℕ). take m (drop n c.args.a.now) ≡ take m (drop n c.args.b.now)) same ((bytes_eq-Decides _ _).0 (sym c.eq.ensures ∙ c.if-eq.true)))
