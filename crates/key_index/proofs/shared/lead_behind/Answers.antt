use Rattle.std.proofs.Common.{◌≡◌, ℕ, zero, suc, ◌+◌, ◌-◌, ◌*◌, ◌/◌, ◌^◌, ◌<◌, drop, refl, sym, ap, ◌∙◌, arith}
use Rattle.rows.specs.Key.{Key, key_shown}
use Rattle.key_index.specs.Lead.{first_bytes, lead_behind}
use Rattle.key_index.proofs.shared.lead_behind.Goals as goal

behind_none : (skip : ℕ) (key : Key) → skip ≡ 0 → lead_behind skip key ≡ key.table * 2 ^ 61 + first_bytes 8 key.bytes / 8
unfolding lead_behind
behind_none zero key e = refl
behind_none (suc n) key e = absurd (omega (arith, e))

behind_table : (skip : ℕ) (key : Key) → 0 < skip → lead_behind skip key ≡ first_bytes 8 (drop (skip - 1) key.bytes)
unfolding lead_behind
behind_table zero key h = absurd (omega (arith, h))
behind_table (suc n) key h = ap (λ (k : ℕ). first_bytes 8 (drop k key.bytes)) (let e : n ≡ suc n - 1 = omega arith in e)

pub returns-then-skip-eq0-clause-lead : goal.returns-then-skip-eq0-clause-lead
returns-then-skip-eq0-clause-lead c =
    c.lead_in.ensures ∙ ap (λ (first : ℕ). c.args.key.now.table * 2 ^ 61 + first / 8) c.lead_of.ensures.lead
    ∙ sym (behind_none c.args.skip (key_shown c.args.key.now) c.if-skip-eq0.true)

pub returns-clause-lead : goal.returns-clause-lead
returns-clause-lead c =
    c.lead_from.ensures.lead ∙ sym (behind_table c.args.skip (key_shown c.args.key.now) (omega (arith, c.if-skip-eq0.false)))
