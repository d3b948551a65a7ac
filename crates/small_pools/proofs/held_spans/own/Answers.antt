use Rattle.std.proofs.Common.{◌≡◌, ◌+◌, ◌<◌, ◌≤◌, ◌⊎◌, inl, inr, ℕ, List, length, get_or, set, get_or-set_same, get_or-set_other, ap, ◌∙◌, arith}
use Rattle.std.proofs.Math.ListN.{length-set}
use Rattle.std.proofs.lemmas.Bool.{cases_eq}
use Rattle.index_lists.specs.Table.{Table}
use Rattle.small_pools.proofs.held_spans.own.Goals as goal

-- one more page has the first one
more_own : (mid new : List ℕ) (first page : ℕ) → page < length mid → new ≡ set mid page first → ((x : ℕ) → first ≤ x → x < page → get_or mid x 0 ≡ first) → (x : ℕ) → first ≤ x → x < page + 1 → get_or new x 0 ≡ first
more_own mid new first page inside e mine x low high = ap (λ l. get_or l x 0) e ∙
    (elim (cases_eq x page) [
      | inl here ↦ ap (λ y. get_or (set mid page first) y 0) here ∙ get_or-set_same mid page first 0 inside
      | inr n ↦ get_or-set_other mid page x first 0 n ∙ mine x low (omega arith)
    ])

-- the others are as they were
others_kept : (old mid new : List ℕ) (first page : ℕ) → first ≤ page → new ≡ set mid page first → ((x : ℕ) → (x < first) ⊎ (page ≤ x) → get_or mid x 0 ≡ get_or old x 0) → (x : ℕ) → (x < first) ⊎ (page + 1 ≤ x) → get_or new x 0 ≡ get_or old x 0
others_kept old mid new first page from e others x p = ap (λ l. get_or l x 0) e
    ∙ get_or-set_other mid page x first 0 (λ here. elim p [ inl low ↦ absurd (omega (arith, low, here, from)) | inr high ↦ absurd (omega (arith, high, here)) ])
    ∙ others x (elim p [ inl low ↦ inl low | inr high ↦ inr (omega (arith, high)) ])

pub loop-page-preserved : goal.loop-page-preserved
loop-page-preserved c =
    let i = c.loop-page.invariant in let from = i.0 in let below = c.loop-page-test.true in let long = i.2 in let most = c.requires.within in
    let entries = ap (λ (t : Table ℕ). t.entries) c.set_written.ensures in (
      omega (arith, from),
      ap (λ (t : Table ℕ). t.written) c.set_written.ensures ∙ i.1,
      ap length entries ∙ length-set c.loop-page.firsts.entries c.loop-page.page c.args.first ∙ long,
      more_own c.loop-page.firsts.entries c.set_written.new.self.entries c.args.first c.loop-page.page (omega (arith, below, long, most)) entries i.3,
      others_kept c.args.firsts.now.entries c.loop-page.firsts.entries c.set_written.new.self.entries c.args.first c.loop-page.page from entries i.4,
    )

pub returns-clause-others : goal.returns-clause-others
returns-clause-others c =
    let from = c.loop-page.invariant.0 in let order = c.requires.order in let past = c.loop-page-test.false in let end = c.loop-page.auto.page-end in
    λ x p. c.loop-page.invariant.4 x (elim p [ inl low ↦ inl low | inr high ↦ inr (omega (arith, high, end)) ])
