-- Where coalescing is complete, an aligned run of free pages lies in one free span.
use Rattle.std.proofs.Common.{◌≡◌, ℕ, zero, suc, ◌+◌, ◌%◌, ◌^◌, ◌<◌, ◌≤◌, ◌⊎◌, inl, inr, [], refl, sym, ap, subst, ◌∙◌, arith}
use Rattle.std.proofs.lemmas.Nat.{pow_pos}
use Rattle.std.proofs.lemmas.Bool.{cases_eq}
use Rattle.common_lemmas.proofs.Orders.{lt_or_ge}
use Rattle.common_lemmas.proofs.Orders.{lt_or_ge}
use Rattle.common_lemmas.specs.Lists.{times}
use Rattle.layout.specs.Sizes.{greatest_order}
use Rattle.span_lists.specs.Buddies.{buddy}
use Rattle.span_lists.specs.Layout.{Layout, free_at, IsFree, IsAllocated, Divides, IsCoalesced, HasNone, IsGreatest, IsBlocked}
use Rattle.common_lemmas.proofs.Powers.{pow_twice, coarser, ends_aligned, nested, aligned_step}
use Rattle.span_lists.proofs.Halves.{buddy_of_lower}

-- the page lies in a free span
abbrev pub LiesFree : Layout → ℕ → Type 0
LiesFree s x = (p : ℕ) × (k : ℕ) × IsFree s p k × (p ≤ x) × (x < p + 2 ^ k)

abbrev pub LiesAllocated : Layout → ℕ → Type 0
LiesAllocated s x = (p : ℕ) × (k : ℕ) × IsAllocated s p k × (p ≤ x) × (x < p + 2 ^ k)

abbrev LiesWhole : Layout → ℕ → ℕ → Type 0
LiesWhole s b k = (q : ℕ) × (j : ℕ) × IsFree s q j × (k ≤ j) × (q ≤ b) × (b + 2 ^ k ≤ q + 2 ^ j)

pub free_whole : (s : Layout) → Divides s → IsCoalesced s → (k b : ℕ) → k ≤ greatest_order → b % 2 ^ k ≡ 0 → ((x : ℕ) → b ≤ x → x < b + 2 ^ k → LiesFree s x) → LiesWhole s b k
free_whole s divided coalesced zero b small aligned lies =
    let one : 2 ^ 0 ≡ 1 = refl in
    let at = lies b (omega arith) (omega (arith, one)) in
    let pos = pow_pos at.1 in let l = at.3 in let u = at.4 in
    (at.0, at.1, at.2, omega arith, l, omega (arith, one))
free_whole s divided coalesced (suc k) b small aligned lies =
    let e : k + 1 ≡ suc k = omega arith in
    let two : 2 ^ suc k ≡ 2 ^ k + 2 ^ k = ap (λ n. 2 ^ n) (sym e) ∙ pow_twice k in
    let pos = pow_pos k in
    let a_low : b % 2 ^ k ≡ 0 = coarser b k (suc k) (omega arith) aligned in
    let a_high : (b + 2 ^ k) % 2 ^ k ≡ 0 = ends_aligned b k k (omega arith) a_low in
    let low = free_whole s divided coalesced k b (omega arith) a_low (λ x l u. lies x l (omega arith)) in
    let high = free_whole s divided coalesced k (b + 2 ^ k) (omega arith) a_high (λ x l u. lies x (omega arith) (omega arith)) in
    let low_k = low.3 in let low_l = low.4 in let low_u = low.5 in
    let high_k = high.3 in let high_l = high.4 in let high_u = high.5 in
    let low_span = divided.spans low.0 low.1 (inl low.2) in
    let high_span = divided.spans high.0 high.1 (inl high.2) in
    elim (lt_or_ge k low.1) [
      | inl longer ↦ (low.0, low.1, low.2, (omega arith), low_l, (let n = nested b low.0 (suc k) low.1 (omega arith) aligned low_span.1 (omega arith) in n))
      | inr same ↦ elim (lt_or_ge k high.1) [
        | inl longer ↦ (
          high.0,
          high.1,
          high.2,
          (omega arith),
          (elim (lt_or_ge b high.0) [
            | inl after ↦ absurd (let n = aligned_step b high.0 (2 ^ suc k) (pow_pos (suc k)) aligned (coarser high.0 (suc k) high.1 (omega arith) high_span.1) after in omega (arith, n))
            | inr g ↦ g
          ]),
          (omega (arith, high_u)),
        )
        | inr same' ↦ absurd
            (let jl : low.1 ≡ k = omega arith in
            let jh : high.1 ≡ k = omega arith in
            let low_u' : b + 2 ^ k ≤ low.0 + 2 ^ k = subst (λ z. b + 2 ^ k ≤ low.0 + 2 ^ z) jl low_u in
            let high_u' : b + 2 ^ k + 2 ^ k ≤ high.0 + 2 ^ k = subst (λ z. b + 2 ^ k + 2 ^ k ≤ high.0 + 2 ^ z) jh high_u in
            let at_low : low.0 ≡ b = omega arith in
            let at_high : high.0 ≡ b + 2 ^ k = omega arith in
            let free_low : IsFree s b k = subst (λ z. IsFree s z k) at_low (subst (λ z. IsFree s low.0 z) jl low.2) in
            let free_high : IsFree s (b + 2 ^ k) k = subst (λ z. IsFree s z k) at_high (subst (λ z. IsFree s high.0 z) jh high.2) in
            let bud : buddy b k ≡ b + 2 ^ k = buddy_of_lower b k (subst (λ z. b % 2 ^ z ≡ 0) (sym e) aligned) in
            coalesced b k (omega arith) free_low (subst (λ z. IsFree s z k) (sym bud) free_high))
      ]
    ]

-- each page of a run lies in a free span, or one lies in an allocated span
search_run : (s : Layout) → Divides s → (b n : ℕ) → b + n ≤ s.pages → ((x : ℕ) → b ≤ x → x < b + n → LiesFree s x) ⊎ ((x : ℕ) × (b ≤ x) × (x < b + n) × LiesAllocated s x)
search_run s divided b zero within = inl (λ x l u. absurd (omega arith))
search_run s divided b (suc n) within =
    elim (search_run s divided b n (omega arith)) [
      | inr allocated ↦ (let u = allocated.2 in inr (allocated.0, allocated.1, omega arith, allocated.3))
      | inl free ↦
          (let c = divided.covered (b + n) (omega arith) in
          elim c.2 [
            | inl f ↦ inl (λ x l u. elim (cases_eq x (b + n)) [
              | inl e ↦ subst (LiesFree s) (sym e) (c.0, c.1, f, c.3, c.4)
              | inr d ↦ free x l (omega arith)
            ])
            | inr o ↦ inr (b + n, omega arith, omega arith, (c.0, c.1, o, c.3, c.4))
          ])
    ]

none_of : (s : Layout) (p k : ℕ) → free_at s k ≡ [] → ¬ IsFree s p k
none_of s p k e h = (let none : times p (free_at s k) ≡ 0 = ap (times p) e in let held : 1 ≤ times p (free_at s k) = h in absurd (omega arith))

-- where no free span has the order or a greater one, each run of its length has a page of an allocated span
pub blocked : (s : Layout) (order : ℕ) → Divides s → IsCoalesced s → order ≤ greatest_order → HasNone s order → IsBlocked s order
blocked s order divided coalesced small none b aligned within =
    elim (search_run s divided b (2 ^ order) within) [
      | inr allocated ↦ (allocated.0, allocated.3.0, allocated.3.1, allocated.1, allocated.2, allocated.3.2, allocated.3.3, allocated.3.4)
      | inl free ↦ absurd (let w = free_whole s divided coalesced order b small aligned free in
          let o = (divided.spans w.0 w.1 (inl w.2)).0 in
          none_of s w.0 w.1 (none w.1 w.3 (omega arith)) w.2)
    ]

-- where nothing is allocated, each free span is the longest that is aligned there and fits
pub greatest : (s : Layout) → Divides s → IsCoalesced s → ((x k : ℕ) → ¬ IsAllocated s x k) → (p k : ℕ) → IsFree s p k → IsGreatest s.pages p k
greatest s divided coalesced none p k held j longer small aligned within =
    elim (search_run s divided p (2 ^ j) within) [
      | inr allocated ↦ none allocated.3.0 allocated.3.1 allocated.3.2
      | inl free ↦
          (let w = free_whole s divided coalesced j p small aligned free in
          let wk = w.3 in let wl = w.4 in let wu = w.5 in
          let pos = pow_pos k in let posj = pow_pos j in
          elim (cases_eq w.0 p) [
            | inl e ↦ absurd (let same = divided.one p w.1 k (inl (subst (λ z. IsFree s z w.1) e w.2)) (inl held) in omega (arith, same, wk, longer))
            | inr d ↦ absurd (let apart = divided.apart w.0 p w.1 k (inl w.2) (inl held) (omega arith) in omega (arith, apart, wu, posj))
          ])
    ]
