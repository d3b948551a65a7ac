-- What a changed page leaves of a cut into spans.
use Rattle.std.proofs.Common.{◌≡◌, ◌≢◌, ℕ, ◌+◌, ◌%◌, ◌^◌, ◌<◌, ◌≤◌, inl, inr, Option, Some, None, sym, ap, subst, ◌∙◌, arith}
use Rattle.std.proofs.lemmas.Nat.{pow_pos}
use Rattle.std.proofs.lemmas.Bool.{cases_eq}
use Rattle.layout.specs.Sizes.{greatest_order}
use Rattle.span_lists.specs.inside.Pages.{IsSpanAt, IsCut}
use Rattle.common_lemmas.proofs.Orders.{lt_or_ge, trichotomy}
use Rattle.common_lemmas.proofs.Orders.{lt_or_ge, trichotomy}
use Rattle.common_lemmas.proofs.Options.{some_is}
use Rattle.common_lemmas.proofs.Powers.{pow_twice, coarser, aligned_add, aligned_pow}

-- orders that are the same at each page cut alike
pub same_cut : (pages : ℕ) (at at' : ℕ → Option ℕ) → ((x : ℕ) → at' x ≡ at x) → IsCut pages at → IsCut pages at'
same_cut pages at at' same h = record {
  spans = λ x k e. (let s = h.spans x k (sym (same x) ∙ e) in record { order = s.order; aligned = s.aligned; within = s.within; alone = λ i low high. same i ∙ s.alone i low high });
  covered = λ x inside. (let c = h.covered x inside in (c.0, c.1, same c.0 ∙ c.2, c.3, c.4));
}

-- two spans of a cut that share a page are one
pub shared_page : (pages : ℕ) (at : ℕ → Option ℕ) (p q j k x : ℕ) → IsCut pages at → at p ≡ Some j → at q ≡ Some k → p ≤ x → x < p + 2 ^ j → q ≤ x → x < q + 2 ^ k → p ≡ q
shared_page pages at p q j k x h ep eq pl ph ql qh =
    elim (trichotomy p q) [
      | inl e ↦ e
      | inr (inl l) ↦ absurd (let none = (h.spans p j ep).alone q l (omega arith) in let clash : Some k ≡ None = sym eq ∙ none in cc)
      | inr (inr l) ↦ absurd (let none = (h.spans q k eq).alone p l (omega arith) in let clash : Some j ≡ None = sym ep ∙ none in cc)
    ]

-- a span is split
pub cut_split : (pages : ℕ) (at at' : ℕ → Option ℕ) (x k : ℕ) → IsCut pages at → at x ≡ Some (k + 1)
    → at' x ≡ Some k → at' (x + 2 ^ k) ≡ Some k → ((y : ℕ) → y ≢ x → y ≢ x + 2 ^ k → at' y ≡ at y) → IsCut pages at'
cut_split pages at at' x k h was low high others =
    let s = h.spans x (k + 1) was in
    let two = pow_twice k in
    let pos = pow_pos k in
    let a_low = coarser x k (k + 1) (omega arith) s.aligned in
    let a_high = aligned_add x (2 ^ k) (2 ^ k) a_low (aligned_pow k k (omega arith)) in
    let order : k ≤ greatest_order = (let o = s.order in omega (arith, o)) in
    let within = s.within in
    let alone_low : (i : ℕ) → x < i → i < x + 2 ^ k → at' i ≡ None = (λ i l u. others i (λ e. absurd (omega arith)) (λ e. absurd (omega arith)) ∙ s.alone i l (omega arith)) in
    let alone_high : (i : ℕ) → x + 2 ^ k < i → i < x + 2 ^ k + 2 ^ k → at' i ≡ None = (λ i l u. others i (λ e. absurd (omega arith)) (λ e. absurd (omega arith)) ∙ s.alone i (omega arith) (omega arith)) in
    record {
      spans = λ y j e. elim (cases_eq y x) [
        | inl yx ↦
            (let jk : k ≡ j = some_is (ap at' yx ∙ low) e in
            let made : IsSpanAt pages at' x k = record { order = order; aligned = a_low; within = (omega (arith, within)); alone = alone_low } in
            subst (λ z. IsSpanAt pages at' z j) (sym yx) (subst (λ z. IsSpanAt pages at' x z) jk made))
        | inr nx ↦ elim (cases_eq y (x + 2 ^ k)) [
          | inl yh ↦
              (let jk : k ≡ j = some_is (ap at' yh ∙ high) e in
              let made : IsSpanAt pages at' (x + 2 ^ k) k = record { order = order; aligned = a_high; within = (omega (arith, within)); alone = alone_high } in
              subst (λ z. IsSpanAt pages at' z j) (sym yh) (subst (λ z. IsSpanAt pages at' (x + 2 ^ k) z) jk made))
          | inr nh ↦
              (let was_y : at y ≡ Some j = sym (others y nx nh) ∙ e in
              let t = h.spans y j was_y in
              record {
                order = t.order;
                aligned = t.aligned;
                within = t.within;
                alone = λ i l u.
                    elim (cases_eq i x) [
                      | inl ix ↦ absurd (let none = t.alone i l u in let clash : Some (k + 1) ≡ None = sym was ∙ sym (ap at ix) ∙ none in cc)
                      | inr inx ↦ elim (cases_eq i (x + 2 ^ k)) [
                        | inl ih ↦ absurd (nx (shared_page pages at y x j (k + 1) i h was_y was (omega arith) u (omega arith) (omega arith)))
                        | inr inh ↦ others i inx inh ∙ t.alone i l u
                      ]
                    ];
              })
        ]
      ];
      covered = λ y inside. (let c = h.covered y inside in
          elim (cases_eq c.0 x) [
            | inl cx ↦
                (let ck : c.1 ≡ k + 1 = some_is c.2 (ap at cx ∙ was) in
                let upper : y < x + 2 ^ (k + 1) = subst (λ z. y < x + 2 ^ z) ck (subst (λ z. y < z + 2 ^ c.1) cx c.4) in
                let lower : x ≤ y = subst (λ z. z ≤ y) cx c.3 in
                elim (lt_or_ge y (x + 2 ^ k)) [
                  | inl l ↦ (x, k, low, lower, l)
                  | inr g ↦ (x + 2 ^ k, k, high, g, omega arith)
                ])
            | inr ncx ↦ elim (cases_eq c.0 (x + 2 ^ k)) [
              | inl ch ↦ absurd (let none = s.alone (x + 2 ^ k) (omega arith) (omega arith) in let clash : Some c.1 ≡ None = sym c.2 ∙ ap at ch ∙ none in cc)
              | inr nch ↦ (c.0, c.1, others c.0 ncx nch ∙ c.2, c.3, c.4)
            ]
          ]);
    }

-- two buddies coalesce
pub cut_coalesced : (pages : ℕ) (at at' : ℕ → Option ℕ) (x k : ℕ) → IsCut pages at → k < greatest_order → x % 2 ^ (k + 1) ≡ 0 → at x ≡ Some k → at (x + 2 ^ k) ≡ Some k
    → at' x ≡ Some (k + 1) → at' (x + 2 ^ k) ≡ None → ((y : ℕ) → y ≢ x → y ≢ x + 2 ^ k → at' y ≡ at y) → IsCut pages at'
cut_coalesced pages at at' x k h small aligned was_low was_high low high others =
    let s = h.spans x k was_low in
    let t = h.spans (x + 2 ^ k) k was_high in
    let two = pow_twice k in
    let pos = pow_pos k in
    let within = t.within in
    record {
      spans = λ y j e. elim (cases_eq y x) [
        | inl yx ↦
            (let jk : k + 1 ≡ j = some_is (ap at' yx ∙ low) e in
            let made : IsSpanAt pages at' x (k + 1) = record {
              order = omega arith;
              aligned = aligned;
              within = (omega (arith, within));
              alone = λ i l u.
                  elim (cases_eq i (x + 2 ^ k)) [
                    | inl ih ↦ ap at' ih ∙ high
                    | inr inh ↦ others i (λ z. absurd (omega arith)) inh ∙ (elim (lt_or_ge i (x + 2 ^ k)) [ inl b ↦ s.alone i l b | inr b ↦ t.alone i (omega arith) (omega arith) ])
                  ];
            } in
            subst (λ z. IsSpanAt pages at' z j) (sym yx) (subst (λ z. IsSpanAt pages at' x z) jk made))
        | inr nx ↦ elim (cases_eq y (x + 2 ^ k)) [
          | inl yh ↦ absurd (let clash : Some j ≡ None = sym e ∙ ap at' yh ∙ high in cc)
          | inr nh ↦
              (let was_y : at y ≡ Some j = sym (others y nx nh) ∙ e in
              let u = h.spans y j was_y in
              record {
                order = u.order;
                aligned = u.aligned;
                within = u.within;
                alone = λ i l v.
                    elim (cases_eq i x) [
                      | inl ix ↦ absurd (let none = u.alone i l v in let clash : Some k ≡ None = sym was_low ∙ sym (ap at ix) ∙ none in cc)
                      | inr inx ↦ elim (cases_eq i (x + 2 ^ k)) [
                        | inl ih ↦ ap at' ih ∙ high
                        | inr inh ↦ others i inx inh ∙ u.alone i l v
                      ]
                    ];
              })
        ]
      ];
      covered = λ y inside. (let c = h.covered y inside in
          elim (cases_eq c.0 x) [
            | inl cx ↦
                (let ck : c.1 ≡ k = some_is c.2 (ap at cx ∙ was_low) in
                let upper : y < x + 2 ^ k = subst (λ z. y < x + 2 ^ z) ck (subst (λ z. y < z + 2 ^ c.1) cx c.4) in
                let lower : x ≤ y = subst (λ z. z ≤ y) cx c.3 in
                (x, k + 1, low, lower, omega arith))
            | inr ncx ↦ elim (cases_eq c.0 (x + 2 ^ k)) [
              | inl ch ↦
                  (let ck : c.1 ≡ k = some_is c.2 (ap at ch ∙ was_high) in
                  let upper : y < x + 2 ^ k + 2 ^ k = subst (λ z. y < x + 2 ^ k + 2 ^ z) ck (subst (λ z. y < z + 2 ^ c.1) ch c.4) in
                  let lower : x + 2 ^ k ≤ y = subst (λ z. z ≤ y) ch c.3 in
                  (x, k + 1, low, omega arith, omega arith))
              | inr nch ↦ (c.0, c.1, others c.0 ncx nch ∙ c.2, c.3, c.4)
            ]
          ]);
    }
