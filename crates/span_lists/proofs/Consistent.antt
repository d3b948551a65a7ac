-- What each step leaves of consistent pages.
use Rattle.std.proofs.Common.{◌≡◌, ◌≢◌, ℕ, zero, suc, ◌+◌, ◌-◌, ◌*◌, ◌%◌, ◌^◌, ◌<◌, ◌≤◌, inl, inr, List}
use Rattle.std.proofs.Common.{[], ◌∷◌, length, get_or, set, replicate, Some, None, refl, sym, ap, subst, ◌∙◌, arith, get_or-set_other, get_or-set_same, zero-add}
use Rattle.std.proofs.Math.ListN.{length-set}
use Rattle.std.proofs.lemmas.List.{get_or_past}
use Rattle.std.proofs.lemmas.List.Sums.{sum_by-set}
use Rattle.std.proofs.lemmas.Bool.{cases_eq}
use Rattle.std.proofs.lemmas.Bool.Decides.{nat_tests}
use Rattle.index_lists.specs.Lists.{Lists, list_at, with_list}
use Rattle.common_lemmas.proofs.Orders.{lt_or_ge}
use Rattle.common_lemmas.specs.Lists.{times, delete}
use Rattle.common_lemmas.proofs.Counts.{times_here, times_there, times-delete_same, times-delete_other, length-delete}
use Rattle.layout.specs.Sizes.{greatest_order, span_orders}
use Rattle.span_lists.specs.declared.spans.PageState.{PageState}
use Rattle.span_lists.specs.declared.spans.PageState.TheVariants.{Inside, Free, Allocated}
use Rattle.span_lists.specs.Buddies.{buddy}
use Rattle.span_lists.specs.Layout.{pages_from}
use Rattle.span_lists.specs.inside.Pages.{order_of, mark, allocated_pages_of, state_at, IsSpanAt, IsCut, IsConsistent}
use Rattle.common_lemmas.proofs.Powers.{pow_twice}
use Rattle.span_lists.proofs.Halves.{buddy_twice, buddy_of_upper}
use Rattle.span_lists.proofs.Cuts.{same_cut, cut_split, cut_coalesced}
use Rattle.span_lists.proofs.AllocatedSpans.{state_same, state_other}
use Rattle.std.proofs.lemmas.Nat.{pow_pos}
use Rattle.std.specs.Int.Bits.{bit_xor, xor_assoc, xor_self, xor_zero_l}

-- ---- marks

pub mark_same : (k : ℕ) → mark k (Free k) ≡ 1
mark_same k = grind (arith, nat_tests)

pub mark_other : (j k : ℕ) → k ≢ j → mark j (Free k) ≡ 0
mark_other j k n = grind (arith, nat_tests)

pub free_of_mark : (k : ℕ) (v : PageState) → 1 ≤ mark k v → v ≡ Free k
free_of_mark k Inside h = absurd (omega arith)
free_of_mark k (Free j) h = elim (cases_eq j k) [ inl e ↦ ap (λ z. Free z) e | inr n ↦ absurd (let none = mark_other k j n in omega (arith, none, h)) ]
free_of_mark k (Allocated j) h = absurd (omega arith)

-- a page at which a span begins is one of the pages
pub state_within : (states : List PageState) (x : ℕ) → state_at states x ≢ Inside → x < length states
state_within states x n = elim (lt_or_ge x (length states)) [ inl l ↦ l | inr g ↦ absurd (n (get_or_past states x Inside g)) ]

inside_of : (v : PageState) → order_of v ≡ None → v ≡ Inside
inside_of Inside e = refl
inside_of (Free k) e = absurd (let clash : Some k ≡ None = e in cc)
inside_of (Allocated k) e = absurd (let clash : Some k ≡ None = e in cc)

-- no page is its own buddy
pub buddy_apart : (x k : ℕ) → buddy x k ≢ x
buddy_apart x k e =
    let zero_is : 2 ^ k ≡ 0 = sym (xor_zero_l (2 ^ k)) ∙ ap (λ z. bit_xor z (2 ^ k)) (sym (xor_self x)) ∙ xor_assoc x x (2 ^ k) ∙ ap (λ z. bit_xor x z) e ∙ xor_self x in
    absurd (let pos = pow_pos k in omega (arith, pos, zero_is))

-- the lists have the free spans, each once
abbrev pub IsListed : List (List ℕ) → List PageState → Type 0
IsListed lists states = (k x : ℕ) → k < span_orders → times x (get_or lists k []) ≡ mark k (state_at states x)

listed_remove : (lists : List (List ℕ)) (states states' : List PageState) (k b : ℕ) → length lists ≡ span_orders → k < span_orders → IsListed lists states → state_at states b ≡ Free k
    → ((j : ℕ) → mark j (state_at states' b) ≡ 0) → ((z j : ℕ) → z ≢ b → mark j (state_at states' z) ≡ mark j (state_at states z))
    → IsListed (set lists k (delete b (get_or lists k []))) states'
listed_remove lists states states' k b len small listed was none others j x h =
    let held : times b (get_or lists k []) ≡ 1 = listed k b small ∙ ap (mark k) was ∙ mark_same k in
    elim (cases_eq j k) [
      | inl jk ↦
          (let there : get_or (set lists k (delete b (get_or lists k []))) j [] ≡ delete b (get_or lists k []) = ap (λ z. get_or (set lists k (delete b (get_or lists k []))) z []) jk ∙ get_or-set_same lists k _ [] (omega arith) in
          ap (times x) there ∙
          (elim (cases_eq x b) [
            | inl e ↦ ap (λ z. times z (delete b (get_or lists k []))) e ∙ (let w = times-delete_same b (get_or lists k []) (omega arith) in let z : times b (delete b (get_or lists k [])) ≡ 0 = omega arith in z) ∙ sym (ap (λ z. mark j (state_at states' z)) e ∙ none j)
            | inr n ↦ times-delete_other x b (get_or lists k []) n ∙ listed k x small ∙ sym (others x k n) ∙ ap (λ z. mark z (state_at states' x)) (sym jk)
          ]))
      | inr jk ↦
          (ap (times x) (get_or-set_other lists k j _ [] jk) ∙ listed j x h ∙
          (elim (cases_eq x b) [
            | inl e ↦ ap (λ z. mark j (state_at states z)) e ∙ ap (mark j) was ∙ mark_other j k (λ q. jk (sym q)) ∙ sym (ap (λ z. mark j (state_at states' z)) e ∙ none j)
            | inr n ↦ sym (others x j n)
          ]))
    ]

pub listed_push : (lists : List (List ℕ)) (states states' : List PageState) (k b : ℕ) → length lists ≡ span_orders → k < span_orders → IsListed lists states → state_at states' b ≡ Free k
    → ((j : ℕ) → mark j (state_at states b) ≡ 0) → ((z j : ℕ) → z ≢ b → mark j (state_at states' z) ≡ mark j (state_at states z))
    → IsListed (set lists k (b ∷ get_or lists k [])) states'
listed_push lists states states' k b len small listed now none others j x h =
    elim (cases_eq j k) [
      | inl jk ↦
          (let there : get_or (set lists k (b ∷ get_or lists k [])) j [] ≡ b ∷ get_or lists k [] = ap (λ z. get_or (set lists k (b ∷ get_or lists k [])) z []) jk ∙ get_or-set_same lists k _ [] (omega arith) in
          ap (times x) there ∙
          (elim (cases_eq b x) [
            | inl e ↦ ap (λ z. times z (b ∷ get_or lists k [])) (sym e) ∙ (let w = times_here b (get_or lists k []) in let l = listed k b small in let o = none k in let z : times b (b ∷ get_or lists k []) ≡ 1 = omega (arith, w, l, o) in z)
                ∙ sym (ap (λ z. mark z (state_at states' x)) jk ∙ ap (λ z. mark k (state_at states' z)) (sym e) ∙ ap (mark k) now ∙ mark_same k)
            | inr n ↦ times_there x b (get_or lists k []) n ∙ listed k x small ∙ sym (others x k (λ q. n (sym q))) ∙ ap (λ z. mark z (state_at states' x)) (sym jk)
          ]))
      | inr jk ↦
          (ap (times x) (get_or-set_other lists k j _ [] jk) ∙ listed j x h ∙
          (elim (cases_eq x b) [
            | inl e ↦ ap (λ z. mark j (state_at states z)) e ∙ none j ∙ sym (ap (λ z. mark j (state_at states' z)) e ∙ ap (mark j) now ∙ mark_other j k (λ q. jk (sym q)))
            | inr n ↦ sym (others x j n)
          ]))
    ]

-- ---- the pages of the lists

pub pages_from-less : (o : ℕ) (lists : List (List ℕ)) (i : ℕ) (ys : List ℕ) → i < length lists → length ys + 1 ≡ length (get_or lists i []) → pages_from o (set lists i ys) + 2 ^ (o + i) ≡ pages_from o lists
pages_from-less o [] i ys h e = absurd (omega arith)
pages_from-less o (l ∷ lists) zero ys h e =
    let at : 2 ^ (o + 0) ≡ 2 ^ o = (let z : o + 0 ≡ o = omega arith in ap (λ n. 2 ^ n) z) in
    let one : 2 ^ o * length l ≡ 2 ^ o * length ys + 2 ^ o = ap (λ n. 2 ^ o * n) (sym e) ∙ (let d : 2 ^ o * (length ys + 1) ≡ 2 ^ o * length ys + 2 ^ o = omega arith in d) in
    omega (arith, at, one)
pages_from-less o (l ∷ lists) (suc i) ys h e =
    let at : 2 ^ (o + suc i) ≡ 2 ^ (o + 1 + i) = (let z : o + suc i ≡ o + 1 + i = omega arith in ap (λ n. 2 ^ n) z) in
    let rest = pages_from-less (o + 1) lists i ys (omega arith) e in
    omega (arith, at, rest)

pub pages_from-more : (o : ℕ) (lists : List (List ℕ)) (i : ℕ) (ys : List ℕ) → i < length lists → length ys ≡ length (get_or lists i []) + 1 → pages_from o (set lists i ys) ≡ pages_from o lists + 2 ^ (o + i)
pages_from-more o [] i ys h e = absurd (omega arith)
pages_from-more o (l ∷ lists) zero ys h e =
    let at : 2 ^ (o + 0) ≡ 2 ^ o = (let z : o + 0 ≡ o = omega arith in ap (λ n. 2 ^ n) z) in
    let one : 2 ^ o * length ys ≡ 2 ^ o * length l + 2 ^ o = ap (λ n. 2 ^ o * n) e ∙ (let d : 2 ^ o * (length l + 1) ≡ 2 ^ o * length l + 2 ^ o = omega arith in d) in
    omega (arith, at, one)
pages_from-more o (l ∷ lists) (suc i) ys h e =
    let at : 2 ^ (o + suc i) ≡ 2 ^ (o + 1 + i) = (let z : o + suc i ≡ o + 1 + i = omega arith in ap (λ n. 2 ^ n) z) in
    let rest = pages_from-more (o + 1) lists i ys (omega arith) e in
    omega (arith, at, rest)

pub pages_from-replicate : (o n : ℕ) → pages_from o (replicate n []) ≡ 0
pages_from-replicate o zero = refl
pages_from-replicate o (suc n) = (let rest = pages_from-replicate (o + 1) n in omega (arith, rest))

-- ---- the steps

-- a span stands where one of its order stood
cut_kept : (pages : ℕ) (states : List PageState) (x : ℕ) (v : PageState) → x < length states → order_of v ≡ order_of (state_at states x) → IsCut pages (λ y. order_of (state_at states y)) → IsCut pages (λ y. order_of (state_at (set states x v) y))
cut_kept pages states x v inside same cut = same_cut pages _ _ (λ y. elim (cases_eq y x) [
  | inl e ↦ ap order_of (state_same states x y v inside e) ∙ same ∙ sym (ap (λ z. order_of (state_at states z)) e)
  | inr n ↦ ap order_of (state_other states x y v n)
]) cut

-- a free span is allocated
pub consistent_allocate : (pages : ℕ) (states : List PageState) (lists : Lists) (free x k : ℕ) → IsConsistent pages states lists free → k < span_orders → 1 ≤ times x (list_at lists k)
    → (2 ^ k ≤ free) × IsConsistent pages (set states x (Allocated k)) (with_list lists k (delete x (list_at lists k))) (free - 2 ^ k)
consistent_allocate pages states lists free x k h small held =
    let was : state_at states x ≡ Free k = free_of_mark k _ (subst (λ n. 1 ≤ n) (h.listed k x small) held) in
    let inside : x < length states = state_within states x (λ e. (let clash : Inside ≡ Free k = sym e ∙ was in cc)) in
    let states' = set states x (Allocated k) in
    let now : state_at states' x ≡ Allocated k = state_same states x x (Allocated k) inside refl in
    let others : (y : ℕ) → y ≢ x → state_at states' y ≡ state_at states y = λ y n. state_other states x y (Allocated k) n in
    let back : (y j : ℕ) → state_at states' y ≡ Free j → state_at states y ≡ Free j = (λ y j e. elim (cases_eq y x) [
      | inl q ↦ absurd (let clash : Allocated k ≡ Free j = sym now ∙ ap (state_at states') (sym q) ∙ e in cc)
      | inr n ↦ sym (others y n) ∙ e
    ]) in
    let len = h.orders in
    let at : 2 ^ (0 + k) ≡ 2 ^ k = ap (λ n. 2 ^ n) (zero-add k) in
    let less = pages_from-less 0 lists.lists k (delete x (list_at lists k)) (omega arith) (length-delete x (list_at lists k) held) in
    let sums = sum_by-set allocated_pages_of states x (Allocated k) Inside inside in
    let none : allocated_pages_of (state_at states x) ≡ 0 = ap allocated_pages_of was in
    let c = h.count in
    let t = h.total in
    let enough : 2 ^ k ≤ free = omega arith in (
      enough,
      record {
        small = h.small;
        states_len = length-set states x (Allocated k) ∙ h.states_len;
        indices = h.indices;
        orders = length-set lists.lists k _ ∙ h.orders;
        cut = cut_kept pages states x (Allocated k) inside (sym (ap order_of was)) h.cut;
        listed = listed_remove lists.lists states states' k x h.orders small h.listed was (λ j. ap (mark j) now) (λ z j n. ap (mark j) (others z n));
        coalesced = λ y j b e d. h.coalesced y j b (back y j e) (back (buddy y j) j d);
        count = omega arith;
        total = omega arith;
      },
    )

-- an allocated span comes back, where its buddy is not free
pub consistent_release : (pages : ℕ) (states : List PageState) (lists : Lists) (free x k : ℕ) → IsConsistent pages states lists free → k < span_orders → state_at states x ≡ Allocated k
    → (k < greatest_order → state_at states (buddy x k) ≢ Free k)
    → (free + 2 ^ k ≤ pages) × IsConsistent pages (set states x (Free k)) (with_list lists k (x ∷ list_at lists k)) (free + 2 ^ k)
consistent_release pages states lists free x k h small was apart =
    let inside : x < length states = state_within states x (λ e. (let clash : Inside ≡ Allocated k = sym e ∙ was in cc)) in
    let states' = set states x (Free k) in
    let now : state_at states' x ≡ Free k = state_same states x x (Free k) inside refl in
    let others : (y : ℕ) → y ≢ x → state_at states' y ≡ state_at states y = λ y n. state_other states x y (Free k) n in
    let len = h.orders in
    let at : 2 ^ (0 + k) ≡ 2 ^ k = ap (λ n. 2 ^ n) (zero-add k) in
    let more = pages_from-more 0 lists.lists k (x ∷ list_at lists k) (omega arith) (omega arith) in
    let sums = sum_by-set allocated_pages_of states x (Free k) Inside inside in
    let some : allocated_pages_of (state_at states x) ≡ 2 ^ k = ap allocated_pages_of was in
    let c = h.count in
    let t = h.total in
    let bound : free + 2 ^ k ≤ pages = omega arith in (
      bound,
      record {
        small = h.small;
        states_len = length-set states x (Free k) ∙ h.states_len;
        indices = h.indices;
        orders = length-set lists.lists k _ ∙ h.orders;
        cut = cut_kept pages states x (Free k) inside (sym (ap order_of was)) h.cut;
        listed = listed_push lists.lists states states' k x h.orders small h.listed now (λ j. ap (mark j) was) (λ z j n. ap (mark j) (others z n));
        coalesced = λ y j b e d.
            elim (cases_eq y x) [
              | inl yx ↦
                  (let jk : k ≡ j = (let s : Free k ≡ Free j = sym now ∙ ap (state_at states') (sym yx) ∙ e in cc) in
                  let d' : state_at states' (buddy x k) ≡ Free k = subst (λ z. state_at states' (buddy x z) ≡ Free z) (sym jk) (subst (λ z. state_at states' (buddy z j) ≡ Free j) yx d) in
                  let small_k : k < greatest_order = subst (λ z. z < greatest_order) (sym jk) b in
                  elim (cases_eq (buddy x k) x) [
                    | inl bx ↦ (let alone = buddy_apart x k in alone bx)
                    | inr nb ↦ apart small_k (sym (others (buddy x k) nb) ∙ d')
                  ])
              | inr ny ↦ elim (cases_eq (buddy y j) x) [
                | inl bx ↦
                    (let jk : k ≡ j = (let s : Free k ≡ Free j = sym now ∙ ap (state_at states') (sym bx) ∙ d in cc) in
                    let yb : y ≡ buddy x k = sym (buddy_twice y j) ∙ ap (λ z. buddy z j) bx ∙ ap (λ z. buddy x z) (sym jk) in
                    let small_k : k < greatest_order = subst (λ z. z < greatest_order) (sym jk) b in
                    apart small_k (ap (state_at states) (sym yb) ∙ sym (others y ny) ∙ e ∙ ap (λ z. Free z) (sym jk)))
                | inr nb ↦ h.coalesced y j b (sym (others y ny) ∙ e) (sym (others (buddy y j) nb) ∙ d)
              ]
            ];
        count = omega arith;
        total = omega arith;
      },
    )

-- an allocated span is split, and its upper half is free
pub consistent_split : (pages : ℕ) (states : List PageState) (lists : Lists) (free x k : ℕ) → IsConsistent pages states lists free → state_at states x ≡ Allocated (k + 1)
    → (x + 2 ^ (k + 1) ≤ pages) × (k < greatest_order) × (free + 2 ^ k ≤ pages) × ((j : ℕ) → j < span_orders → times (x + 2 ^ k) (list_at lists j) ≡ 0)
    × IsConsistent pages (set (set states x (Allocated k)) (x + 2 ^ k) (Free k)) (with_list lists k ((x + 2 ^ k) ∷ list_at lists k)) (free + 2 ^ k)
consistent_split pages states lists free x k h was =
    let s : IsSpanAt pages (λ y. order_of (state_at states y)) x (k + 1) = h.cut.spans x (k + 1) (ap order_of was) in
    let within = s.within in
    let order = s.order in
    let pos = pow_pos k in
    let two = pow_twice k in
    let states_len = h.states_len in
    let inside : x < length states = omega arith in
    let u = x + 2 ^ k in
    let mid = set states x (Allocated k) in
    let mid_len : length mid ≡ length states = length-set states x (Allocated k) in
    let states' = set mid u (Free k) in
    let ux : u ≢ x = (λ e. absurd (omega arith)) in
    let empty : state_at states u ≡ Inside = inside_of (state_at states u) (s.alone u (omega arith) (omega arith)) in
    let now : state_at states' u ≡ Free k = state_same mid u u (Free k) (omega arith) refl in
    let now_x : state_at states' x ≡ Allocated k = state_other mid u x (Free k) (λ e. ux (sym e)) ∙ state_same states x x (Allocated k) inside refl in
    let others : (y : ℕ) → y ≢ x → y ≢ u → state_at states' y ≡ state_at states y = (λ y nx nu. state_other mid u y (Free k) nu ∙ state_other states x y (Allocated k) nx) in
    let len = h.orders in
    let at : 2 ^ (0 + k) ≡ 2 ^ k = ap (λ n. 2 ^ n) (zero-add k) in
    let more = pages_from-more 0 lists.lists k (u ∷ list_at lists k) (omega arith) (omega arith) in
    let sums = sum_by-set allocated_pages_of states x (Allocated k) Inside inside in
    let sums' = sum_by-set allocated_pages_of mid u (Free k) Inside (omega arith) in
    let some : allocated_pages_of (state_at states x) ≡ 2 ^ (k + 1) = ap allocated_pages_of was in
    let none : allocated_pages_of (state_at mid u) ≡ 0 = ap allocated_pages_of (state_other states x u (Allocated k) ux ∙ empty) in
    let c = h.count in
    let t = h.total in
    let bound : free + 2 ^ k ≤ pages = omega arith in
    let lower_buddy : buddy u k ≡ x = buddy_of_upper x k s.aligned in (
      within,
      omega arith,
      bound,
      λ j q. h.listed j u q ∙ ap (mark j) empty,
      record {
        small = h.small;
        states_len = length-set mid u (Free k) ∙ mid_len ∙ states_len;
        indices = h.indices;
        orders = length-set lists.lists k _ ∙ h.orders;
        cut = cut_split pages _ _ x k h.cut (ap order_of was) (ap order_of now_x) (ap order_of now) (λ y nx nu. ap order_of (others y nx nu));
        listed = listed_push lists.lists states states' k u h.orders (omega arith) h.listed now (λ j. ap (mark j) empty)
            (λ z j nu. elim (cases_eq z x) [
              | inl e ↦ ap (λ w. mark j (state_at states' w)) e ∙ ap (mark j) now_x ∙ sym (ap (λ w. mark j (state_at states w)) e ∙ ap (mark j) was)
              | inr nx ↦ ap (mark j) (others z nx nu)
            ]);
        coalesced = λ y j b e d.
            elim (cases_eq y u) [
              | inl yu ↦
                  (let jk : k ≡ j = (let q : Free k ≡ Free j = sym now ∙ ap (state_at states') (sym yu) ∙ e in cc) in
                  let by : buddy y j ≡ x = ap (λ z. buddy z j) yu ∙ ap (λ z. buddy u z) (sym jk) ∙ lower_buddy in
                  (let clash : Allocated k ≡ Free j = sym now_x ∙ ap (state_at states') (sym by) ∙ d in cc))
              | inr ny ↦ elim (cases_eq y x) [
                | inl yx ↦ (let clash : Allocated k ≡ Free j = sym now_x ∙ ap (state_at states') (sym yx) ∙ e in cc)
                | inr nx ↦ elim (cases_eq (buddy y j) u) [
                  | inl bu ↦
                      (let jk : k ≡ j = (let q : Free k ≡ Free j = sym now ∙ ap (state_at states') (sym bu) ∙ d in cc) in
                      let yb : y ≡ x = sym (buddy_twice y j) ∙ ap (λ z. buddy z j) bu ∙ ap (λ z. buddy u z) (sym jk) ∙ lower_buddy in
                      nx yb)
                  | inr nbu ↦ elim (cases_eq (buddy y j) x) [
                    | inl bx ↦ (let clash : Allocated k ≡ Free j = sym now_x ∙ ap (state_at states') (sym bx) ∙ d in cc)
                    | inr nbx ↦ h.coalesced y j b (sym (others y nx ny) ∙ e) (sym (others (buddy y j) nbx nbu) ∙ d)
                  ]
                ]
              ]
            ];
        count = omega arith;
        total = omega arith;
      },
    )

-- two allocated buddies coalesce
pub consistent_coalesce_pair : (pages : ℕ) (states : List PageState) (lists : Lists) (free x k : ℕ) → IsConsistent pages states lists free → k < greatest_order → x % 2 ^ (k + 1) ≡ 0 → state_at states x ≡ Allocated k → state_at states (x + 2 ^ k) ≡ Allocated k
    → (x + 2 ^ (k + 1) ≤ pages) × IsConsistent pages (set (set states (x + 2 ^ k) Inside) x (Allocated (k + 1))) lists free
consistent_coalesce_pair pages states lists free x k h small aligned was was_u =
    let u = x + 2 ^ k in
    let s : IsSpanAt pages (λ y. order_of (state_at states y)) u k = h.cut.spans u k (ap order_of was_u) in
    let within = s.within in
    let pos = pow_pos k in
    let two = pow_twice k in
    let states_len = h.states_len in
    let mid = set states u Inside in
    let mid_len : length mid ≡ length states = length-set states u Inside in
    let states' = set mid x (Allocated (k + 1)) in
    let ux : u ≢ x = (λ e. absurd (omega arith)) in
    let now : state_at states' x ≡ Allocated (k + 1) = state_same mid x x (Allocated (k + 1)) (omega arith) refl in
    let now_u : state_at states' u ≡ Inside = state_other mid x u (Allocated (k + 1)) ux ∙ state_same states u u Inside (omega arith) refl in
    let others : (y : ℕ) → y ≢ x → y ≢ u → state_at states' y ≡ state_at states y = (λ y nx nu. state_other mid x y (Allocated (k + 1)) nx ∙ state_other states u y Inside nu) in
    let back : (y j : ℕ) → state_at states' y ≡ Free j → state_at states y ≡ Free j = (λ y j e. elim (cases_eq y x) [
      | inl q ↦ absurd (let clash : Allocated (k + 1) ≡ Free j = sym now ∙ ap (state_at states') (sym q) ∙ e in cc)
      | inr nx ↦ elim (cases_eq y u) [
        | inl q ↦ absurd (let clash : Inside ≡ Free j = sym now_u ∙ ap (state_at states') (sym q) ∙ e in cc)
        | inr nu ↦ sym (others y nx nu) ∙ e
      ]
    ]) in
    let sums = sum_by-set allocated_pages_of states u Inside Inside (omega arith) in
    let sums' = sum_by-set allocated_pages_of mid x (Allocated (k + 1)) Inside (omega arith) in
    let some : allocated_pages_of (state_at states u) ≡ 2 ^ k = ap allocated_pages_of was_u in
    let some' : allocated_pages_of (state_at mid x) ≡ 2 ^ k = ap allocated_pages_of (state_other states u x Inside (λ e. ux (sym e)) ∙ was) in
    let t = h.total in (
      omega arith,
      record {
        small = h.small;
        states_len = length-set mid x (Allocated (k + 1)) ∙ mid_len ∙ states_len;
        indices = h.indices;
        orders = h.orders;
        cut = cut_coalesced pages _ _ x k h.cut small aligned (ap order_of was) (ap order_of was_u) (ap order_of now) (ap order_of now_u) (λ y nx nu. ap order_of (others y nx nu));
        listed = λ j z q. h.listed j z q ∙ (elim (cases_eq z x) [
          | inl e ↦ ap (λ w. mark j (state_at states w)) e ∙ ap (mark j) was ∙ sym (ap (λ w. mark j (state_at states' w)) e ∙ ap (mark j) now)
          | inr nx ↦ elim (cases_eq z u) [
            | inl e ↦ ap (λ w. mark j (state_at states w)) e ∙ ap (mark j) was_u ∙ sym (ap (λ w. mark j (state_at states' w)) e ∙ ap (mark j) now_u)
            | inr nu ↦ sym (ap (mark j) (others z nx nu))
          ]
        ]);
        coalesced = λ y j b e d. h.coalesced y j b (back y j e) (back (buddy y j) j d);
        count = h.count;
        total = omega arith;
      },
    )
