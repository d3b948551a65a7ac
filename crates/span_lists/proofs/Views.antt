-- What callers see of consistent pages.
use Rattle.std.proofs.Common.{◌≡◌, ◌≢◌, ℕ, ◌+◌, ◌%◌, ◌^◌, ◌<◌, ◌≤◌, ◌⊎◌, inl, inr, Bool, true, false, cond, eqb, List, [], ◌∷◌, length, set, min, max, Option, Some, None, option_map, refl, sym, ap, subst, ◌∙◌, arith}
use Rattle.std.proofs.lemmas.List.{get_or_past}
use Rattle.std.proofs.lemmas.Bool.{cases_eq}
use Rattle.std.specs.Ordering.{nat_cmp}
use Rattle.std.specs.FinMap as map
use Rattle.index_lists.specs.Lists.{Lists, list_at, with_list}
use Rattle.common_lemmas.proofs.Orders.{lt_or_ge, trichotomy}
use Rattle.common_lemmas.specs.Lists.{times, delete}
use Rattle.layout.specs.Sizes.{greatest_order, span_orders}
use Rattle.span_lists.specs.declared.spans.PageState.{PageState}
use Rattle.span_lists.specs.declared.spans.PageState.TheVariants.{Inside, Free, Allocated}
use Rattle.span_lists.specs.Buddies.{buddy}
use Rattle.span_lists.specs.Layout.{Layout, free_at, IsFree, IsAllocated, IsSpan, Divides, IsCoalesced, free_pages, allocated_pages, span_start}
use Rattle.span_lists.specs.inside.Pages.{order_of, allocated_order_of, mark, state_at, IsConsistent, allocated_of}
use Rattle.common_lemmas.proofs.Options.{some_is}
use Rattle.common_lemmas.proofs.Maps.{maps_same, get_inserted, get_past_insert, get_removed, get_past_remove}
use Rattle.span_lists.proofs.AllocatedSpans.{get-allocated_of, sum_allocated_of, state_of_allocated, allocated_with, allocated_without, state_same, state_other}
use Rattle.span_lists.proofs.Consistent.{mark_same, free_of_mark, state_within, consistent_coalesce_pair}
use Rattle.common_lemmas.proofs.Powers.{pow_twice}
use Rattle.span_lists.proofs.Halves.{buddy_ends}
use Rattle.std.proofs.lemmas.Nat.{pow_pos, pow_below}
use Rattle.std.proofs.Math.ListN.{length-set}

abbrev pub layout_of : ℕ → List PageState → Lists → Layout
layout_of pages states lists = record { pages = pages; free = lists.lists; allocated = allocated_of states }

-- only an order has a list
order_of_free : (pages : ℕ) (states : List PageState) (lists : Lists) (free p k : ℕ) → IsConsistent pages states lists free → IsFree (layout_of pages states lists) p k → k < span_orders
order_of_free pages states lists free p k h held = elim (lt_or_ge k span_orders) [
  | inl l ↦ l
  | inr g ↦ absurd (let o = h.orders in let none : times p (list_at lists k) ≡ 0 = ap (times p) (get_or_past lists.lists k [] (omega arith)) in omega (arith, none, held))
]

pub state_of_free : (pages : ℕ) (states : List PageState) (lists : Lists) (free p k : ℕ) → IsConsistent pages states lists free → IsFree (layout_of pages states lists) p k → state_at states p ≡ Free k
state_of_free pages states lists free p k h held = free_of_mark k _ (subst (λ n. 1 ≤ n) (h.listed k p (order_of_free pages states lists free p k h held)) held)

pub state_allocated : (pages : ℕ) (states : List PageState) (lists : Lists) (p k : ℕ) → IsAllocated (layout_of pages states lists) p k → state_at states p ≡ Allocated k
state_allocated pages states lists p k e = state_of_allocated _ k (sym (get-allocated_of states p) ∙ e)

order_at_span : (pages : ℕ) (states : List PageState) (lists : Lists) (free p k : ℕ) → IsConsistent pages states lists free → IsSpan (layout_of pages states lists) p k → order_of (state_at states p) ≡ Some k
order_at_span pages states lists free p k h (inl held) = ap order_of (state_of_free pages states lists free p k h held)
order_at_span pages states lists free p k h (inr allocated) = ap order_of (state_allocated pages states lists p k allocated)

pub is_free_of : (pages : ℕ) (states : List PageState) (lists : Lists) (free p k : ℕ) → IsConsistent pages states lists free → k < span_orders → state_at states p ≡ Free k → IsFree (layout_of pages states lists) p k
is_free_of pages states lists free p k h small e = (let t = h.listed k p small ∙ ap (mark k) e ∙ mark_same k in omega (arith, t))

is_allocated_of : (pages : ℕ) (states : List PageState) (lists : Lists) (p k : ℕ) → state_at states p ≡ Allocated k → IsAllocated (layout_of pages states lists) p k
is_allocated_of pages states lists p k e = get-allocated_of states p ∙ ap allocated_order_of e

mark_le_one : (k : ℕ) (v : PageState) → mark k v ≤ 1
mark_le_one k Inside = omega arith
mark_le_one k (Free j) = at_most (eqb j k)
  where
    at_most : (b : Bool) → cond b 1 0 ≤ 1
    at_most true = omega arith
    at_most false = omega arith
mark_le_one k (Allocated j) = omega arith

span_of_order : (pages : ℕ) (states : List PageState) (lists : Lists) (free p k : ℕ) (v : PageState) → IsConsistent pages states lists free → k < span_orders → state_at states p ≡ v → order_of v ≡ Some k → IsSpan (layout_of pages states lists) p k
span_of_order pages states lists free p k Inside h small e o = absurd (let clash : None ≡ Some k = o in cc)
span_of_order pages states lists free p k (Free j) h small e o = inl (is_free_of pages states lists free p k h small (e ∙ (let s : Some j ≡ Some k = o in let i : j ≡ k = cc in ap (λ z. Free z) i)))
span_of_order pages states lists free p k (Allocated j) h small e o = inr (is_allocated_of pages states lists p k (e ∙ (let s : Some j ≡ Some k = o in let i : j ≡ k = cc in ap (λ z. Allocated z) i)))

pages_is : (o : Option ℕ) (n : ℕ) → option_map (λ k. 2 ^ k) o ≡ Some n → (k : ℕ) × (o ≡ Some k) × (2 ^ k ≡ n)
pages_is None n e = absurd (let clash : None ≡ Some n = e in cc)
pages_is (Some k) n e = (k, refl, (let s : Some (2 ^ k) ≡ Some n = e in cc))

pub divides_of : (pages : ℕ) (states : List PageState) (lists : Lists) (free : ℕ) → IsConsistent pages states lists free → Divides (layout_of pages states lists)
divides_of pages states lists free h =
    let apart : (p q j k : ℕ) → order_of (state_at states p) ≡ Some j → order_of (state_at states q) ≡ Some k → p < q → p + 2 ^ j ≤ q = (λ p q j k ep eq l.
    elim (lt_or_ge q (p + 2 ^ j)) [
      | inl u ↦ absurd (let none = (h.cut.spans p j ep).alone q l u in let clash : Some k ≡ None = sym eq ∙ none in cc)
      | inr g ↦ g
    ]) in
    record {
      orders = h.orders;
      spans = λ p k s. (let a = h.cut.spans p k (order_at_span pages states lists free p k h s) in (a.order, a.aligned, a.within));
      covered = λ x inside. (let c = h.cut.covered x inside in
          let o = (h.cut.spans c.0 c.1 c.2).order in
          (c.0, c.1, span_of_order pages states lists free c.0 c.1 (state_at states c.0) h (omega arith) refl c.2, c.3, c.4));
      apart = λ p q j k sp sq l. apart p q j k (order_at_span pages states lists free p j h sp) (order_at_span pages states lists free q k h sq) l;
      one = λ p j k sj sk. some_is (order_at_span pages states lists free p j h sj) (order_at_span pages states lists free p k h sk);
      either = λ p k f. get-allocated_of states p ∙ ap allocated_order_of (state_of_free pages states lists free p k h f);
      once = λ p k small. subst (λ n. n ≤ 1) (sym (h.listed k p small)) (mark_le_one k (state_at states p));
      blocks = record {
        within = λ p n e. (let k = pages_is (map.get (allocated_of states) p) n e in
            let a = h.cut.spans p k.0 (ap order_of (state_allocated pages states lists p k.0 k.1)) in
            let pos = pow_pos k.0 in
            let w = a.within in
            let kn = k.2 in
            (omega arith, omega arith));
        disjoint = λ p q m n ep eq d. (let j = pages_is (map.get (allocated_of states) p) m ep in let k = pages_is (map.get (allocated_of states) q) n eq in
            let at_p = ap order_of (state_allocated pages states lists p j.0 j.1) in
            let at_q = ap order_of (state_allocated pages states lists q k.0 k.1) in
            let jm = j.2 in let kn = k.2 in
            elim (trichotomy p q) [
              | inl e ↦ absurd (d e)
              | inr (inl l) ↦ inl (let r = apart p q j.0 k.0 at_p at_q l in omega arith)
              | inr (inr l) ↦ inr (let r = apart q p k.0 j.0 at_q at_p l in omega arith)
            ]);
      };
    }

pub coalesced_of : (pages : ℕ) (states : List PageState) (lists : Lists) (free : ℕ) → IsConsistent pages states lists free → IsCoalesced (layout_of pages states lists)
coalesced_of pages states lists free h = λ p k small f g. h.coalesced p k small (state_of_free pages states lists free p k h f) (state_of_free pages states lists free (buddy p k) k h g)

-- the free spans and the allocated ones have all pages
pub pages_of : (pages : ℕ) (states : List PageState) (lists : Lists) (free : ℕ) → IsConsistent pages states lists free → free_pages (layout_of pages states lists) + allocated_pages (layout_of pages states lists) ≡ pages
pages_of pages states lists free h = (let sum = sum_allocated_of states in let t = h.total in let c = h.count in omega (arith, sum, t, c))

-- ---- the value that each step leaves

pub allocated_as_it_is : (pages : ℕ) (states : List PageState) (lists lists' : Lists) (free x k : ℕ) (s : Layout) → IsConsistent pages states lists free → IsFree (layout_of pages states lists) x k
    → lists' ≡ with_list lists k (delete x (list_at lists k)) → layout_of pages states lists ≡ s
    → layout_of pages (set states x (Allocated k)) lists' ≡ record s { free = set s.free k (delete x (free_at s k)); allocated = map.insert s.allocated x k }
allocated_as_it_is pages states lists lists' free x k s h held e view =
    let was = state_of_free pages states lists free x k h held in
    let inside = state_within states x (λ q. (let clash : Inside ≡ Free k = sym q ∙ was in cc)) in
    ap (λ l. layout_of pages (set states x (Allocated k)) l) e
    ∙ ap (λ o. let r : Layout = record { pages = pages; free = set lists.lists k (delete x (list_at lists k)); allocated = o } in r)
    (allocated_with states (set states x (Allocated k)) x k (state_same states x x (Allocated k) inside refl) (λ y n. ap allocated_order_of (state_other states x y (Allocated k) n)))
    ∙ ap (λ (t : Layout). let r : Layout = record t { free = set t.free k (delete x (free_at t k)); allocated = map.insert t.allocated x k } in r) view

pub released : (pages : ℕ) (states : List PageState) (lists lists' : Lists) (x k : ℕ) (s : Layout) → IsAllocated (layout_of pages states lists) x k → lists' ≡ with_list lists k (x ∷ list_at lists k) → layout_of pages states lists ≡ s
    → layout_of pages (set states x (Free k)) lists' ≡ record s { free = set s.free k (x ∷ free_at s k); allocated = map.remove s.allocated x }
released pages states lists lists' x k s allocated e view =
    let was = state_allocated pages states lists x k allocated in
    let inside = state_within states x (λ q. (let clash : Inside ≡ Allocated k = sym q ∙ was in cc)) in
    ap (λ l. layout_of pages (set states x (Free k)) l) e
    ∙ ap (λ o. let r : Layout = record { pages = pages; free = set lists.lists k (x ∷ list_at lists k); allocated = o } in r)
    (allocated_without states (set states x (Free k)) x (ap allocated_order_of (state_same states x x (Free k) inside refl)) (λ y n. ap allocated_order_of (state_other states x y (Free k) n)))
    ∙ ap (λ (t : Layout). let r : Layout = record t { free = set t.free k (x ∷ free_at t k); allocated = map.remove t.allocated x } in r) view

pub split : (pages : ℕ) (states : List PageState) (lists lists' : Lists) (free x k u : ℕ) (s : Layout) → IsConsistent pages states lists free
    → IsAllocated (layout_of pages states lists) x (k + 1) → u ≡ x + 2 ^ k → lists' ≡ with_list lists k (u ∷ list_at lists k) → layout_of pages states lists ≡ s
    → layout_of pages (set (set states x (Allocated k)) u (Free k)) lists' ≡ record s { free = set s.free k (u ∷ free_at s k); allocated = map.insert s.allocated x k }
split pages states lists lists' free x k u s h allocated ue e view =
    let was = state_allocated pages states lists x (k + 1) allocated in
    let inside = state_within states x (λ q. (let clash : Inside ≡ Allocated (k + 1) = sym q ∙ was in cc)) in
    let a = h.cut.spans x (k + 1) (ap order_of was) in
    let pos = pow_pos k in
    let wider = pow_below k (k + 1) (omega arith) in
    let ux : u ≢ x = (λ q. absurd (omega arith)) in
    let none : allocated_order_of (state_at states u) ≡ None = none_allocated (state_at states u) (a.alone u (omega arith) (omega arith)) in
    let within = a.within in
    let len = h.states_len in
    let mid_len : length (set states x (Allocated k)) ≡ length states = length-set states x (Allocated k) in
    ap (λ l. layout_of pages (set (set states x (Allocated k)) u (Free k)) l) e
    ∙ ap (λ o. let r : Layout = record { pages = pages; free = set lists.lists k (u ∷ list_at lists k); allocated = o } in r)
    (allocated_with states (set (set states x (Allocated k)) u (Free k)) x k (state_other _ u x (Free k) (λ q. ux (sym q)) ∙ state_same states x x (Allocated k) inside refl)
    (λ y n. elim (cases_eq y u) [
      | inl yu ↦ ap allocated_order_of (state_same _ u y (Free k) (omega arith) yu) ∙ sym (ap (λ z. allocated_order_of (state_at states z)) yu ∙ none)
      | inr nu ↦ ap allocated_order_of (state_other _ u y (Free k) nu ∙ state_other states x y (Allocated k) n)
    ]))
    ∙ ap (λ (t : Layout). let r : Layout = record t { free = set t.free k (u ∷ free_at t k); allocated = map.insert t.allocated x k } in r) view
  where
    none_allocated : (v : PageState) → order_of v ≡ None → allocated_order_of v ≡ None
    none_allocated Inside q = refl
    none_allocated (Free j) q = refl
    none_allocated (Allocated j) q = absurd (let clash : Some j ≡ None = q in cc)

-- an allocated span has an order, and its first page is one of the pages and in no list
pub allocated_within : (pages : ℕ) (states : List PageState) (lists : Lists) (free p k : ℕ) → IsConsistent pages states lists free → IsAllocated (layout_of pages states lists) p k → (k < span_orders) × (p < pages)
allocated_within pages states lists free p k h allocated =
    let a = h.cut.spans p k (ap order_of (state_allocated pages states lists p k allocated)) in
    let w = a.within in let o = a.order in let pos = pow_pos k in
    (omega arith, omega arith)

pub none_listed : (pages : ℕ) (states : List PageState) (lists : Lists) (free p k : ℕ) → IsConsistent pages states lists free → IsAllocated (layout_of pages states lists) p k → (j : ℕ) → j < length lists.lists → times p (list_at lists j) ≡ 0
none_listed pages states lists free p k h allocated j l = h.listed j p (let o = h.orders in omega arith) ∙ ap (mark j) (state_allocated pages states lists p k allocated)

-- a map in which two spans give way to one
pub allocated_coalesced : (states states' : List PageState) (x b lower upper k : ℕ) → state_at states' lower ≡ Allocated k → state_at states' upper ≡ Inside → ((y : ℕ) → y ≢ lower → y ≢ upper → state_at states' y ≡ state_at states y)
    → ((lower ≡ x) × (upper ≡ b)) ⊎ ((lower ≡ b) × (upper ≡ x)) → allocated_of states' ≡ map.insert (map.remove (map.remove (allocated_of states) x) b) lower k
allocated_coalesced states states' x b lower upper k low up others ends = maps_same _ _ (λ q. get-allocated_of states' q ∙
    (elim (cases_eq q lower) [
      | inl e ↦ ap (λ z. allocated_order_of (state_at states' z)) e ∙ ap allocated_order_of low ∙ sym (get_inserted _ lower k q e)
      | inr nl ↦ elim (cases_eq q upper) [
        | inl e ↦ ap (λ z. allocated_order_of (state_at states' z)) e ∙ ap allocated_order_of up ∙ sym (get_past_insert _ lower k q nl ∙ gone q e)
        | inr nu ↦ ap allocated_order_of (others q nl nu) ∙ sym (get-allocated_of states q) ∙ sym (get_past_insert _ lower k q nl ∙ stays q nl nu)
      ]
    ]))
  where
    gone : (q : ℕ) → q ≡ upper → map.get (map.remove (map.remove (allocated_of states) x) b) q ≡ None
    gone q e = elim (cases_eq q b) [
      | inl qb ↦ get_removed (map.remove (allocated_of states) x) b q qb
      | inr nb ↦ get_past_remove (map.remove (allocated_of states) x) b q nb ∙ get_removed (allocated_of states) x q (elim ends [ inl p ↦ absurd (nb (e ∙ p.1)) | inr p ↦ e ∙ p.1 ])
    ]

    stays : (q : ℕ) → q ≢ lower → q ≢ upper → map.get (map.remove (map.remove (allocated_of states) x) b) q ≡ map.get (allocated_of states) q
    stays q nl nu =
        let nb : q ≢ b = (λ e. elim ends [ inl p ↦ nu (e ∙ sym p.1) | inr p ↦ nl (e ∙ sym p.0) ]) in
        let nx : q ≢ x = (λ e. elim ends [ inl p ↦ nl (e ∙ sym p.0) | inr p ↦ nu (e ∙ sym p.1) ]) in
        get_past_remove (map.remove (allocated_of states) x) b q nb ∙ get_past_remove (allocated_of states) x q nx

-- the pages after two allocated buddies coalesced, and the value that callers see
pub record PairCoalesced (pages : ℕ) (states : List PageState) (lists : Lists) (free x k lower upper : ℕ) (s : Layout) : Type 0 where
  pub lower_in : lower < pages
  pub upper_in : upper < pages
  pub first : lower ≡ span_start x (k + 1)
  pub consistent : IsConsistent pages (set (set states upper Inside) lower (Allocated (k + 1))) lists free
  pub view : layout_of pages (set (set states upper Inside) lower (Allocated (k + 1))) lists
      ≡ record s { allocated = map.insert (map.remove (map.remove s.allocated x) (buddy x k)) lower (k + 1) }

pub pair_coalesced : {pages : ℕ} {states : List PageState} {lists : Lists} {free x k other lower upper : ℕ} {s : Layout} → IsConsistent pages states lists free → k < greatest_order
    → IsAllocated s x k → IsAllocated s (buddy x k) k → other ≡ buddy x k → lower ≡ min x other → upper ≡ max x other → layout_of pages states lists ≡ s
    → PairCoalesced pages states lists free x k lower upper s
pair_coalesced {pages} {states} {lists} {free} {x} {k} {other} {lower} {upper} {s} h small seen_x seen_b oe le ue view =
    let ox : IsAllocated (layout_of pages states lists) x k = subst (λ l. IsAllocated l x k) (sym view) seen_x in
    let ob : IsAllocated (layout_of pages states lists) (buddy x k) k = subst (λ l. IsAllocated l (buddy x k) k) (sym view) seen_b in
    let sx = state_allocated pages states lists x k ox in
    let sb = state_allocated pages states lists (buddy x k) k ob in
    let aligned = (h.cut.spans x k (ap order_of sx)).aligned in
    let ends = buddy_ends x k aligned in
    let low : lower ≡ min x (buddy x k) = le ∙ ap (λ n. min x n) oe in
    let high : upper ≡ max x (buddy x k) = ue ∙ ap (λ n. max x n) oe in
    let step : upper ≡ lower + 2 ^ k = high ∙ ends.1 ∙ ap (λ n. n + 2 ^ k) (sym low) in
    let which : ((lower ≡ x) × (upper ≡ buddy x k)) ⊎ ((lower ≡ buddy x k) × (upper ≡ x)) = elim ends.3 [ inl p ↦ inl (low ∙ p.0, high ∙ p.1) | inr p ↦ inr (low ∙ p.0, high ∙ p.1) ] in
    let s_low : state_at states lower ≡ Allocated k = elim which [ inl p ↦ ap (state_at states) p.0 ∙ sx | inr p ↦ ap (state_at states) p.0 ∙ sb ] in
    let s_high : state_at states upper ≡ Allocated k = elim which [ inl p ↦ ap (state_at states) p.1 ∙ sb | inr p ↦ ap (state_at states) p.1 ∙ sx ] in
    let after = consistent_coalesce_pair pages states lists free lower k h small (subst (λ n. n % 2 ^ (k + 1) ≡ 0) (sym low) ends.0) s_low (ap (state_at states) (sym step) ∙ s_high) in
    let states' = set (set states upper Inside) lower (Allocated (k + 1)) in
    let pos = pow_pos k in let two = pow_twice k in let within = after.0 in let len = h.states_len in
    let apart : lower ≢ upper = (λ e. absurd (omega arith)) in
    let mid_len : length (set states upper Inside) ≡ length states = length-set states upper Inside in
    let now : state_at states' lower ≡ Allocated (k + 1) = state_same (set states upper Inside) lower lower (Allocated (k + 1)) (omega arith) refl in
    let now_u : state_at states' upper ≡ Inside = state_other (set states upper Inside) lower upper (Allocated (k + 1)) (λ e. apart (sym e)) ∙ state_same states upper upper Inside (omega arith) refl in record {
      lower_in = omega arith;
      upper_in = omega arith;
      first = low ∙ ends.2;
      consistent = subst (λ u. IsConsistent pages (set (set states u Inside) lower (Allocated (k + 1))) lists free) (sym step) after.1;
      view = ap (λ o. let r : Layout = record { pages = pages; free = lists.lists; allocated = o } in r)
          (allocated_coalesced states states' x (buddy x k) lower upper (k + 1) now now_u (λ y nl nu. state_other (set states upper Inside) lower y (Allocated (k + 1)) nl ∙ state_other states upper y Inside nu) which)
          ∙ ap (λ (t : Layout). let r : Layout = record t { allocated = map.insert (map.remove (map.remove t.allocated x) (buddy x k)) lower (k + 1) } in r) view;
    }

-- a buddy is allocated and the two coalesce
pub coalesced_once : (allocated : map.FinMap nat_cmp ℕ) (x b k to n : ℕ) → map.get allocated b ≡ None → map.insert (map.remove (map.remove (map.insert allocated b k) x) b) to n ≡ map.insert (map.remove allocated x) to n
coalesced_once allocated x b k to n none = maps_same _ _ (λ q. elim (cases_eq q to) [
  | inl e ↦ get_inserted _ to n q e ∙ sym (get_inserted _ to n q e)
  | inr nt ↦ get_past_insert _ to n q nt ∙ (elim (cases_eq q b) [
    | inl qb ↦ get_removed _ b q qb ∙ sym (elim (cases_eq q x) [
      | inl qx ↦ get_removed allocated x q qx
      | inr nx ↦ get_past_remove allocated x q nx ∙ ap (map.get allocated) qb ∙ none
    ])
    | inr nb ↦ get_past_remove _ b q nb ∙ (elim (cases_eq q x) [
      | inl qx ↦ get_removed _ x q qx ∙ sym (get_removed allocated x q qx)
      | inr nx ↦ get_past_remove _ x q nx ∙ get_past_insert allocated b k q nb ∙ sym (get_past_remove allocated x q nx)
    ])
  ])
      ∙ sym (get_past_insert _ to n q nt)
])
