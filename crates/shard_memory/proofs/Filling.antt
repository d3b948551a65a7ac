-- How many segments fill pages that were all free.
use Rattle.std.proofs.Common.{◌≡◌, ◌↔◌, ℕ, zero, suc, ◌+◌, ◌*◌, ◌/◌, ◌%◌, ◌^◌, ◌<◌, ◌≤◌, inl, inr, List, [], ◌∷◌, length, get_or, refl, sym, ap, subst, ◌∙◌, arith}
use Rattle.std.proofs.lemmas.Nat.{pow_pos}
use Rattle.std.proofs.lemmas.List.{get_or_past}
use Rattle.std.specs.Ordering.{nat_cmp}
use Rattle.std.specs.FinMap as map
use Rattle.common_lemmas.specs.Lists.{times}
use Rattle.common_lemmas.proofs.Counts.{times_here}
use Rattle.common_lemmas.proofs.Maps.{none_in_empty}
use Rattle.common_lemmas.proofs.Orders.{lt_or_ge, trichotomy}
use Rattle.common_lemmas.proofs.Powers.{aligned_step, coarser, multiple_below, nested, start_aligned, start_bounds}
use Rattle.common_lemmas.proofs.Sums.{sum_of_none}
use Rattle.layout.specs.Sizes.{ArePages}
use Rattle.span_lists.specs.Layout.{Layout, Divides, HasNone, IsFree, IsGreatest, IsSpan, allocated_pages, free_at, pages_from}
use Rattle.shard_memory.specs.Room.{Room, IsAllFree, IsRoomOf, LacksSegment, TakesSegment, TakesSegments}
use Rattle.shard_memory.proofs.PagesOut.{pages_more}

-- ---- lists without an element

no_pages : (order : ℕ) (lists : List (List ℕ)) → ((k : ℕ) → k < length lists → get_or lists k [] ≡ []) → pages_from order lists ≡ 0
no_pages order [] empty = refl
no_pages order (firsts ∷ lists) empty =
    let here : length firsts ≡ 0 = ap length (empty 0 (omega arith)) in
    let no : 2 ^ order * length firsts ≡ 0 = ap (λ n. 2 ^ order * n) here ∙ (let nothing : 2 ^ order * 0 ≡ 0 = omega arith in nothing) in
    let rest = no_pages (order + 1) lists (λ k l. empty (suc k) (omega (arith, l))) in
    omega (arith, no, rest)

no_firsts : (order : ℕ) (firsts : List ℕ) (rest : ℕ) → 2 ^ order * length firsts + rest ≡ 0 → firsts ≡ []
no_firsts order [] rest none = refl
no_firsts order (x ∷ xs) rest none =
    let some = pow_pos order in
    let more : 2 ^ order * (length xs + 1) ≡ 2 ^ order * length xs + 2 ^ order = omega arith in
    absurd (omega (arith, none, some, more))

no_lists : (order : ℕ) (lists : List (List ℕ)) → pages_from order lists ≡ 0 → (k : ℕ) → get_or lists k [] ≡ []
no_lists order [] none k = get_or_past [] k [] (omega arith)
no_lists order (firsts ∷ lists) none zero = no_firsts order firsts (pages_from (order + 1) lists) none
no_lists order (firsts ∷ lists) none (suc k) = no_lists (order + 1) lists (omega (arith, none)) k

none_in : (xs : List ℕ) → ((x : ℕ) → ¬ (1 ≤ times x xs)) → xs ≡ []
none_in [] none = refl
none_in (x ∷ xs) none = absurd (none x (let here = times_here x xs in omega (arith, here)))

-- ---- pages that are all free

-- each span is at least as long as a segment's: that which has the first page of an aligned run of 32 could be as long as the run
module _ (spans : Layout) (pages : ℕ) (divided : Divides spans) (same : spans.pages ≡ pages) (whole : pages % 32 ≡ 0) (none : spans.allocated ≡ map.empty)
    (greatest : (first order : ℕ) → IsFree spans first order → IsGreatest pages first order) where
  long : (first order : ℕ) → IsFree spans first order → 5 ≤ order
  long first order free = elim (lt_or_ge order 5) [ inr g ↦ g | inl l ↦ absurd (short l) ]
    where
      short : order < 5 → ⊥
      short l =
          let s = divided.spans first order (inl free) in
          let fits = s.2 in
          let some = pow_pos order in
          let start = multiple_below first 5 in
          let aligned = start_aligned first 5 in
          let bounds = start_bounds first 5 in
          let low : start ≤ first = bounds.0 in
          let high : first < start + 32 = bounds.1 in
          let within : start + 32 ≤ pages = aligned_step start pages 32 (omega arith) aligned whole (omega (arith, low, fits, some, same)) in
          let at = divided.covered start (omega (arith, within, same)) in
          let here : IsFree spans at.0 at.1 = (elim at.2 [ inl f ↦ f | inr a ↦ none_in_empty spans.allocated at.0 at.1 none a ]) in
          let from = at.3 in
          let to = at.4 in
          let is = (divided.spans at.0 at.1 at.2).1 in
          elim (lt_or_ge at.1 5) [
            | inl less ↦ elim (lt_or_ge at.0 start) [
              | inl before ↦ (let step = aligned_step at.0 start (2 ^ at.1) (pow_pos at.1) is (coarser start at.1 5 (omega (arith, less)) aligned) before in omega (arith, step, to))
              | inr behind ↦ (let first_is : at.0 ≡ start = omega (arith, from, behind) in
                  greatest at.0 at.1 here 5 less (omega arith) (subst (λ z. z % 32 ≡ 0) (sym first_is) aligned) (omega (arith, within, first_is)))
            ]
            | inr more ↦
                (let ends : start + 32 ≤ at.0 + 2 ^ at.1 = nested start at.0 5 at.1 more aligned is to in
                elim (trichotomy at.0 first) [
                  | inl e ↦ (let one = divided.one first at.1 order (subst (λ z. IsSpan spans z at.1) e at.2) (inl free) in omega (arith, one, l, more))
                  | inr (inl before) ↦ (let apart = divided.apart at.0 first at.1 order at.2 (inl free) before in omega (arith, apart, ends, high))
                  | inr (inr behind) ↦ omega (arith, from, behind, low)
                ])
          ]

-- ---- segments, one after the other

-- each has 32 pages, and none comes from a list of shorter spans
taken : (count : ℕ) (start now : Room) → TakesSegments count start now
    → (allocated_pages now.spans ≡ allocated_pages start.spans + 32 * count) × ((k : ℕ) → k < 5 → free_at now.spans k ≡ free_at start.spans k)
unfolding TakesSegments
taken zero start now takes = (let same = ap (λ (r : Room). allocated_pages r.spans) takes in (omega (arith, same), λ k l. ap (λ (r : Room). free_at r.spans k) takes))
taken (suc count) start now takes =
    let before = taken count start takes.0 takes.2 in
    let step : TakesSegment takes.0 now takes.1 = takes.3 in
    let all = before.0 in
    let more = pages_more takes.0.spans now.spans takes.1 5 step.was_free step.allocated in
    (omega (arith, all, more), λ k l. step.free.lower k l ∙ before.1 k l)

module _ (pages count : ℕ) (start now : Room) (are : ArePages pages) (was : IsRoomOf pages start) (free : IsAllFree pages start) (takes : TakesSegments count start now) (is : IsRoomOf pages now) where
  out : allocated_pages now.spans ≡ 32 * count
  out =
      let all = (taken count start now takes).0 in
      let nothing = sum_of_none (λ order. 2 ^ order) start.spans.allocated (λ k. ap (λ m. map.get m k) free.none_allocated ∙ map.get-empty nat_cmp k) in
      omega (arith, all, nothing)

  pub most : count ≤ pages / 32
  most =
      let whole = are.2 in
      let counted = is.counted in
      let segments = out in
      omega (arith, whole, counted, segments)

  low : (k : ℕ) → k < 5 → free_at now.spans k ≡ []
  low k l =
      (taken count start now takes).1 k l
      ∙ none_in (free_at start.spans k) (λ first free_there.
      let enough = long start.spans pages was.divided was.size are.2 free.none_allocated free.greatest first k free_there in omega (arith, l, enough))

  full : HasNone now.spans 5 → count ≡ pages / 32
  full lacks =
      let orders = is.divided.orders in
      let nothing = no_pages 0 now.spans.free (λ k l. elim (lt_or_ge k 5) [ inl less ↦ low k less | inr more ↦ lacks k more (omega (arith, l, orders)) ]) in
      let whole = are.2 in
      let counted = is.counted in
      let segments = out in
      omega (arith, nothing, whole, counted, segments)

  left : count ≡ pages / 32 → HasNone now.spans 5
  left same k from to =
      let whole = are.2 in
      let counted = is.counted in
      let segments = out in
      no_lists 0 now.spans.free (omega (arith, whole, counted, segments, same)) k

  pub none : LacksSegment now ↔ (count ≡ pages / 32)
  unfolding LacksSegment
  none = (full, left)
