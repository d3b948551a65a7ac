-- How a request and a return go from one step to the next.
use Rattle.std.proofs.Common.{◌≡◌, ◌≢◌, ℕ, ◌+◌, ◌^◌, ◌<◌, ◌≤◌, ◌⊎◌, inl, inr, List, [], ◌∷◌, length, get_or, set, min, slice_get, Some, None, refl, sym, ap, subst, ◌∙◌, arith, get_or-set_other, get_or-set_same}
use Rattle.std.proofs.lemmas.Bool.{cases_eq}
use Rattle.std.proofs.lemmas.Nat.{pow_pos}
use Rattle.std.specs.Ordering.{nat_cmp}
use Rattle.std.specs.FinMap as map
use Rattle.common_lemmas.proofs.Orders.{lt_or_ge}
use Rattle.common_lemmas.specs.Lists.{times, delete}
use Rattle.common_lemmas.proofs.Counts.{times_here}
use Rattle.layout.specs.Sizes.{greatest_order, span_orders}
use Rattle.span_lists.specs.Buddies.{buddy}
use Rattle.span_lists.specs.Layout.{Layout, free_at, IsFree, IsAllocated, Divides, IsCoalesced, HasNone, TakesFrom, CoalescesInto, IsFirstOf, span_start}
use Rattle.span_lists.specs.inside.Steps.{IsSplitTo, IsCoalescedTo, MayBegin}
use Rattle.common_lemmas.proofs.Powers.{start_is, start_of_start}
use Rattle.span_lists.proofs.Halves.{buddy_ends}
use Rattle.common_lemmas.proofs.Maps.{maps_same, get_inserted, get_past_insert, get_removed, remove-insert, insert-remove}

-- ---- lists and maps that are written

free_same : (lists : List (List ℕ)) (k j : ℕ) (xs : List ℕ) → k < length lists → j ≡ k → get_or (set lists k xs) j [] ≡ xs
free_same lists k j xs h e = ap (λ z. get_or (set lists k xs) z []) e ∙ get_or-set_same lists k xs [] h

free_other : (lists : List (List ℕ)) (k j : ℕ) (xs : List ℕ) → j ≢ k → get_or (set lists k xs) j [] ≡ get_or lists j []
free_other lists k j xs n = get_or-set_other lists k j xs [] n

insert_twice : (m : map.FinMap nat_cmp ℕ) (x j k : ℕ) → map.insert (map.insert m x j) x k ≡ map.insert m x k
insert_twice m x j k = maps_same _ _ (λ q. elim (cases_eq q x) [
  | inl e ↦ get_inserted _ x k q e ∙ sym (get_inserted m x k q e)
  | inr n ↦ get_past_insert _ x k q n ∙ get_past_insert m x j q n ∙ sym (get_past_insert m x k q n)
])

insert_known : (m : map.FinMap nat_cmp ℕ) (x k : ℕ) → map.get m x ≡ Some k → map.insert m x k ≡ m
insert_known m x k e = maps_same _ _ (λ q. elim (cases_eq q x) [
  | inl qx ↦ get_inserted m x k q qx ∙ sym e ∙ ap (map.get m) (sym qx)
  | inr n ↦ get_past_insert m x k q n
])

-- ---- a request

pub split_none : (old : Layout) (first from : ℕ) → IsAllocated old first from → Divides old → IsCoalesced old → IsSplitTo old old first from from
split_none old first from allocated divided coalesced = record {
  pages = refl;
  allocated = sym (insert_known old.allocated first from allocated);
  upper_halves = λ k low high. absurd (omega arith);
  lower = λ k h. refl;
  upper = λ k h. refl;
  divided = divided;
  coalesced = coalesced;
}

pub split_more : (old now new : Layout) (first from at : ℕ) → IsSplitTo old now first from (at + 1) → at + 1 ≤ from → from < span_orders
    → new ≡ record now { free = set now.free at ((first + 2 ^ at) ∷ free_at now at); allocated = map.insert now.allocated first at } → Divides new → IsCoalesced new → IsSplitTo old new first from at
split_more old now new first from at h below within e divided coalesced =
    let orders = h.divided.orders in
    let free : (k : ℕ) → free_at new k ≡ get_or (set now.free at ((first + 2 ^ at) ∷ free_at now at)) k [] = λ k. ap (λ (s : Layout). free_at s k) e in
    record {
      pages = ap (λ (s : Layout). s.pages) e ∙ h.pages;
      allocated = ap (λ (s : Layout). s.allocated) e ∙ ap (λ m. map.insert m first at) h.allocated ∙ insert_twice old.allocated first (at + 1) at;
      upper_halves = λ k low high. free k ∙ (elim (cases_eq k at) [
        | inl ka ↦ free_same now.free at k _ (omega arith) ka ∙ ap (λ l. (first + 2 ^ at) ∷ l) (h.lower at (omega arith)) ∙ ap (λ z. (first + 2 ^ z) ∷ free_at old z) (sym ka)
        | inr n ↦ free_other now.free at k _ n ∙ h.upper_halves k (omega arith) high
      ]);
      lower = λ k l. free k ∙ free_other now.free at k _ (λ z. absurd (omega arith)) ∙ h.lower k (omega arith);
      upper = λ k l. free k ∙ free_other now.free at k _ (λ z. absurd (omega arith)) ∙ h.upper k l;
      divided = divided;
      coalesced = coalesced;
    }

pub allocated_of_split : (old now : Layout) (first from at : ℕ) → IsSplitTo old now first from at → IsAllocated now first at
allocated_of_split old now first from at h = ap (λ m. map.get m first) h.allocated ∙ get_inserted old.allocated first at first refl

held_of_front : (xs : List ℕ) (x : ℕ) → slice_get xs 0 ≡ Some x → 1 ≤ times x xs
held_of_front [] x e = absurd (let clash : None ≡ Some x = e in cc)
held_of_front (y ∷ ys) x e = (let same : y ≡ x = (let s : Some y ≡ Some x = e in cc) in subst (λ z. 1 ≤ times x (z ∷ ys)) (sym same) (let t = times_here x ys in omega (arith, t)))

pub free_in_front : (s : Layout) (order first from : ℕ) → IsFirstOf s order first from → IsFree s first from
free_in_front s order first from h = held_of_front (free_at s from) first h.in_front

pub found_some : (s : Layout) (order first from : ℕ) → IsFirstOf s order first from → ¬ HasNone s order
found_some s order first from h none = (let clash : Some first ≡ None = sym h.in_front ∙ ap (λ l. slice_get l 0) (none from h.from_order h.from_within) in cc)

pub took : (old mid new : Layout) (order first from : ℕ) → IsFirstOf old order first from → Divides old → mid ≡ record old { free = set old.free from (delete first (free_at old from)); allocated = map.insert old.allocated first from }
    → IsSplitTo mid new first from order → TakesFrom old new order first × (new.allocated ≡ map.insert old.allocated first order) × (new.pages ≡ old.pages)
took old mid new order first from found divided e h =
    let orders = divided.orders in
    let within = found.from_within in
    let free : (k : ℕ) → free_at mid k ≡ get_or (set old.free from (delete first (free_at old from))) k [] = λ k. ap (λ (s : Layout). free_at s k) e in (
      record {
        from = from;
        from_order = found.from_order;
        from_within = found.from_within;
        none_below = found.none_below;
        in_front = found.in_front;
        source = h.upper from (omega arith) ∙ free from ∙ free_same old.free from from _ (omega arith) refl;
        upper_halves = λ k low high. h.upper_halves k low high ∙ ap (λ l. (first + 2 ^ k) ∷ l) (free k ∙ free_other old.free from k _ (λ z. absurd (omega arith)) ∙ found.none_below k low high);
        lower = λ k l. h.lower k l ∙ free k ∙ free_other old.free from k _ (λ z. absurd (let o = found.from_order in omega arith));
        upper = λ k l. h.upper k (omega arith) ∙ free k ∙ free_other old.free from k _ (λ z. absurd (omega arith));
      },
      h.allocated ∙ ap (λ m. map.insert m first order) (ap (λ (s : Layout). s.allocated) e) ∙ insert_twice old.allocated first from order,
      h.pages ∙ ap (λ (s : Layout). s.pages) e,
    )

-- ---- a return

-- an allocated span begins where one of its order may; where nothing has changed yet, the span of before
pub begun : (old now : Layout) (first order : ℕ) → IsAllocated old first order → (now ≡ old) ⊎ MayBegin first order → Divides now → MayBegin first order
begun old now first order allocated (inl same) divided = (let span = (subst Divides same divided).spans first order (inr allocated) in (span.0, span.1))
begun old now first order allocated (inr may) divided = may

pub coalesced_none : (old : Layout) (first order : ℕ) → IsAllocated old first order → MayBegin first order → IsCoalescedTo old old first order first order
coalesced_none old first order allocated may =
    let o = may.0 in
    record {
      pages = refl;
      to_order = omega arith;
      to_within = omega arith;
      start = sym (start_is first first order may.1 (omega arith) (let pos = pow_pos order in omega arith));
      allocated = sym (insert-remove old.allocated first order allocated);
      none = get_removed old.allocated first first refl;
      were_free = λ k low high. absurd (omega arith);
      buddies = λ k low high. absurd (omega arith);
      lower = λ k h. refl;
      upper = λ k h. refl;
    }

pub allocated_of_coalesced : (old now : Layout) (first order at to : ℕ) → IsCoalescedTo old now first order at to → IsAllocated now at to
allocated_of_coalesced old now first order at to h = ap (λ m. map.get m at) h.allocated ∙ get_inserted (map.remove old.allocated first) at to at refl

pub coalesced_more : (old now new : Layout) (first order at to whole : ℕ) → IsCoalescedTo old now first order at to → Divides now → to < greatest_order → IsFree now (buddy at to) to → whole ≡ span_start at (to + 1)
    → new ≡ record now { free = set now.free to (delete (buddy at to) (free_at now to)); allocated = map.insert (map.remove now.allocated at) whole (to + 1) } → map.get now.allocated (buddy at to) ≡ None
    → IsCoalescedTo old new first order whole (to + 1)
coalesced_more old now new first order at to whole h divided small held start e none_buddy =
    let orders = divided.orders in
    let low = h.to_order in
    let base = map.remove old.allocated first in
    let free : (k : ℕ) → free_at new k ≡ get_or (set now.free to (delete (buddy at to) (free_at now to))) k [] = λ k. ap (λ (s : Layout). free_at s k) e in
    let same : free_at now to ≡ free_at old to = h.upper to (omega arith) in
    let start_b : buddy at to ≡ buddy (span_start first to) to = ap (λ z. buddy z to) h.start in
    let held_old : IsFree old (buddy (span_start first to) to) to = subst (λ z. IsFree old z to) start_b (subst (λ l. 1 ≤ times (buddy at to) l) same held) in
    let base_none : (q : ℕ) → q ≢ at → map.get now.allocated q ≡ None → map.get base q ≡ None = (λ q n g. sym (ap (λ m. map.get m q) h.allocated ∙ get_past_insert base at to q n) ∙ g) in
    let aligned = (divided.spans at to (inr (allocated_of_coalesced old now first order at to h))).1 in
    let ends = buddy_ends at to aligned in
    let least : whole ≡ min at (buddy at to) = start ∙ sym ends.2 in
    let which : (whole ≡ at) ⊎ (whole ≡ buddy at to) = elim ends.3 [ inl p ↦ inl (least ∙ p.0) | inr p ↦ inr (least ∙ p.0) ] in
    record {
      pages = ap (λ (s : Layout). s.pages) e ∙ h.pages;
      to_order = omega arith;
      to_within = omega arith;
      start = start ∙ ap (λ z. span_start z (to + 1)) h.start ∙ start_of_start first to;
      allocated = ap (λ (s : Layout). s.allocated) e ∙ ap (λ m. map.insert (map.remove m at) whole (to + 1)) h.allocated ∙ ap (λ m. map.insert m whole (to + 1)) (remove-insert base at to h.none);
      none = elim which [
        | inl q ↦ ap (map.get base) q ∙ h.none
        | inr q ↦ elim (cases_eq whole at) [
          | inl z ↦ ap (map.get base) z ∙ h.none
          | inr n ↦ base_none whole n (ap (map.get now.allocated) q ∙ none_buddy)
        ]
      ];
      were_free = λ k l u. elim (cases_eq k to) [
        | inl kt ↦ subst (λ z. IsFree old (buddy (span_start first z) z) z) (sym kt) held_old
        | inr n ↦ h.were_free k l (omega arith)
      ];
      buddies = λ k l u. free k ∙ (elim (cases_eq k to) [
        | inl kt ↦ free_same now.free to k _ (omega arith) kt ∙ ap (λ l. delete (buddy at to) l) same ∙ ap (λ z. delete z (free_at old to)) start_b ∙ ap (λ z. delete (buddy (span_start first z) z) (free_at old z)) (sym kt)
        | inr n ↦ free_other now.free to k _ n ∙ h.buddies k l (omega arith)
      ]);
      lower = λ k l. free k ∙ free_other now.free to k _ (λ z. absurd (omega arith)) ∙ h.lower k l;
      upper = λ k l. free k ∙ free_other now.free to k _ (λ z. absurd (omega arith)) ∙ h.upper k (omega arith);
    }

pub gave : (old mid new : Layout) (first order at to : ℕ) → IsCoalescedTo old mid first order at to → Divides mid → new ≡ record mid { free = set mid.free to (at ∷ free_at mid to); allocated = map.remove mid.allocated at }
    → CoalescesInto old new first order × (new.allocated ≡ map.remove old.allocated first) × (new.pages ≡ old.pages)
gave old mid new first order at to h divided e =
    let orders = divided.orders in
    let within = h.to_within in
    let low = h.to_order in
    let free : (k : ℕ) → free_at new k ≡ get_or (set mid.free to (at ∷ free_at mid to)) k [] = λ k. ap (λ (s : Layout). free_at s k) e in (
      record {
        to = to;
        to_order = h.to_order;
        to_within = h.to_within;
        coalesced = h.were_free;
        buddies = λ k l u. free k ∙ free_other mid.free to k _ (λ z. absurd (omega arith)) ∙ h.buddies k l u;
        in_front = free to ∙ free_same mid.free to to _ (omega arith) refl ∙ ap (λ l. at ∷ l) (h.upper to (omega arith)) ∙ ap (λ z. z ∷ free_at old to) h.start;
        lower = λ k l. free k ∙ free_other mid.free to k _ (λ z. absurd (omega arith)) ∙ h.lower k l;
        upper = λ k l. free k ∙ free_other mid.free to k _ (λ z. absurd (omega arith)) ∙ h.upper k (omega arith);
      },
      ap (λ (s : Layout). s.allocated) e ∙ ap (λ m. map.remove m at) h.allocated ∙ remove-insert (map.remove old.allocated first) at to h.none,
      ap (λ (s : Layout). s.pages) e ∙ h.pages,
    )

-- a span of the order can be taken afterwards, and what could be taken before still can
pub orders_after : (old new : Layout) (first order k : ℕ) → CoalescesInto old new first order → HasNone new k → (order < k) × HasNone old k
orders_after old new first order k h none =
    let low = h.to_order in
    let past : h.to < k = (elim (lt_or_ge h.to k) [ inl l ↦ l | inr g ↦ absurd (let clash : [] ≡ span_start first h.to ∷ free_at old h.to = sym (none h.to g h.to_within) ∙ h.in_front in cc) ]) in
    (omega (arith, low, past), λ j from within. sym (h.upper j (omega (arith, past, from))) ∙ none j from within)

-- ---- the first state

pub empty_allocated : (s : Layout) → ((x : ℕ) → map.get s.allocated x ≡ None) → s.allocated ≡ map.empty
empty_allocated s none = maps_same _ _ (λ q. none q ∙ sym (map.get-empty nat_cmp q))
