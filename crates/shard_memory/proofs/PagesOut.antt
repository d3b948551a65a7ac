-- How many pages are in allocated spans.
use Rattle.std.proofs.Common.{◌≡◌, ◌≢◌, ℕ, suc, ◌+◌, ◌*◌, ◌^◌, ◌<◌, ◌≤◌, ◌⊎◌, inl, inr, List, [], ◌∷◌, length, Option, Some, None, refl, sym, ap, subst, ◌∙◌, arith}
use Rattle.std.specs.Prelude.{All, Contains, sum_by}
use Rattle.std.proofs.lemmas.Bool.{cases_eq}
use Rattle.std.proofs.lemmas.Nat.{pow_pos}
use Rattle.std.proofs.lemmas.List.Elements.{All-tail, All-head, All-contains}
use Rattle.std.proofs.Math.Pow.{pow_mono}
use Rattle.std.specs.Ordering.{nat_cmp}
use Rattle.std.specs.FinMap as map
use Rattle.layout.specs.Extents.{Extent, extent, Disjoint, IsWithin, AreDisjoint}
use Rattle.common_lemmas.proofs.Maps.{get_removed, get_past_remove, maps_same}
use Rattle.common_lemmas.proofs.Options.{some_is, some_or_none}
use Rattle.common_lemmas.proofs.Orders.{trichotomy}
use Rattle.common_lemmas.proofs.Sums.{sum_inserted, sum_removed, sum_of_none, sum_within}
use Rattle.span_lists.specs.Layout.{Layout, IsAllocated, Divides, allocated_pages}
use Rattle.small_pools.specs.Classes.{size_of, order_of}
use Rattle.small_pools.specs.Objects.{Objects, IsHeld, AreHeldIn, AreUsed, HoldsFor, Trims, slot_place}
use Rattle.shard_memory.specs.inside.Parts.{IsConsistent, segments_of, blocks_of, is_segment, is_block}
use Rattle.shard_memory.proofs.Lists.{has_first, has_later, has_cases, kept_by, segment_is, block_is, disjoint_still, not_apart}
use Rattle.shard_memory.proofs.Counts.{slot_within}
use Rattle.shard_memory.proofs.Steps.{segment_facts, segment_span, block_facts, block_object}

-- the pages of the spans in a map of orders
abbrev total : map.FinMap nat_cmp ℕ → ℕ
total m = sum_by (λ order. 2 ^ order) (map.values m)

-- ---- one span more or fewer

pub pages_more : (old new : Layout) (first order : ℕ) → map.get old.allocated first ≡ None → new.allocated ≡ map.insert old.allocated first order → allocated_pages new ≡ allocated_pages old + 2 ^ order
pages_more old new first order free e = ap total e ∙ sum_inserted (λ k. 2 ^ k) old.allocated first order free

pub pages_less : (old new : Layout) (first order : ℕ) → IsAllocated old first order → new.allocated ≡ map.remove old.allocated first → allocated_pages new + 2 ^ order ≡ allocated_pages old
pages_less old new first order is e = ap (λ m. total m + 2 ^ order) e ∙ sum_removed (λ k. 2 ^ k) old.allocated first order is

-- a pool takes no span, or one of its class
pub pages_taken : (pools pools' : Objects) (spans spans' : Layout) (class : ℕ) → HoldsFor pools pools' spans spans' class → (allocated_pages spans' ≡ allocated_pages spans) ⊎ (allocated_pages spans' ≡ allocated_pages spans + 2 ^ order_of class)
pages_taken pools pools' spans spans' class (inl same) = inl (ap allocated_pages same.1)
pages_taken pools pools' spans spans' class (inr more) = inr (pages_more spans spans' more.1.0 (order_of class) more.1.4 more.1.2)

-- ---- a trim

pub pages_trimmed : (pools pools' : Objects) (spans spans' : Layout) → Trims pools pools' spans spans' → AreHeldIn pools spans → AreHeldIn pools' spans' → Divides spans' → allocated_pages spans' ≤ allocated_pages spans
pages_trimmed pools pools' spans spans' t old new divided =
    sum_within spans'.pages (λ k. 2 ^ k) spans'.allocated spans.allocated (λ g k is. (inside g k is, was g k is (map.get pools.held g) (map.get pools'.held g) refl refl))
  where
    inside : (g k : ℕ) → IsAllocated spans' g k → g < spans'.pages
    inside g k is = (let fits = (divided.spans g k (inr is)).2 in let some = pow_pos k in omega (arith, fits, some))

    was : (g k : ℕ) → IsAllocated spans' g k → (x y : Option ℕ) → map.get pools.held g ≡ x → map.get pools'.held g ≡ y → IsAllocated spans g k
    was g k is None y e f = sym (t.others g e) ∙ is
    was g k is (Some c) None e f = some_or_none is (t.given g c e f)
    was g k is (Some c) (Some d) e f =
        old.allocated g c e ∙ ap (λ z. Some (order_of z)) (some_is e (t.kept g d f)) ∙ sym (new.allocated g d f) ∙ is

-- ---- segments

-- disjoint pieces, at whose first pages spans of 32 pages are allocated
least_pages : (size : ℕ) (ps : List Extent) (m : map.FinMap nat_cmp ℕ) → AreDisjoint size ps → ((q : Extent) → Contains ps q → (first : ℕ) × (q.start ≡ 4096 * first) × (map.get m first ≡ Some 5)) → 32 * length ps ≤ total m
least_pages size [] m apart each = omega arith
least_pages size (p ∷ ps) m apart each =
    let here = each p (has_first p ps) in
    let tail : AreDisjoint size ps = (All-tail (IsWithin size) p ps apart.0, λ i j d l w. apart.1 (suc i) (suc j) d (omega (arith, l)) (omega (arith, w))) in
    let others : All (Disjoint p) ps = (λ k d w. apart.1 0 (suc k) d (omega arith) (omega (arith, w))) in
    let rest = least_pages size ps (map.remove m here.0) tail (λ q has.
    (let there = each q (has_later p q ps has) in
    let other : there.0 ≢ here.0 = (λ e. not_apart p q (All-head (IsWithin size) p ps apart.0).0 (All-contains (IsWithin size) ps q tail.0 has).0
    (here.1 ∙ ap (λ z. 4096 * z) (sym e) ∙ sym there.1) (All-contains (Disjoint p) ps q others has)) in
    (there.0, there.1, get_past_remove m here.0 there.0 other ∙ there.2))) in
    let one = sum_removed (λ k. 2 ^ k) m here.0 5 here.2 in
    omega (arith, rest, one)

pub segments_pages : (n : ℕ) (allocated : List Extent) (spans : Layout) (pools : Objects) → IsConsistent n allocated spans pools → 32 * length (segments_of allocated) ≤ allocated_pages spans
segments_pages n allocated spans pools h =
    least_pages (4096 * n) (segments_of allocated) spans.allocated (disjoint_still is_segment (4096 * n) allocated h.blocks)
    (λ q has. (let f = segment_facts allocated q has in segment_span n allocated spans pools q h f.0 f.1))

-- ---- where each span of the pools has an object

-- a map without the entries that belong to pieces: one for each piece, of so many pages at most
record IsRest (w : ℕ) (ps : List Extent) (P : Extent → ℕ → Type 0) (m rest : map.FinMap nat_cmp ℕ) : Type 0 where
  pages : total m ≤ w * length ps + total rest
  entries : (k o : ℕ) → map.get rest k ≡ Some o → map.get m k ≡ Some o
  others : (k o : ℕ) (q : Extent) → map.get rest k ≡ Some o → Contains ps q → ¬ P q k

one_out : (w : ℕ) (m : map.FinMap nat_cmp ℕ) (k : ℕ) → ((o : ℕ) → map.get m k ≡ Some o → 2 ^ o ≤ w) → total m ≤ w + total (map.remove m k)
one_out w m k few = go (map.get m k) refl
  where
    go : (o : Option ℕ) → map.get m k ≡ o → total m ≤ w + total (map.remove m k)
    go None is = (let same : total m ≡ total (map.remove m k) = ap total (sym (maps_same _ _ (λ q. elim (cases_eq q k) [ inl e ↦ get_removed m k q e ∙ sym is ∙ ap (map.get m) (sym e) | inr d ↦ get_past_remove m k q d ]))) in omega (arith, same))
    go (Some o) is = (let one = sum_removed (λ z. 2 ^ z) m k o is in let small = few o is in omega (arith, one, small))

taken_out : (w : ℕ) (ps : List Extent) (P : Extent → ℕ → Type 0) (m : map.FinMap nat_cmp ℕ) → ((q : Extent) → Contains ps q → (k : ℕ) × P q k) → ((q : Extent) (j k : ℕ) → P q j → P q k → j ≡ k)
    → ((q : Extent) (k o : ℕ) → P q k → map.get m k ≡ Some o → 2 ^ o ≤ w) → (rest : map.FinMap nat_cmp ℕ) × IsRest w ps P m rest
taken_out w [] P m each one few = (m, record { pages = omega arith; entries = λ k o is. is; others = λ k o q is has. absurd (let none = has.1 in omega (arith, none)) })
taken_out w (p ∷ ps) P m each one few =
    let here = each p (has_first p ps) in
    let n = map.remove m here.0 in
    let was : (k o : ℕ) → map.get n k ≡ Some o → (k ≢ here.0) × (map.get m k ≡ Some o) = λ k o is.
    (let d : k ≢ here.0 = (λ e. some_or_none is (get_removed m here.0 k e)) in (d, sym (get_past_remove m here.0 k d) ∙ is)) in
    let later = taken_out w ps P n (λ q has. each q (has_later p q ps has)) one (λ q k o at is. few q k o at (was k o is).1) in
    let r = later.1 in
    let less = one_out w m here.0 (λ o. few p here.0 o here.1) in
    let rest = r.pages in (
      later.0,
      record {
        pages = omega (arith, less, rest);
        entries = λ k o is. (was k o (r.entries k o is)).1;
        others = λ k o q is has at. elim (has_cases p q ps has) [
          | inl same ↦ (was k o (r.entries k o is)).0 (one p k here.0 (subst (λ z. P z k) (sym same) at) here.1)
          | inr more ↦ r.others k o q is more at
        ];
      },
    )

-- a segment begins at a page; a block begins in a span that the pools hold
abbrev StartsAt : Extent → ℕ → Type 0
StartsAt p first = p.start ≡ 4096 * first

abbrev StartsIn : Objects → Extent → ℕ → Type 0
StartsIn pools p first = (class : ℕ) × IsHeld pools first class × (4096 * first ≤ p.start) × (p.start < 4096 * (first + 2 ^ order_of class))

order_most : (n : ℕ) (allocated : List Extent) (spans : Layout) (pools : Objects) (first order : ℕ) → IsConsistent n allocated spans pools → IsAllocated spans first order → 2 ^ order ≤ 32
order_most n allocated spans pools first order h is = elim (h.spans_allocated first order is) [
  | inl s ↦ pow_mono {i = order} {j = 5} (let five = s.0 in omega (arith, five))
  | inr c ↦ pow_mono {i = order} {j = 5} (let few = (h.objects.spans first c.0 c.1).0.order_most in let same = c.2 in omega (arith, few, same))
]

pub pages_at_most : (n : ℕ) (allocated : List Extent) (spans : Layout) (pools : Objects) → IsConsistent n allocated spans pools → AreUsed pools → allocated_pages spans ≤ 32 * length (segments_of allocated) + 16 * length (blocks_of allocated)
pages_at_most n allocated spans pools h used =
    let a = taken_out 32 (segments_of allocated) StartsAt spans.allocated
    (λ q has. (let f = segment_facts allocated q has in let s = segment_span n allocated spans pools q h f.0 f.1 in (s.0, s.1)))
    (λ q j k at at'. omega (arith, at, at')) (λ q k o at is. order_most n allocated spans pools k o h is) in
    let b = taken_out 16 (blocks_of allocated) (StartsIn pools) a.0 (λ q has. in_span q has)
    (λ q j k at at'. one_span q j k at at')
    (λ q k o at is. pow_mono {i = o} {j = 4} (let few = (h.objects.spans k at.0 at.1).0.order_most in let same = some_is (a.1.entries k o is) (h.held.allocated k at.0 at.1) in omega (arith, few, same))) in
    let none = sum_of_none (λ k. 2 ^ k) b.0 (λ k. empty_at a.0 b.0 a.1 b.1 k (map.get b.0 k) refl) in
    let first = a.1.pages in let second = b.1.pages in
    omega (arith, first, second, none)
  where
    in_span : (q : Extent) → Contains (blocks_of allocated) q → (k : ℕ) × StartsIn pools q k
    in_span q has =
        let f = block_facts n allocated spans pools q h has in
        let o = h.objects.slots q.start (size_of (block_object n allocated spans pools q h f.0 f.1).0) (block_object n allocated spans pools q h f.0 f.1).2 in
        let some = (h.objects.spans o.first o.class o.held).0.size_least in
        let size = o.size_is in let to = o.to in
        (o.first, (o.class, o.held, o.from, omega (arith, some, size, to)))

    one_span : (q : Extent) (j k : ℕ) → StartsIn pools q j → StartsIn pools q k → j ≡ k
    one_span q j k at at' = elim (trichotomy j k) [
      | inl e ↦ e
      | inr (inl l) ↦ absurd (let apart = h.objects.apart j k at.0 at'.0 at.1 at'.1 l in let low = at'.2 in let high = at.3 in omega (arith, apart, low, high))
      | inr (inr l) ↦ absurd (let apart = h.objects.apart k j at'.0 at.0 at'.1 at.1 l in let low = at.2 in let high = at'.3 in omega (arith, apart, low, high))
    ]

    empty_at : (m rest : map.FinMap nat_cmp ℕ) → IsRest 32 (segments_of allocated) StartsAt spans.allocated m → IsRest 16 (blocks_of allocated) (StartsIn pools) m rest → (k : ℕ) (x : Option ℕ) → map.get rest k ≡ x → map.get rest k ≡ None
    empty_at m rest a b k None is = is
    empty_at m rest a b k (Some o) is =
        let left = b.entries k o is in
        absurd (elim (h.spans_allocated k o (a.entries k o left)) [
          | inl s ↦ a.others k o (extent (4096 * k) 131072) left (kept_by is_segment (extent (4096 * k) 131072) allocated s.1 (segment_is (extent (4096 * k) 131072) refl)) refl
          | inr c ↦
              (let object = used k c.0 c.1 in
              let is_class = (h.objects.spans k c.0 c.1).0 in
              let at = h.objects_allocated (slot_place k c.0 object.0) (size_of c.0) object.2 in
              let p = extent (slot_place k c.0 object.0) at.0 in
              let within = slot_within k c.0 object.0 is_class object.1 in
              let most = is_class.size_most in let some = is_class.size_least in let fits = at.1 in let low = within.0 in let high = within.1 in
              b.others k o p is (kept_by is_block p allocated at.2 (block_is p (omega (arith, most, fits)))) (c.0, c.1, low, omega (arith, high, some)))
        ])
