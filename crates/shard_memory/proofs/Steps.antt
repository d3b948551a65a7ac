-- What each step leaves of the pieces, the spans and the objects together.
use Rattle.std.proofs.Common.{◌≡◌, ◌≢◌, ℕ, ◌+◌, ◌*◌, ◌%◌, ◌^◌, ◌<◌, ◌≤◌, ◌⊎◌, inl, inr, List, [], ◌∷◌, length, Option, Some, None, true, false, cond, not, refl, sym, ap, subst, ◌∙◌, arith}
use Rattle.std.specs.Prelude.{Contains, filter}
use Rattle.std.proofs.lemmas.Bool.{cases_eq}
use Rattle.std.specs.Ordering.{nat_cmp}
use Rattle.std.specs.FinMap as map
use Rattle.layout.specs.Extents.{Extent, extent, Disjoint, AreDisjoint}
use Rattle.layout.specs.Sizes.{most_pages}
use Rattle.raw_range.specs.Memory.{remove_extent}
use Rattle.span_lists.specs.Layout.{Layout, IsAllocated, Divides, IsCoalesced}
use Rattle.common_lemmas.proofs.Orders.{trichotomy}
use Rattle.common_lemmas.proofs.Maps.{get_inserted, get_past_insert, get_removed, get_past_remove}
use Rattle.common_lemmas.proofs.Options.{some_is}
use Rattle.small_pools.specs.Classes.{size_of, order_of, IsClass, IsLeastClass}
use Rattle.small_pools.specs.Objects.{Objects, IsHeld, AreHeldIn, AreObjects, HoldsFor, Trims}
use Rattle.shard_memory.specs.inside.Parts.{IsConsistent, IsSegmentAt, IsBlockAt, is_segment, is_block, blocks_of, segments_of}
use Rattle.shard_memory.specs.inside.Pieces.{most_out}
use Rattle.shard_memory.proofs.Lists.{has_first, has_later, has_cases, kept, still_has, same_place, fewer_blocks, passes, len_of, segment_is, kept_by, block_is}

-- a piece that is allocated lies in an allocated span
in_span : (n : ℕ) (allocated : List Extent) (spans : Layout) (pools : Objects) (q : Extent) → IsConsistent n allocated spans pools → Contains allocated q
    → (first : ℕ) × (order : ℕ) × IsAllocated spans first order × (4096 * first ≤ q.start) × (q.start + q.len ≤ 4096 * (first + 2 ^ order))
in_span n allocated spans pools q h has = elim (h.pieces q has) [
  | inl s ↦ (let len = s.0 in let at = s.1.1 in (s.1.0, 5, s.1.2, omega (arith, at), omega (arith, at, len)))
  | inr b ↦
      (let o = h.objects.slots q.start (size_of b.0) b.2 in
      let low = o.from in let high = o.to in let len = b.1.holds in
      (o.first, order_of o.class, h.held.allocated o.first o.class o.held, low, omega (arith, high, len)))
]

-- a span that was not allocated stays apart from each piece that is allocated
pub apart_from_span : (n : ℕ) (allocated : List Extent) (spans spans' : Layout) (pools : Objects) (first order : ℕ) → IsConsistent n allocated spans pools → map.get spans.allocated first ≡ None → spans'.allocated ≡ map.insert spans.allocated first order → Divides spans'
    → (q : Extent) → Contains allocated q → Disjoint (extent (4096 * first) (4096 * 2 ^ order)) q
apart_from_span n allocated spans spans' pools first order h free e divided q has =
    let s = in_span n allocated spans pools q h has in
    let apart : s.0 ≢ first = (λ w. (let clash : Some s.1 ≡ None = sym s.2 ∙ ap (map.get spans.allocated) w ∙ free in cc)) in
    let now_s : IsAllocated spans' s.0 s.1 = ap (λ m. map.get m s.0) e ∙ get_past_insert spans.allocated first order s.0 apart ∙ s.2 in
    let now_f : IsAllocated spans' first order = ap (λ m. map.get m first) e ∙ get_inserted spans.allocated first order first refl in
    let low = s.3 in let high = s.4 in
    elim (trichotomy s.0 first) [
      | inl w ↦ absurd (apart w)
      | inr (inl l) ↦ (let a = divided.apart s.0 first s.1 order (inr now_s) (inr now_f) l in inr (omega (arith, a, high)))
      | inr (inr l) ↦ (let a = divided.apart first s.0 order s.1 (inr now_f) (inr now_s) l in inl (omega (arith, a, low)))
    ]

pub inside_pages : (n : ℕ) (allocated : List Extent) (spans spans' : Layout) (pools : Objects) (first order : ℕ) → IsConsistent n allocated spans pools → spans'.allocated ≡ map.insert spans.allocated first order
    → spans'.pages ≡ spans.pages → Divides spans' → first + 2 ^ order ≤ n
inside_pages n allocated spans spans' pools first order h e same divided =
    subst (λ p. first + 2 ^ order ≤ p) (same ∙ h.same) (divided.spans first order (inr (ap (λ m. map.get m first) e ∙ get_inserted spans.allocated first order first refl))).2

pub gave_segment : (n : ℕ) (allocated : List Extent) (spans spans' : Layout) (pools : Objects) (first : ℕ) → IsConsistent n allocated spans pools → map.get spans.allocated first ≡ None
    → spans'.allocated ≡ map.insert spans.allocated first 5 → spans'.pages ≡ spans.pages → Divides spans' → IsCoalesced spans' → AreDisjoint (4096 * n) (extent (4096 * first) 131072 ∷ allocated)
    → IsConsistent n (extent (4096 * first) 131072 ∷ allocated) spans' pools
gave_segment n allocated spans spans' pools first h free e same divided coalesced blocks =
    let p = extent (4096 * first) 131072 in
    let keeps : (g k : ℕ) → IsAllocated spans g k → IsAllocated spans' g k = λ g k o.
    ap (λ m. map.get m g) e ∙ get_past_insert spans.allocated first 5 g (λ w. (let clash : Some k ≡ None = sym o ∙ ap (map.get spans.allocated) w ∙ free in cc)) ∙ o in
    let now : IsAllocated spans' first 5 = ap (λ m. map.get m first) e ∙ get_inserted spans.allocated first 5 first refl in
    record {
      most = h.most;
      whole = h.whole;
      same = same ∙ h.same;
      blocks = blocks;
      few = h.few;
      pieces = λ q has. elim (has_cases p q allocated has) [
        | inl w ↦ inl (subst (IsSegmentAt spans') w (refl, (first, refl, now)))
        | inr old ↦ elim (h.pieces q old) [ inl s ↦ inl (s.0, (s.1.0, s.1.1, keeps s.1.0 5 s.1.2)) | inr b ↦ inr b ]
      ];
      spans_allocated = λ g k o. elim (cases_eq g first) [
        | inl w ↦ inl (some_is o (ap (map.get spans'.allocated) w ∙ now), subst (λ z. Contains (p ∷ allocated) (extent (4096 * z) 131072)) (sym w) (has_first p allocated))
        | inr d ↦ elim (h.spans_allocated g k (sym (get_past_insert spans.allocated first 5 g d) ∙ sym (ap (λ m. map.get m g) e) ∙ o)) [ inl s ↦ inl (s.0, has_later p (extent (4096 * g) 131072) allocated s.1) | inr c ↦ inr c ]
      ];
      objects_allocated = λ at size o. (let x = h.objects_allocated at size o in (x.0, x.1, has_later p (extent at x.0) allocated x.2));
      held = record { pages = same ∙ h.held.pages; allocated = λ g c o. keeps g (order_of c) (h.held.allocated g c o) };
      objects = h.objects;
      divided = divided;
      coalesced = coalesced;
    }

not_five : (c : ℕ) → IsClass c → order_of c ≢ 5
not_five c is e = (let most = is.order_most in omega (arith, most, e))

pub segment_returned : (n : ℕ) (allocated : List Extent) (spans spans' : Layout) (pools : Objects) (p : Extent) (first : ℕ) → IsConsistent n allocated spans pools → Contains allocated p → p.len ≡ 131072
    → p.start ≡ 4096 * first → IsAllocated spans first 5 → spans'.allocated ≡ map.remove spans.allocated first → spans'.pages ≡ spans.pages → Divides spans' → IsCoalesced spans' → AreDisjoint (4096 * n) (remove_extent p allocated)
    → IsConsistent n (remove_extent p allocated) spans' pools
segment_returned n allocated spans spans' pools p first h has len at is e same divided coalesced blocks =
    let keeps : (g k : ℕ) → g ≢ first → IsAllocated spans g k → IsAllocated spans' g k = λ g k d o. ap (λ m. map.get m g) e ∙ get_past_remove spans.allocated first g d ∙ o in
    let was : (g k : ℕ) → IsAllocated spans' g k → (g ≢ first) × IsAllocated spans g k = λ g k o.
    (let d : g ≢ first = (λ w. (let clash : None ≡ Some k = sym (get_removed spans.allocated first g w) ∙ sym (ap (λ m. map.get m g) e) ∙ o in cc)) in
    (d, sym (get_past_remove spans.allocated first g d) ∙ sym (ap (λ m. map.get m g) e) ∙ o)) in
    record {
      most = h.most;
      whole = h.whole;
      same = same ∙ h.same;
      blocks = blocks;
      few = (let less = fewer_blocks p allocated in let f = h.few in omega (arith, less, f));
      pieces = λ q has'. (let s = still_has p q allocated has' in elim (h.pieces q s.0) [
        | inl t ↦ inl (t.0, (t.1.0, t.1.1, keeps t.1.0 5 (λ w. s.1 (t.1.1 ∙ ap (λ z. 4096 * z) w ∙ sym at)) t.1.2))
        | inr b ↦ inr b
      ]);
      spans_allocated = λ g k o. (let w = was g k o in elim (h.spans_allocated g k w.1) [
        | inl s ↦ inl (s.0, kept p (extent (4096 * g) 131072) allocated s.1 (λ y. (let d = w.0 in absurd (d (omega (arith, y, at))))))
        | inr c ↦ inr c
      ]);
      objects_allocated = λ a size o. (let x = h.objects_allocated a size o in (
        x.0,
        x.1,
        kept p (extent a x.0) allocated x.2 (λ y.
            (let one : p ≡ extent a x.0 = same_place (4096 * n) allocated p (extent a x.0) h.blocks has x.2 (sym y) in
            let l : p.len ≡ x.0 = ap (λ (z : Extent). z.len) one in
            let t = h.objects.slots a size o in
            let most = (h.objects.spans t.first t.class t.held).0.size_most in
            let fits = x.1 in let size_is = t.size_is in
            omega (arith, l, len, most, fits, size_is))),
      ));
      held = record { pages = same ∙ h.held.pages; allocated = λ g c o. keeps g (order_of c) (λ w. not_five c (h.objects.spans g c o).0 (some_is (h.held.allocated g c o) (ap (map.get spans.allocated) w ∙ is))) (h.held.allocated g c o) };
      objects = h.objects;
      divided = divided;
      coalesced = coalesced;
    }

-- where a segment is allocated, its span is
pub segment_span : (n : ℕ) (allocated : List Extent) (spans : Layout) (pools : Objects) (p : Extent) → IsConsistent n allocated spans pools → Contains allocated p → p.len ≡ 131072 → (first : ℕ) × (p.start ≡ 4096 * first) × IsAllocated spans first 5
segment_span n allocated spans pools p h has len = elim (h.pieces p has) [
  | inl s ↦ s.1
  | inr b ↦ absurd (let t = h.objects.slots p.start (size_of b.0) b.2 in
      let most = (h.objects.spans t.first t.class t.held).0.size_most in
      let fits = b.1.holds in let size_is = t.size_is in
      omega (arith, len, most, fits, size_is))
]

-- where a block is allocated, its object is
pub block_object : (n : ℕ) (allocated : List Extent) (spans : Layout) (pools : Objects) (p : Extent) → IsConsistent n allocated spans pools → Contains allocated p → p.len ≤ 16384 → IsBlockAt pools p
block_object n allocated spans pools p h has len = elim (h.pieces p has) [
  | inl s ↦ absurd (let l = s.0 in omega (arith, l, len))
  | inr b ↦ b
]

-- what a block of the shard is, and a segment
pub block_facts : (n : ℕ) (allocated : List Extent) (spans : Layout) (pools : Objects) (p : Extent) → IsConsistent n allocated spans pools → Contains (blocks_of allocated) p → Contains allocated p × (p.len ≤ 16384)
block_facts n allocated spans pools p h has =
    let a = passes is_block allocated p has in (
      a.0,
      elim (h.pieces p a.0) [
        | inl s ↦ absurd (let clash : false ≡ true = sym (ap not (segment_is p s.0)) ∙ a.1 in cc)
        | inr b ↦
            (let o = h.objects.slots p.start (size_of b.0) b.2 in
            let most = (h.objects.spans o.first o.class o.held).0.size_most in
            let fits = b.1.holds in let size_is = o.size_is in
            omega (arith, most, fits, size_is))
      ],
    )

-- the block of an object
pub block_of_object : (n : ℕ) (allocated : List Extent) (spans : Layout) (pools : Objects) (at size : ℕ) → IsConsistent n allocated spans pools → map.get pools.allocated at ≡ Some size
    → (len : ℕ) × Contains (blocks_of allocated) (extent at len)
block_of_object n allocated spans pools at size was is =
    let b = was.objects_allocated at size is in
    let o = was.objects.slots at size is in
    let most = (was.objects.spans o.first o.class o.held).0.size_most in
    let size_is = o.size_is in
    let small = b.1 in
    (b.0, kept_by is_block (extent at b.0) allocated b.2 (block_is (extent at b.0) (omega (arith, most, size_is, small))))

pub segment_facts : (allocated : List Extent) (p : Extent) → Contains (segments_of allocated) p → Contains allocated p × (p.len ≡ 131072)
segment_facts allocated p has = (let a = passes is_segment allocated p has in (a.0, len_of p a.1))

-- of two least classes that hold a size neither is the lesser
pub least_one : (size k c : ℕ) → IsLeastClass size k → IsLeastClass size c → k ≡ c
least_one size k c a b = elim (trichotomy k c) [
  | inl e ↦ e
  | inr (inl l) ↦ absurd (let less = b.least k l in let holds = a.holds in omega (arith, less, holds))
  | inr (inr l) ↦ absurd (let less = a.least c l in let holds = b.holds in omega (arith, less, holds))
]

pub block_returned : (n : ℕ) (allocated : List Extent) (spans : Layout) (pools pools' : Objects) (p : Extent) → IsConsistent n allocated spans pools → Contains allocated p → p.len ≤ 16384
    → pools'.allocated ≡ map.remove pools.allocated p.start → pools'.held ≡ pools.held → pools'.pages ≡ pools.pages → AreObjects pools' → AreDisjoint (4096 * n) (remove_extent p allocated)
    → IsConsistent n (remove_extent p allocated) spans pools'
block_returned n allocated spans pools pools' p h has len e held pages objects blocks =
    let held_is : (g c : ℕ) → IsHeld pools' g c → IsHeld pools g c = λ g c o. sym (ap (λ m. map.get m g) held) ∙ o in
    record {
      most = h.most;
      whole = h.whole;
      same = h.same;
      blocks = blocks;
      few = (let less = fewer_blocks p allocated in let f = h.few in omega (arith, less, f));
      pieces = λ q has'. (let s = still_has p q allocated has' in elim (h.pieces q s.0) [
        | inl t ↦ inl t
        | inr b ↦ inr (b.0, b.1, ap (λ m. map.get m q.start) e ∙ get_past_remove pools.allocated p.start q.start s.1 ∙ b.2)
      ]);
      spans_allocated = λ g k o. elim (h.spans_allocated g k o) [
        | inl s ↦ inl (
          s.0,
          kept p (extent (4096 * g) 131072) allocated s.1 (λ y.
              (let one : p ≡ extent (4096 * g) 131072 = same_place (4096 * n) allocated p (extent (4096 * g) 131072) h.blocks has s.1 (sym y) in
              let l : p.len ≡ 131072 = ap (λ (z : Extent). z.len) one in
              omega (arith, l, len))),
        )
        | inr c ↦ inr (c.0, ap (λ m. map.get m g) held ∙ c.1, c.2)
      ];
      objects_allocated = λ a size o.
          (let d : a ≢ p.start = (λ w. (let clash : None ≡ Some size = sym (get_removed pools.allocated p.start a w) ∙ sym (ap (λ m. map.get m a) e) ∙ o in cc)) in
          let x = h.objects_allocated a size (sym (get_past_remove pools.allocated p.start a d) ∙ sym (ap (λ m. map.get m a) e) ∙ o) in
          (x.0, x.1, kept p (extent a x.0) allocated x.2 d));
      held = record { pages = h.held.pages ∙ sym pages; allocated = λ g c o. h.held.allocated g c (held_is g c o) };
      objects = objects;
      divided = h.divided;
      coalesced = h.coalesced;
    }

pub trimmed : (n : ℕ) (allocated : List Extent) (spans spans' : Layout) (pools pools' : Objects) → IsConsistent n allocated spans pools → Trims pools pools' spans spans'
    → AreHeldIn pools' spans' → AreObjects pools' → Divides spans' → IsCoalesced spans' → IsConsistent n allocated spans' pools'
trimmed n allocated spans spans' pools pools' h t held objects divided coalesced = record {
  most = h.most;
  whole = h.whole;
  same = held.pages ∙ t.pages ∙ sym h.held.pages ∙ h.same;
  blocks = h.blocks;
  few = h.few;
  pieces = λ q has. elim (h.pieces q has) [
    | inl s ↦ inl (s.0, (s.1.0, s.1.1, t.others s.1.0 (none_held s.1.0 s.1.2 (map.get pools.held s.1.0) refl) ∙ s.1.2))
    | inr b ↦ inr (b.0, b.1, ap (λ m. map.get m q.start) t.allocated ∙ b.2)
  ];
  spans_allocated = λ g k o. was g k o (map.get pools.held g) (map.get pools'.held g) refl refl;
  objects_allocated = λ a size o. h.objects_allocated a size (sym (ap (λ m. map.get m a) t.allocated) ∙ o);
  held = held;
  objects = objects;
  divided = divided;
  coalesced = coalesced;
}
  where
    none_held : (g : ℕ) → IsAllocated spans g 5 → (x : Option ℕ) → map.get pools.held g ≡ x → map.get pools.held g ≡ None
    none_held g o None e = e
    none_held g o (Some c) e = absurd (not_five c (h.objects.spans g c e).0 (some_is (h.held.allocated g c e) o))

    was : (g k : ℕ) → IsAllocated spans' g k → (x y : Option ℕ) → map.get pools.held g ≡ x → map.get pools'.held g ≡ y → ((k ≡ 5) × Contains allocated (extent (4096 * g) 131072)) ⊎ ((c : ℕ) × IsHeld pools' g c × (k ≡ order_of c))
    was g k o x (Some d) e f = inr (d, f, some_is o (held.allocated g d f))
    was g k o (Some c) None e f = absurd (let clash : None ≡ Some k = sym (t.given g c e f) ∙ o in cc)
    was g k o None None e f = elim (h.spans_allocated g k (sym (t.others g e) ∙ o)) [
      | inl s ↦ inl s
      | inr c ↦ absurd (let clash : None ≡ Some c.0 = sym e ∙ c.1 in cc)
    ]

-- ---- a block

-- an allocated span stays allocated while a pool takes an object
still_allocated : (pools pools' : Objects) (spans spans' : Layout) (class g k : ℕ) → HoldsFor pools pools' spans spans' class → IsAllocated spans g k → IsAllocated spans' g k
still_allocated pools pools' spans spans' class g k (inl e) o = ap (λ (s : Layout). map.get s.allocated g) e.1 ∙ o
still_allocated pools pools' spans spans' class g k (inr m) o =
    ap (λ s. map.get s g) m.1.2 ∙ get_past_insert spans.allocated m.1.0 (order_of class) g (λ w. (let clash : Some k ≡ None = sym o ∙ ap (map.get spans.allocated) w ∙ m.1.4 in cc)) ∙ o

-- an allocated span now was allocated before, or is held for the class
was_allocated : (pools pools' : Objects) (spans spans' : Layout) (class g k : ℕ) → HoldsFor pools pools' spans spans' class → IsAllocated spans' g k → IsAllocated spans g k ⊎ (IsHeld pools' g class × (k ≡ order_of class))
was_allocated pools pools' spans spans' class g k (inl e) o = inl (sym (ap (λ (s : Layout). map.get s.allocated g) e.1) ∙ o)
was_allocated pools pools' spans spans' class g k (inr m) o = elim (cases_eq g m.1.0) [
  | inl w ↦ inr (ap (λ s. map.get s g) m.1.1 ∙ get_inserted pools.held m.1.0 class g w, some_is o (ap (λ s. map.get s g) m.1.2 ∙ get_inserted spans.allocated m.1.0 (order_of class) g w))
  | inr d ↦ inl (sym (ap (λ s. map.get s g) m.1.2 ∙ get_past_insert spans.allocated m.1.0 (order_of class) g d) ∙ o)
]

still_held : (pools pools' : Objects) (spans spans' : Layout) (class g c : ℕ) → HoldsFor pools pools' spans spans' class → IsHeld pools g c → IsHeld pools' g c
still_held pools pools' spans spans' class g c (inl e) o = ap (λ s. map.get s g) e.0 ∙ o
still_held pools pools' spans spans' class g c (inr m) o =
    ap (λ s. map.get s g) m.1.1 ∙ get_past_insert pools.held m.1.0 class g (λ w. (let clash : Some c ≡ None = sym o ∙ ap (map.get pools.held) w ∙ m.1.3 in cc)) ∙ o

pub block_inside : (n : ℕ) (allocated : List Extent) (spans : Layout) (pools pools' : Objects) (at class len : ℕ) → IsConsistent n allocated spans pools
    → pools'.allocated ≡ map.insert pools.allocated at (size_of class) → pools'.pages ≡ pools.pages → AreObjects pools' → len ≤ size_of class → at + len ≤ 4096 * n
block_inside n allocated spans pools pools' at class len h e pages objects fits =
    let i = (objects.blocks.within at (size_of class) (ap (λ m. map.get m at) e ∙ get_inserted pools.allocated at (size_of class) at refl)).1 in
    let same : pools'.pages ≡ n = pages ∙ sym h.held.pages ∙ h.same in
    let i' : at + size_of class ≤ 4096 * n = subst (λ p. at + size_of class ≤ 4096 * p) same i in
    omega (arith, i', fits)

pub block_apart : (n : ℕ) (allocated : List Extent) (spans spans' : Layout) (pools pools' : Objects) (at class len : ℕ) → IsConsistent n allocated spans pools → map.get pools.allocated at ≡ None
    → pools'.allocated ≡ map.insert pools.allocated at (size_of class) → HoldsFor pools pools' spans spans' class → AreHeldIn pools' spans' → AreObjects pools' → Divides spans' → len ≤ size_of class
    → (q : Extent) → Contains allocated q → Disjoint (extent at len) q
block_apart n allocated spans spans' pools pools' at class len h free e holds held objects divided fits q has =
    let now : map.get pools'.allocated at ≡ Some (size_of class) = ap (λ m. map.get m at) e ∙ get_inserted pools.allocated at (size_of class) at refl in
    elim (h.pieces q has) [
      | inl s ↦
          (let t = objects.slots at (size_of class) now in
          let is = (objects.spans t.first t.class t.held).0 in
          let here : IsAllocated spans' t.first (order_of t.class) = held.allocated t.first t.class t.held in
          let there : IsAllocated spans' s.1.0 5 = still_allocated pools pools' spans spans' class s.1.0 5 holds s.1.2 in
          let other : t.first ≢ s.1.0 = (λ y. not_five t.class is (some_is here (ap (map.get spans'.allocated) y ∙ there))) in
          let low = t.from in let high = t.to in let q_len = s.0 in let q_at = s.1.1 in
          elim (trichotomy t.first s.1.0) [
            | inl y ↦ absurd (other y)
            | inr (inl l) ↦ (let a = divided.apart t.first s.1.0 (order_of t.class) 5 (inr here) (inr there) l in inl (omega (arith, a, high, q_at, fits)))
            | inr (inr l) ↦ (let a = divided.apart s.1.0 t.first 5 (order_of t.class) (inr there) (inr here) l in inr (omega (arith, a, low, q_at, q_len)))
          ])
      | inr b ↦
          (let other : q.start ≢ at = (λ y. (let clash : Some (size_of b.0) ≡ None = sym b.2 ∙ ap (map.get pools.allocated) y ∙ free in cc)) in
          let there : map.get pools'.allocated q.start ≡ Some (size_of b.0) = ap (λ m. map.get m q.start) e ∙ get_past_insert pools.allocated at (size_of class) q.start other ∙ b.2 in
          let q_len = b.1.holds in
          elim (objects.blocks.disjoint q.start at (size_of b.0) (size_of class) there now other) [
            | inl a ↦ inr (omega (arith, a, q_len))
            | inr a ↦ inl (omega (arith, a, fits))
          ])
    ]

one_more : (p : Extent) (allocated : List Extent) → length (blocks_of (p ∷ allocated)) ≤ length (blocks_of allocated) + 1
one_more p allocated = elim (is_segment p) as (λ b. length (cond (not b) (p ∷ filter is_block allocated) (filter is_block allocated)) ≤ length (filter is_block allocated) + 1) [ true ↦ omega arith | false ↦ omega arith ]

pub gave_block : (n : ℕ) (allocated : List Extent) (spans spans' : Layout) (pools pools' : Objects) (at class len : ℕ) → IsConsistent n allocated spans pools → map.get pools.allocated at ≡ None → pools'.allocated ≡ map.insert pools.allocated at (size_of class)
    → pools'.pages ≡ pools.pages → HoldsFor pools pools' spans spans' class → AreHeldIn pools' spans' → AreObjects pools' → Divides spans' → IsCoalesced spans'
    → IsLeastClass len class → length (blocks_of allocated) < most_out → AreDisjoint (4096 * n) (extent at len ∷ allocated)
    → IsConsistent n (extent at len ∷ allocated) spans' pools'
gave_block n allocated spans spans' pools pools' at class len h free e pages holds held objects divided coalesced least few blocks =
    let p = extent at len in
    let fits = least.holds in
    record {
      most = h.most;
      whole = h.whole;
      same = held.pages ∙ pages ∙ sym h.held.pages ∙ h.same;
      blocks = blocks;
      few = (let more = one_more p allocated in omega (arith, more, few));
      pieces = λ q has. elim (has_cases p q allocated has) [
        | inl w ↦ inr (subst (IsBlockAt pools') w (class, least, ap (λ m. map.get m at) e ∙ get_inserted pools.allocated at (size_of class) at refl))
        | inr old ↦ elim (h.pieces q old) [
          | inl s ↦ inl (s.0, (s.1.0, s.1.1, still_allocated pools pools' spans spans' class s.1.0 5 holds s.1.2))
          | inr b ↦ inr (b.0, b.1, ap (λ m. map.get m q.start) e ∙ get_past_insert pools.allocated at (size_of class) q.start (λ y. (let clash : Some (size_of b.0) ≡ None = sym b.2 ∙ ap (map.get pools.allocated) y ∙ free in cc)) ∙ b.2)
        ]
      ];
      spans_allocated = λ g k o. elim (was_allocated pools pools' spans spans' class g k holds o) [
        | inl w ↦ elim (h.spans_allocated g k w) [ inl s ↦ inl (s.0, has_later p (extent (4096 * g) 131072) allocated s.1) | inr c ↦ inr (c.0, still_held pools pools' spans spans' class g c.0 holds c.1, c.2) ]
        | inr c ↦ inr (class, c.0, c.1)
      ];
      objects_allocated = λ a size o. elim (cases_eq a at) [
        | inl w ↦ (len, (let s : size ≡ size_of class = some_is o (ap (λ m. map.get m a) e ∙ get_inserted pools.allocated at (size_of class) a w) in omega (arith, s, fits)), subst (λ z. Contains (p ∷ allocated) (extent z len)) (sym w) (has_first p allocated))
        | inr d ↦ (let x = h.objects_allocated a size (sym (ap (λ m. map.get m a) e ∙ get_past_insert pools.allocated at (size_of class) a d) ∙ o) in (x.0, x.1, has_later p (extent a x.0) allocated x.2))
      ];
      held = held;
      objects = objects;
      divided = divided;
      coalesced = coalesced;
    }

-- ---- the start

pub all_free : (n m : ℕ) (allocated : List Extent) (spans : Layout) (pools : Objects) → m ≡ n → n ≤ most_pages → n % 32 ≡ 0 → allocated ≡ [] → spans.pages ≡ n → spans.allocated ≡ map.empty
    → pools.pages ≡ n → pools.held ≡ map.empty → pools.allocated ≡ map.empty → AreObjects pools → Divides spans → IsCoalesced spans → IsConsistent m allocated spans pools
all_free n m allocated spans pools e most whole none spans_pages no_spans pools_pages no_held no_allocated objects divided coalesced =
    let empty_at : (x : map.FinMap nat_cmp ℕ) (g k : ℕ) → x ≡ map.empty → map.get x g ≢ Some k = λ x g k w o. (let clash : None ≡ Some k = sym (ap (λ y. map.get y g) w ∙ map.get-empty nat_cmp g) ∙ o in cc) in
    record {
      most = omega (arith, e, most);
      whole = ap (λ z. z % 32) e ∙ whole;
      same = spans_pages ∙ sym e;
      blocks = subst (AreDisjoint (4096 * m)) (sym none) (λ i d w. absurd (omega (arith, w)), λ i j d l w. absurd (omega (arith, w)));
      few = subst (λ o. length (blocks_of o) ≤ most_out) (sym none) (omega arith);
      pieces = λ q has. absurd (let h : Contains [] q = subst (λ o. Contains o q) none has in let l = h.1 in omega (arith, l));
      spans_allocated = λ g k o. absurd (empty_at spans.allocated g k no_spans o);
      objects_allocated = λ a size o. absurd (empty_at pools.allocated a size no_allocated o);
      held = record { pages = spans_pages ∙ sym pools_pages; allocated = λ g c o. absurd (empty_at pools.held g c no_held o) };
      objects = objects;
      divided = divided;
      coalesced = coalesced;
    }
