-- How what can be given changes.
use Rattle.std.proofs.Common.{◌≡◌, ℕ, zero, suc, ◌%◌, ◌<◌, ◌≤◌, ◌⊎◌, inl, inr, Bool, true, false, cond, Some, None, refl, sym, ap, subst, ◌∙◌, arith}
use Rattle.std.proofs.lemmas.Bool.{cases_eq}
use Rattle.std.specs.Prelude.{nat_le}
use Rattle.std.specs.FinMap as map
use Rattle.layout.specs.Extents.{Extent}
use Rattle.raw_range.specs.Memory.{Memory}
use Rattle.common_lemmas.specs.Lists.{times}
use Rattle.common_lemmas.proofs.Orders.{lt_or_ge, trichotomy}
use Rattle.common_lemmas.proofs.Maps.{get_inserted, get_past_insert, get_removed, get_past_remove, none_in_empty}
use Rattle.common_lemmas.proofs.Options.{some_is, some_or_none}
use Rattle.span_lists.specs.Layout.{Layout, IsFree, Divides, allocated_pages, HasNone, IsGreatest}
use Rattle.small_pools.specs.Classes.{size_of, order_of, order_for, capacity_of, IsClass, IsLeastClass}
use Rattle.small_pools.specs.Objects as pool
use Rattle.small_pools.specs.Objects.{Objects, AreObjects, AreUsed, HasObject, HoldsFor, IsHeld, IsUsedUp, slot_place}
use Rattle.shard_memory.specs.Room.{Room, LacksClass, LacksBlock, LacksSegment, KeepsRoom, HasAllRoom}
use Rattle.shard_memory.specs.inside.Pieces.{Pieces}
use Rattle.shard_memory.specs.inside.Parts.{IsBlockAt, blocks_of, segments_of}

-- what callers see of the parts
abbrev pub pieces_of : Memory → Layout → Objects → Pieces
pieces_of range spans pools = record {
  home = range.home;
  owner = range.owner;
  pages = range.pages;
  blocks = blocks_of range.allocated;
  objects = pools.allocated;
  segments = segments_of range.allocated;
  pages_out = allocated_pages spans;
  room = record { spans = spans; pools = pools };
}

-- ---- what could be given still can

pub room_kept : (old new : Room) → pool.KeepsRoom old.pools new.pools old.spans new.spans → KeepsRoom old new
unfolding LacksClass LacksSegment
room_kept old new kept = record { classes = kept.classes; segment = kept.orders 5 }

-- an object that comes back takes nothing away
pub kept_by_put : (spans : Layout) (pools pools' : Objects) (at : ℕ) → pools'.allocated ≡ map.remove pools.allocated at → pools'.held ≡ pools.held → pool.KeepsRoom pools pools' spans spans
kept_by_put spans pools pools' at e same = record {
  classes = λ class lacks. (λ first slot held within. before (slot_place first class slot) (size_of class) (lacks.0 first slot (ap (λ m. map.get m first) same ∙ held) within), lacks.1);
  orders = λ order none. none;
}
  where
    before : (place size : ℕ) → map.get pools'.allocated place ≡ Some size → map.get pools.allocated place ≡ Some size
    before place size is =
        let there = sym (ap (λ m. map.get m place) e) ∙ is in
        sym (get_past_remove pools.allocated at place (λ q. some_or_none there (get_removed pools.allocated at place q))) ∙ there

-- ---- a block that is given

same_class : (c d : ℕ) → IsClass c → IsClass d → size_of c ≡ size_of d → c ≡ d
same_class c d is is' e = elim (trichotomy c d) [
  | inl same ↦ same
  | inr (inl l) ↦ absurd (let less = is'.above c l in omega (arith, less, e))
  | inr (inr l) ↦ absurd (let less = is.above d l in omega (arith, less, e))
]

-- the object of a new span stands in it
in_new_span : (pools pools' : Objects) (at class first : ℕ) → AreObjects pools' → map.get pools.allocated at ≡ None → pools'.allocated ≡ map.insert pools.allocated at (size_of class) → IsUsedUp pools class → pools'.held ≡ map.insert pools.held first class
    → HasObject pools' first class
in_new_span pools pools' at class first objects free e used more =
    let o = objects.slots at (size_of class) (ap (λ m. map.get m at) e ∙ get_inserted pools.allocated at (size_of class) at refl) in
    let here : IsHeld pools' first class = ap (λ m. map.get m first) more ∙ get_inserted pools.held first class first refl in
    let same : o.class ≡ class = same_class o.class class (objects.spans o.first o.class o.held).0 (objects.spans first class here).0 (sym o.size_is) in
    elim (cases_eq o.first first) [
      | inl is ↦ (
        o.slot,
        subst (λ c. o.slot < capacity_of c) same o.in_slot,
        ap (λ m. map.get m (slot_place first class o.slot)) e
            ∙ get_inserted pools.allocated at (size_of class) (slot_place first class o.slot) (sym (o.at ∙ ap (λ f. slot_place f o.class o.slot) is ∙ ap (λ c. slot_place first c o.slot) same)),
      )
      | inr other ↦ absurd (let held : IsHeld pools o.first class = sym (get_past_insert pools.held first class o.first other) ∙ sym (ap (λ m. map.get m o.first) more) ∙ o.held ∙ ap (λ c. Some c) same in
          some_or_none (used o.first o.slot held (subst (λ c. o.slot < capacity_of c) same o.in_slot)) (ap (map.get pools.allocated) (sym (o.at ∙ ap (λ c. slot_place o.first c o.slot) same)) ∙ free))
    ]

-- where each span had an object, each still has one
pub used_still : (pools pools' : Objects) (spans spans' : Layout) (at class : ℕ) → AreObjects pools' → map.get pools.allocated at ≡ None → pools'.allocated ≡ map.insert pools.allocated at (size_of class) → HoldsFor pools pools' spans spans' class → AreUsed pools → AreUsed pools'
used_still pools pools' spans spans' at class objects free e holds used = λ first c held. by first c held holds
  where
    still : (first c : ℕ) → HasObject pools first c → HasObject pools' first c
    still first c o = (o.0, o.1, ap (λ m. map.get m (slot_place first c o.0)) e ∙ get_past_insert pools.allocated at (size_of class) (slot_place first c o.0) (λ q. some_or_none o.2 (ap (map.get pools.allocated) q ∙ free)) ∙ o.2)

    by : (first c : ℕ) → IsHeld pools' first c → HoldsFor pools pools' spans spans' class → HasObject pools' first c
    by first c held (inl same) = still first c (used first c (sym (ap (λ m. map.get m first) same.0) ∙ held))
    by first c held (inr more) = elim (cases_eq first more.1.0) [
      | inl is ↦ (let which : class ≡ c = some_is (get_inserted pools.held more.1.0 class first is) (sym (ap (λ m. map.get m first) more.1.1) ∙ held) in
          subst (HasObject pools' first) which (subst (λ f. HasObject pools' f class) (sym is) (in_new_span pools pools' at class more.1.0 objects free e more.0 more.1.1)))
      | inr other ↦ still first c (used first c (sym (get_past_insert pools.held more.1.0 class first other) ∙ sym (ap (λ m. map.get m first) more.1.1) ∙ held))
    ]

-- ---- a block that is back

-- the span and the slot of a block, in its least class
pub record HasSlot (pools : Objects) (p : Extent) : Type 0 where
  pub first : ℕ
  pub class : ℕ
  pub slot : ℕ
  pub held : IsHeld pools first class
  pub in_slot : slot < capacity_of class
  pub at : p.start ≡ slot_place first class slot
  pub least : IsLeastClass p.len class

pub slot_of : (pools : Objects) (p : Extent) → AreObjects pools → IsBlockAt pools p → HasSlot pools p
slot_of pools p objects b =
    let o = objects.slots p.start (size_of b.0) b.2 in
    let is = (objects.spans o.first o.class o.held).0 in
    let size = o.size_is in
    let same : o.class ≡ b.0 = (elim (trichotomy o.class b.0) [
      | inl e ↦ e
      | inr (inl l) ↦ absurd (let less = b.1.least o.class l in let holds = b.1.holds in omega (arith, less, holds, size))
      | inr (inr l) ↦ absurd (let less = is.above b.0 l in omega (arith, less, size))
    ]) in
    record {
      first = o.first;
      class = o.class;
      slot = o.slot;
      held = o.held;
      in_slot = o.in_slot;
      at = o.at;
      least = subst (IsLeastClass p.len) (sym same) b.1;
    }

-- a block of the same size can be given again
pub room_of_block : (spans : Layout) (pools pools' : Objects) (p : Extent) → AreObjects pools → IsBlockAt pools p → pools'.allocated ≡ map.remove pools.allocated p.start
    → pools'.held ≡ pools.held → ¬ LacksBlock (record { spans = spans; pools = pools' }) p.len
unfolding LacksBlock LacksClass
room_of_block spans pools pools' p objects block e same lacks =
    let o = slot_of pools p objects block in
    let none = lacks o.class o.least in
    some_or_none (none.0 o.first o.slot (ap (λ m. map.get m o.first) same ∙ o.held) o.in_slot)
    (ap (λ m. map.get m (slot_place o.first o.class o.slot)) e ∙ get_removed pools.allocated p.start (slot_place o.first o.class o.slot) (sym o.at))

-- ---- a segment that is back

order_few : (class : ℕ) → order_of class ≤ 4
unfolding order_of
order_few class = few (size_of class)
  where
    few : (size : ℕ) → order_for size ≤ 4
    few size = by (nat_le size 1024) (nat_le size 2048) (nat_le size 4096) (nat_le size 8192)
      where
        by : (a b c d : Bool) → cond a 0 (cond b 1 (cond c 2 (cond d 3 4))) ≤ 4
        by true b c d = omega arith
        by false true c d = omega arith
        by false false true d = omega arith
        by false false false true = omega arith
        by false false false false = omega arith

greatest_size : size_of 36 ≡ 16384
unfolding size_of
greatest_size = refl

least_below : (n size : ℕ) → n ≤ 37 → ((class : ℕ) → class < n → size_of class < size) ⊎ ((class : ℕ) × IsLeastClass size class)
least_below zero size h = inl (λ class l. absurd (omega (arith, l)))
least_below (suc n) size h = elim (least_below n size (omega (arith, h))) [
  | inr found ↦ inr found
  | inl below ↦ elim (lt_or_ge (size_of n) size) [
    | inl l ↦ inl (λ class w. elim (cases_eq class n) [ inl e ↦ subst (λ z. size_of z < size) (sym e) l | inr d ↦ below class (omega (arith, w, d)) ])
    | inr g ↦ inr (n, record { within = omega (arith, h); holds = g; least = below })
  ]
]

pub least_class : (size : ℕ) → size ≤ 16384 → (class : ℕ) × IsLeastClass size class
least_class size h = elim (least_below 37 size (omega arith)) [
  | inr found ↦ found
  | inl below ↦ absurd (let last = below 36 (omega arith) in let is = greatest_size in omega (arith, last, is, h))
]

-- where a span of a segment's order is free, so is one for each class
pub all_room : (room : Room) → ((order : ℕ) → HasNone room.spans order → 5 < order) → HasAllRoom room
unfolding LacksBlock LacksClass LacksSegment
all_room room orders = record {
  blocks = λ size small lacks.
      (let c = least_class size small in
      let past = orders (order_of c.0) (lacks c.0 c.1).1 in
      let few = order_few c.0 in
      absurd (omega (arith, past, few)));
  segment = λ lacks. absurd (let past = orders 5 lacks in omega (arith, past));
}

-- at the start a long span is free
pub fresh_orders : (spans : Layout) (pages : ℕ) → Divides spans → spans.allocated ≡ map.empty → spans.pages ≡ pages → 1280 ≤ pages → ((first order : ℕ) → IsFree spans first order → IsGreatest pages first order) → (order : ℕ) → HasNone spans order → 5 < order
fresh_orders spans pages divided none same least greatest order lacks =
    let at = divided.covered 0 (omega (arith, same, least)) in
    let first : at.0 ≡ 0 = (let low = at.3 in omega (arith, low)) in
    let free : IsFree spans at.0 at.1 = (elim at.2 [ inl f ↦ f | inr a ↦ none_in_empty spans.allocated at.0 at.1 none a ]) in
    let within = (divided.spans at.0 at.1 at.2).0 in
    let long : 10 ≤ at.1 = (elim (lt_or_ge at.1 10) [
      | inr g ↦ g
      | inl l ↦ absurd (greatest at.0 at.1 free 10 l (omega arith) (ap (λ z. z % 1024) first) (omega (arith, first, least)))
    ]) in
    elim (lt_or_ge 5 order) [
      | inl l ↦ l
      | inr g ↦ absurd (let nil = ap (times at.0) (lacks at.1 (omega (arith, g, long)) (omega (arith, within))) in omega (arith, nil, free))
    ]
