-- A store is consistent after each of its calls.
use Rattle.std.proofs.Common.{◌≡◌, ◌≢◌, ℕ, zero, suc, ◌+◌, ◌*◌, ◌<◌, ◌≤◌, ◌⊎◌, inl, inr, List, [], ◌∷◌, length, map, replicate, cond, Option, Some, None, refl, sym, ap, subst, ◌∙◌, arith}
use Rattle.std.specs.Prelude.{slice_get, slice_index_or, slice_set, IsSome, option_map}
use Rattle.std.proofs.lemmas.Bool.{cases_eq}
use Rattle.std.proofs.lemmas.Bool.Decides.{leb_tells}
use Rattle.std.proofs.lemmas.List.{get_or-set_same, get_or-set_other, length-replicate, length-set, set_past}
use Rattle.std.proofs.lemmas.List.Sums.{sum-map, sum_by-cons}
use Rattle.std.proofs.lemmas.List.Folds.{sum_by-replicate}
use Rattle.layout.specs.Sizes.{most_segments}
use Rattle.regions.specs.Segments.{GroupState, RegionState, SegmentState, emptied, group_at, idle, with_guards}
use Rattle.std.specs.List.{count_by, sum}
use Rattle.regions.specs.Shapes.{Shape, active_in, active_of, free_count, group_count, held_count, is_free, is_held, Slot, shape, slot_of, slots_of}
use Rattle.regions.specs.Counts.{live_in, live_total}
use Rattle.regions.specs.Contents.{Keeps, item_if_live, live_at}
use Rattle.regions.specs.Stores.{Live, found}
use Rattle.fragments.specs.Fragment.{bare, bare_fragment}
use Rattle.regions.specs.declared.place.Place.{Place}
use Rattle.segmented_store.specs.Room.{room}
use Rattle.fragments.specs.Values.{IsShort, Values, live, size_if, value_of}
use Rattle.fragments.specs.Chains.{TableState, AreChains, HoldParts, Parts, all_parts, chain_at, first_at, owner, parts_if, place_at}
use Rattle.segmented_store.specs.Segments.{HoldsSegments}
use Rattle.fragments.specs.inside.Consistent.{AreEntries, HasFree, IsConsistent, values_in}
use Rattle.place_lemmas.proofs.Places.{some_none}
use Rattle.fragments.proofs.Positions.{no_chain}
use Rattle.fragments.proofs.Stored.{count_is, live_set, parts_named, parts_written, values_are}

active_guarded : (r : RegionState) (g guards : ℕ) → active_of (with_guards r g guards) 0 ≡ active_of r 0
active_guarded r g guards = elim (cases_eq 0 g) [
  | inl s ↦ elim (leb_tells (length r.groups) g) [
    | inl k ↦ ap (λ (gs : List GroupState). (group_at gs 0).active) (set_past r.groups g _ k.1)
    | inr k ↦ subst (λ n. (group_at (slice_set r.groups g (record { active = (group_at r.groups g).active; guards = guards })) n).active ≡ (group_at r.groups n).active) (sym s)
        (ap (λ (x : GroupState). x.active) (get_or-set_same r.groups g (record { active = (group_at r.groups g).active; guards = guards }) idle k.1))
  ]
  | inr far ↦ ap (λ (x : GroupState). x.active) (get_or-set_other r.groups g 0 (record { active = (group_at r.groups g).active; guards = guards }) idle far)
]

-- guards change nothing but their count
pub consistent_guarded : (t : TableState) (r s : RegionState) (lengths : List ℕ) (segments g guards : ℕ) → IsConsistent t r lengths segments → s ≡ with_guards r g guards
    → IsConsistent t s lengths segments
consistent_guarded t r s lengths segments g guards i is = subst (λ (x : RegionState). IsConsistent t x lengths segments) (sym is) (record {
  entries = i.entries;
  one = length-set r.groups g _ ∙ i.one;
  few = i.few;
  chains = i.chains;
  parts = i.parts;
  short = i.short;
  many = i.many;
  lens = i.lens;
  held = i.held;
  free = elim i.free [
    | inl some ↦ inl some
    | inr few ↦ elim few [ inl none ↦ inr (inl none) | inr one ↦ inr (inr (one.0, subst (λ o. IsSome o) (sym (active_guarded r g guards)) one.1)) ]
  ];
  sizes = i.sizes;
  within = i.within;
})

abbrev HasFreeOf : Shape → Type 0
HasFreeOf x = (1 ≤ count_by is_free x.slots) ⊎ ((count_by is_held x.slots ≡ 0) ⊎ ((count_by is_held x.slots ≤ 1) × IsSome (active_in x.groups 0)))

-- ---- a value is set, or dropped

value_set : (values : Values) (n k : ℕ) (o : Option (List ℕ)) → n < length values → (value_of (slice_set values n o) k ≡ value_of values k) ⊎ ((k ≡ n) × (value_of (slice_set values n o) k ≡ o))
value_set values n k o h = elim (cases_eq k n) [
  | inl s ↦ inr (s, ap (λ x. value_of (slice_set values n o) x) s ∙ get_or-set_same values n o None h)
  | inr far ↦ inl (get_or-set_other values n k o None far)
]

short_set : (values : Values) (n : ℕ) (o : Option (List ℕ)) → n < length values → IsShort o → ((k : ℕ) → IsShort (value_of values k)) → (k : ℕ) → IsShort (value_of (slice_set values n o) k)
short_set values n o h is short k = elim (value_set values n k o h) [
  | inl same ↦ subst IsShort (sym same) (short k)
  | inr here ↦ subst IsShort (sym here.1) is
]

abbrev AreLengths : List ℕ → Values → Type 0
AreLengths lengths values = (n : ℕ) (value : List ℕ) → value_of values n ≡ Some value → slice_index_or lengths n 0 ≡ length value

-- the values after a call
pub consistent_set : (t u : TableState) (r s : RegionState) (lengths now : List ℕ) (segments n : ℕ) (o : Option (List ℕ)) → IsConsistent t r lengths segments
    → AreEntries t → AreEntries u → u.names ≡ t.names → n < t.names → AreChains u (live_at s) → HoldParts u (live_at s) (all_parts (slice_set (values_in t r) n o) [])
    → IsShort o → length now ≡ length lengths → AreLengths now (slice_set (values_in t r) n o)
    → HoldsSegments r s → (1 ≤ free_count s) ⊎ (shape s ≡ shape r)
    → live_total s + size_if (value_of (values_in t r) n) ≡ live_total r + size_if o → live_total s ≤ room (held_count r)
    → (values_in u s ≡ slice_set (values_in t r) n o) × IsConsistent u s now segments
consistent_set t u r s lengths now segments n o i entries entries_now names below chains hold short many lens keeps free total within =
    let values = slice_set (values_in t r) n o in
    let count : length (values_in t r) ≡ t.names = count_is t r entries in
    let small : n < length (values_in t r) = omega (arith, count, below) in
    let count_now = length-set (values_in t r) n o in
    let few = entries_now.few in let more = entries_now.firsts in
    let read : values_in u s ≡ values =
    values_are u (live_at s) values [] chains (omega (arith, few)) (omega (arith, more)) (omega (arith, count, count_now, names)) hold in
    let sum_is = live_set (values_in t r) n o small in let were = i.sizes in (
      read,
      record {
        entries = entries_now;
        one = keeps.groups ∙ i.one;
        few = subst (λ k. k ≤ most_segments) (sym keeps.most) i.few;
        chains = chains;
        parts = subst (λ (vs : Values). HoldParts u (live_at s) (all_parts vs [])) (sym read) hold;
        short = subst (λ (vs : Values). (k : ℕ) → IsShort (value_of vs k)) (sym read) (short_set (values_in t r) n o small short i.short);
        many = many ∙ (i.many ∙ sym names);
        lens = subst (λ (vs : Values). AreLengths now vs) (sym read) lens;
        held = i.held ∙ sym keeps.held;
        free = free_now;
        sizes = ap live read ∙ (let e : live values ≡ live_total s = omega (arith, sum_is, were, total) in e);
        within = subst (λ k. live_total s ≤ room k) (sym keeps.held) within;
      },
    )
  where
    free_now : HasFree s
    free_now = elim free [ inl some ↦ inl some | inr same ↦ subst HasFreeOf (sym same) i.free ]

pub lengths_set : (values : Values) (lengths : List ℕ) (n len : ℕ) (bytes : List ℕ) → n < length values → n < length lengths → len ≡ length bytes → AreLengths lengths values
    → AreLengths (slice_set lengths n len) (slice_set values n (Some bytes))
lengths_set values lengths n len bytes h inside is lens k value e = elim (cases_eq k n) [
  | inl s ↦
      (let here : value_of (slice_set values n (Some bytes)) k ≡ Some bytes = ap (λ x. value_of (slice_set values n (Some bytes)) x) s ∙ get_or-set_same values n (Some bytes) None h in
      let same : bytes ≡ value = (let both : Some bytes ≡ Some value = sym here ∙ e in cc) in
      ap (λ x. slice_index_or (slice_set lengths n len) x 0) s ∙ (get_or-set_same lengths n len 0 inside ∙ (is ∙ ap (λ (b : List ℕ). length b) same)))
  | inr far ↦ get_or-set_other lengths n k len 0 far ∙ lens k value (sym (get_or-set_other values n k (Some bytes) None far) ∙ e)
]

pub lengths_dropped : (values : Values) (lengths : List ℕ) (n : ℕ) → n < length values → AreLengths lengths values → AreLengths lengths (slice_set values n None)
lengths_dropped values lengths n h lens k value e = elim (cases_eq k n) [
  | inl s ↦
      (let here : value_of (slice_set values n None) k ≡ None = ap (λ x. value_of (slice_set values n None) x) s ∙ get_or-set_same values n None None h in
      absurd (let both : None ≡ Some value = sym here ∙ e in cc))
  | inr far ↦ lens k value (sym (get_or-set_other values n k None None far) ∙ e)
]

-- ---- the parts

pub none_written : (t : TableState) (r : RegionState) → AreEntries t → all_parts (values_in t r) [] t.names ≡ []
none_written t r entries = ap (all_parts (values_in t r) []) (sym (count_is t r entries)) ∙ parts_written (values_in t r) []

pub part_named : (t : TableState) (r : RegionState) (written : List (List ℕ)) (e : ℕ) → AreEntries t → e ≢ t.names → all_parts (values_in t r) written e ≡ parts_if (value_of (values_in t r) e)
part_named t r written e entries far = parts_named (values_in t r) written e (λ x. far (x ∙ count_is t r entries))

pub part_set : (t : TableState) (r : RegionState) (n e : ℕ) (o : Option (List ℕ)) → AreEntries t → n < t.names → e ≢ n → all_parts (slice_set (values_in t r) n o) [] e ≡ all_parts (values_in t r) [] e
part_set t r n e o entries below far = elim (cases_eq e t.names) [
  | inl s ↦ ap (all_parts (slice_set (values_in t r) n o) []) (s ∙ sym count_now) ∙ (parts_written (slice_set (values_in t r) n o) [] ∙ sym (ap (all_parts (values_in t r) []) s ∙ none_written t r entries))
  | inr away ↦ parts_named (slice_set (values_in t r) n o) [] e (λ x. away (x ∙ count_now))
      ∙ (ap parts_if (get_or-set_other (values_in t r) n e o None far) ∙ sym (part_named t r [] e entries away))
]
  where
    count_now : length (slice_set (values_in t r) n o) ≡ t.names
    count_now = length-set (values_in t r) n o ∙ count_is t r entries

pub part_here : (t : TableState) (r : RegionState) (n : ℕ) (o : Option (List ℕ)) → AreEntries t → n < t.names → all_parts (slice_set (values_in t r) n o) [] n ≡ parts_if o
part_here t r n o entries below =
    let count = count_is t r entries in let count_now = length-set (values_in t r) n o in
    parts_named (slice_set (values_in t r) n o) [] n (λ x. (omega (arith, x, count, count_now, below)))
    ∙ ap parts_if (get_or-set_same (values_in t r) n o None (omega (arith, count, below)))

pub part_after : (t : TableState) (r : RegionState) (n : ℕ) (o : Option (List ℕ)) → AreEntries t → all_parts (slice_set (values_in t r) n o) [] t.names ≡ []
part_after t r n o entries =
    ap (all_parts (slice_set (values_in t r) n o) []) (sym (length-set (values_in t r) n o ∙ count_is t r entries)) ∙ parts_written (slice_set (values_in t r) n o) []

-- ---- the objects stay

module _ (t : TableState) (old new : Live) (same : (p : Place) → new p ≡ old p) (are : AreChains t old) where
  pub chains_kept : AreChains t new
  chains_kept = record {
    firsts = are.firsts;
    linked = λ e i p h.
        (let l = are.linked e i p h in record {
          item = l.item;
          is_live = same p ∙ l.is_live;
          room = l.room;
          fragment = l.fragment;
          back_is = l.back_is;
          next_is = l.next_is;
          name_is = l.name_is;
        });
    owned = are.owned;
    apart = are.apart;
    every = λ p item h. are.every p item (sym (same p) ∙ h);
    short = are.short;
  }

  pub parts_kept : (all : Parts) → HoldParts t old all → HoldParts t new all
  parts_kept all hold = λ e i. by (place_at t.chains e i) ∙ hold e i
    where
      by : (o : Option Place) → found bare new o ≡ found bare old o
      by None = refl
      by (Some p) = ap (option_map bare) (same p)

pub values_kept : (t : TableState) (r s : RegionState) (lengths : List ℕ) (segments : ℕ) → IsConsistent t r lengths segments → AreEntries t → Keeps r s → values_in t s ≡ values_in t r
values_kept t r s lengths segments i entries keeps =
    let same : (p : Place) → live_at s p ≡ live_at r p = λ p. ap item_if_live (keeps p) in
    let few = entries.few in let most = entries.firsts in
    values_are t (live_at s) (values_in t r) [] (chains_kept t (live_at r) (live_at s) same i.chains) (omega (arith, few)) (omega (arith, most)) (count_is t r entries)
    (parts_kept t (live_at r) (live_at s) same i.chains (all_parts (values_in t r) []) i.parts)

-- a segment more
pub consistent_more : (t : TableState) (r s : RegionState) (lengths : List ℕ) (segments : ℕ) → IsConsistent t r lengths segments → AreEntries t → Keeps r s
    → group_count s ≡ group_count r → (shape s).most ≡ (shape r).most → held_count s ≡ held_count r + 1 → HasFree s → live_total s ≡ live_total r → IsConsistent t s lengths (segments + 1)
consistent_more t r s lengths segments i entries keeps groups most held free total =
    let same : (p : Place) → live_at s p ≡ live_at r p = λ p. ap item_if_live (keeps p) in
    let values = values_kept t r s lengths segments i entries keeps in
    let were = i.held in let within = i.within in
    record {
      entries = entries;
      one = groups ∙ i.one;
      few = subst (λ k. k ≤ most_segments) (sym most) i.few;
      chains = chains_kept t (live_at r) (live_at s) same i.chains;
      parts = subst (λ (vs : Values). HoldParts t (live_at s) (all_parts vs [])) (sym values) (parts_kept t (live_at r) (live_at s) same i.chains (all_parts (values_in t r) []) i.parts);
      short = subst (λ (vs : Values). (k : ℕ) → IsShort (value_of vs k)) (sym values) i.short;
      many = i.many;
      lens = subst (λ (vs : Values). AreLengths lengths vs) (sym values) i.lens;
      held = omega (arith, were, held);
      free = free;
      sizes = ap live values ∙ (i.sizes ∙ sym total);
      within = omega (arith, within, held, total);
    }

-- ---- a store without values

none_value : (n e : ℕ) → value_of (replicate n None) e ≡ None
none_value zero e = refl
none_value (suc n) zero = refl
none_value (suc n) (suc e) = none_value n e

none_first : (n e : ℕ) → first_at (replicate n None) e ≡ None
none_first zero e = refl
none_first (suc n) zero = refl
none_first (suc n) (suc e) = none_first n e

module _ (t : TableState) (r : RegionState) (lengths : List ℕ) (segments : ℕ) (entries : AreEntries t) (one : group_count r ≡ 1) (small : (shape r).most ≤ most_segments) (nothing : (p : Place) → live_at r p ≡ None)
    (firsts : t.firsts ≡ replicate (t.names + 1) None) (chains : t.chains ≡ replicate (t.names + 1) []) (many : length lengths ≡ t.names) (held : segments ≡ held_count r)
    (free : HasFree r) (total : live_total r ≡ 0) where
  no_fragment : (e i : ℕ) → place_at t.chains e i ≡ None
  no_fragment e i = ap (λ (cs : List (List Place)). place_at cs e i) chains ∙ ap (λ (ps : List Place). slice_get ps i) (no_chain (t.names + 1) e)

  empty_chains : AreChains t (live_at r)
  empty_chains = record {
    firsts = λ e. ap (λ (os : List (Option Place)). first_at os e) firsts ∙ (none_first (t.names + 1) e ∙ sym (no_fragment e 0));
    linked = λ e i p h. some_none h (no_fragment e i);
    owned = λ e i p h. some_none h (no_fragment e i);
    apart = λ e f i j p h k. some_none h (no_fragment e i);
    every = λ p item h. some_none h (nothing p);
    short = λ e. (let none = ap (λ (cs : List (List Place)). length (chain_at cs e)) chains ∙ ap (λ (ps : List Place). length ps) (no_chain (t.names + 1) e) in omega (arith, none));
  }

  empty_parts : HoldParts t (live_at r) (all_parts (replicate t.names None) [])
  empty_parts e i =
      ap (found bare (live_at r)) (no_fragment e i)
      ∙ sym (ap (λ (ps : List (List ℕ)). option_map (bare_fragment (owner t e)) (slice_get ps i)) (elim (cases_eq e (length {A = Option (List ℕ)} (replicate t.names None))) [
        | inl s ↦ ap (all_parts (replicate t.names None) []) s ∙ parts_written (replicate t.names None) []
        | inr far ↦ parts_named (replicate t.names None) [] e far ∙ ap parts_if (none_value t.names e)
      ]))

  pub empty_values : values_in t r ≡ replicate t.names None
  empty_values =
      let few = entries.few in let most = entries.firsts in
      values_are t (live_at r) (replicate t.names None) [] empty_chains (omega (arith, few)) (omega (arith, most)) (length-replicate t.names None) empty_parts

  pub empty_consistent : IsConsistent t r lengths segments
  empty_consistent = record {
    entries = entries;
    one = one;
    few = small;
    chains = empty_chains;
    parts = subst (λ (vs : Values). HoldParts t (live_at r) (all_parts vs [])) (sym empty_values) empty_parts;
    short = λ n. subst IsShort (sym (ap (λ (vs : Values). value_of vs n) empty_values ∙ none_value t.names n)) tt;
    many = many;
    lens = λ n value e. some_none e (ap (λ (vs : Values). value_of vs n) empty_values ∙ none_value t.names n);
    held = held;
    free = free;
    sizes = ap live empty_values ∙ (sum_by-replicate size_if t.names None ∙ (let z : t.names * 0 ≡ live_total r = omega (arith, total) in z));
    within = omega (arith, total);
  }

-- ---- regions without objects

map_replicate : {A B : Type 0} (f : A → B) (n : ℕ) (x : A) → map f (replicate n x) ≡ replicate n (f x)
map_replicate f zero x = refl
map_replicate {A} {B} f (suc n) x = ap (λ (ys : List B). f x ∷ ys) (map_replicate f n x)

pub no_segment : (n e : ℕ) → slice_index_or {A = Option SegmentState} (replicate n None) e None ≡ None
no_segment zero e = refl
no_segment (suc n) zero = refl
no_segment (suc n) (suc e) = no_segment n e

pub none_held : (n : ℕ) → count_by is_held (slots_of (replicate n None)) ≡ 0
none_held n = ap (count_by is_held) (map_replicate (option_map slot_of) n None) ∙ (sum_by-replicate (λ (x : Option Slot). cond (is_held x) 1 0) n None ∙ (let z : n * 0 ≡ 0 = omega arith in z))

pub none_live : (n : ℕ) → sum (map live_in (replicate n None)) ≡ 0
none_live n = sum-map live_in (replicate n None) ∙ (sum_by-replicate live_in n None ∙ (let z : n * 0 ≡ 0 = omega arith in z))

pub held_emptied : (ss : List (Option SegmentState)) → count_by is_held (slots_of (map (λ s. option_map emptied s) ss)) ≡ count_by is_held (slots_of ss)
held_emptied [] = refl
held_emptied (s ∷ ss) =
    let f : Option Slot → ℕ = λ x. cond (is_held x) 1 0 in
    sum_by-cons f (option_map slot_of (option_map emptied s)) (slots_of (map (λ s. option_map emptied s) ss))
    ∙ (ap (λ n. f (option_map slot_of (option_map emptied s)) + n) (held_emptied ss) ∙ (ap (λ n. n + count_by is_held (slots_of ss)) (one s) ∙ sym (sum_by-cons f (option_map slot_of s) (slots_of ss))))
  where
    one : (s : Option SegmentState) → ◌≡◌ {A = ℕ} (cond (is_held (option_map slot_of (option_map emptied s))) 1 0) (cond (is_held (option_map slot_of s)) 1 0)
    one None = refl
    one (Some h) = refl
