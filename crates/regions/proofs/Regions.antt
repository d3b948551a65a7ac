-- What a change of one segment keeps of a region, and what it does to its objects.
use Rattle.std.proofs.Common.{◌≡◌, ◌≢◌, ℕ, zero, suc, ◌+◌, ◌-◌, ◌<◌, ◌≤◌, inl, inr, Bool, true, false, not, cond, List, [], ◌∷◌, ◌++◌, length, replicate, refl, sym, ap, ◌∙◌, subst, arith, get_or, eq-eqb}
use Rattle.std.specs.Prelude.{Option, None, Some, IsSome, IfSome, is_some, option_map, slice_index, slice_set}
use Rattle.std.specs.List.{count_by}
use Rattle.std.proofs.lemmas.List.Sums.{sum_by-set, sum_by-cons}
use Rattle.std.proofs.lemmas.Bool.{cases_eq, cases_Bool, leb-true}
use Rattle.std.proofs.lemmas.List.{get_or-set_same, get_or-set_other, length-set, length-map, map-set}
use Rattle.std.proofs.Math.Seq.{map-set_same}
use Rattle.layout.specs.Sizes.{segment, dense, greatest_object}
use Rattle.std.proofs.Math.ListN.{get_or-map}
use Rattle.object_log.specs.Objects.{objects}
use Rattle.regions.specs.Segments.{SegmentState, GroupState, RegionState, segment_at, with_segment, emptied, all_emptied}
use Rattle.regions.specs.Shapes.{Slot, Identity, pieces_in, slot_of, slots_of, slot_at, group_in, active_in, is_held, is_free, is_begun, is_number, is_closed, is_closed_in}
use Rattle.regions.specs.Counts.{used_in, live_in, used_in_each, live_in_each, live_bytes, plus, left_of}
use Rattle.regions.specs.Contents.{Standing, size_of, if_live, item_if_live, standing_in, standing_at, standing_among, ChangesIn, ChangesAt, Keeps}
use Rattle.regions.specs.inside.Consistent.{IsConsistent, GroupFields, states, fields_at, unused, begun, lost, not_closed, is_sparse}
use Rattle.regions.specs.declared.place.Place.{Place}
use Rattle.regions.proofs.Tables as tables
use Rattle.regions.proofs.Updates.{within, slot-is, used-is, live-is, slots-same, used-same, live-same, used-plus, live-plus, live-there, live-others}
use Rattle.regions.proofs.Groups.{counted-as, active-at, none-there, closed-parts, closed-in-from, held-within, begun-held, free-unbegun}
use Rattle.regions.proofs.Consistency.{of-within, placed, killed, frees, reslotted}
use Rattle.regions.proofs.Activated.{activates}

abbrev pub Fields : ℕ → List GroupFields → List Bool → List Bool → List (Option SegmentState) → Type 0
Fields most groups held free segs = IsConsistent most groups held free (slots_of segs) (used_in_each segs) (live_in_each segs)

pub as-read : (most : ℕ) (groups : List GroupFields) (held free : List Bool) (s t : List (Option Slot)) (u v l k : List ℕ) → s ≡ t → u ≡ v → l ≡ k
    → IsConsistent most groups held free t v k → IsConsistent most groups held free s u l
as-read most groups held free s t u v l k e f g c =
    subst (λ x. IsConsistent most groups held free x u l) (sym e) (subst (λ x. IsConsistent most groups held free t x l) (sym f) (subst (λ x. IsConsistent most groups held free t v x) (sym g) c))

-- a closed segment is closed in one of the groups
pub closed-in-one : (most : ℕ) (groups : List GroupFields) (held free : List Bool) (segs : List (Option SegmentState)) → Fields most groups held free segs → (n : ℕ) → is_closed (states groups) (slots_of segs) n ≡ true
    → (g : ℕ) × (g < length (states groups)) × (is_closed_in (states groups) (slots_of segs) g n ≡ true)
closed-in-one most groups held free segs v n shut =
    let p = closed-parts (states groups) (slots_of segs) n shut in
    let w = of-within most groups held free (slots_of segs) (used_in_each segs) (live_in_each segs) v p.0 n p.1 in let l = length-map groups (λ (f : GroupFields). f.state) in
    (p.0, omega (arith, w, l), closed-in-from (states groups) (slots_of segs) p.0 n p.1 p.2)

-- what is found through a reference to a group
pub group-there : (groups : List GroupFields) (g : ℕ) (now : GroupFields) → g < length groups → now ≡ get_or groups g now → fields_at groups g ≡ now
group-there groups g now inside e = tables.slot-is groups g now (unused 0) inside e

-- what is found through a reference
pub found-there : (segs : List (Option SegmentState)) (n : ℕ) (now : Option SegmentState) (h : SegmentState) → n < length segs → now ≡ get_or segs n now → now ≡ Some h → get_or segs n None ≡ Some h
found-there segs n now h inside e is = tables.slot-is segs n now None inside e ∙ is

-- a group of the region that callers see is one of the fields'
pub group-in : (most : ℕ) (groups : List GroupFields) (segs : List (Option SegmentState)) (r : RegionState) (g : ℕ) → record { most = most; groups = states groups; segments = segs } ≡ r → g < length r.groups → g < length groups
group-in most groups segs r g view w =
    let v : g < length (states groups) = subst (λ (q : RegionState). g < length q.groups) (sym view) w in let l = length-map groups (λ (f : GroupFields). f.state) in omega (arith, v, l)

pub active-there : (groups : List GroupFields) (g : ℕ) (now : GroupFields) (o : Option ℕ) → fields_at groups g ≡ now → o ≡ now.state.active → active_in (states groups) g ≡ o
active-there groups g now o is e = active-at groups g ∙ ap (λ (f : GroupFields). f.state.active) is ∙ sym e

-- where an object stands a segment is held
pub standing-within : (segs : List (Option SegmentState)) (n at : ℕ) → IsSome (standing_in (get_or segs n None) at) → n < length segs
standing-within [] n at h = absurd (let clash : false ≡ true = h in cc)
standing-within (x ∷ xs) zero at h = omega arith
standing-within (x ∷ xs) (suc n) at h = let rest = standing-within xs n at h in omega (arith, rest)

pub live-stands : (s : Option Standing) → IsSome (item_if_live s) → IsSome s
live-stands None h = h
live-stands (Some s) h = refl

pub live-within : (segs : List (Option SegmentState)) (n at : ℕ) → IsSome (item_if_live (standing_in (get_or segs n None) at)) → n < length segs
live-within segs n at h = standing-within segs n at (live-stands (standing_in (get_or segs n None) at) h)

pub standing-held : (s : Option SegmentState) (at : ℕ) → IsSome (standing_in s at) → IsSome s
standing-held None at h = h
standing-held (Some h) at e = refl

some-there : (s : Option SegmentState) → is_held (option_map slot_of s) ≡ true → (h : SegmentState) × (s ≡ Some h)
some-there None e = absurd (let clash : false ≡ true = e in cc)
some-there (Some h) e = (h, refl)

-- a change in one segment is one of the region
pub changes-set : (r : RegionState) (n at : ℕ) (is : Option Standing) (new : Option SegmentState) → n < length r.segments → ChangesIn at is (segment_at r n) new
    → ChangesAt (record { segment = n; at = at }) is r (with_segment r n new)
changes-set r n at is new inside ch = record {
  here = ap (λ s. standing_in s at) (get_or-set_same r.segments n new None inside) ∙ ch.here;
  others = λ q ne.
      elim (cases_eq q.segment n) [
        | inl here ↦
            let far : q.at ≢ at = λ e. ne (let both : q ≡ record { segment = n; at = at } = ap (λ k. let x : Place = record { segment = k; at = q.at } in x) here ∙ ap (λ k. let x : Place = record { segment = n; at = k } in x) e in both) in
            ap (λ k. standing_in (get_or (slice_set r.segments n new) k None) q.at) here ∙ ap (λ s. standing_in s q.at) (get_or-set_same r.segments n new None inside)
            ∙ ch.others q.at far ∙ ap (λ k. standing_in (segment_at r k) q.at) (sym here)
        | inr other ↦ ap (λ s. standing_in s q.at) (get_or-set_other r.segments n q.segment new None other)
      ];
}

-- where the same stands in the one segment, the same stands in the region
pub keeps-set : (r : RegionState) (n : ℕ) (new : Option SegmentState) → n < length r.segments → ((a : ℕ) → standing_in new a ≡ standing_in (segment_at r n) a) → Keeps r (with_segment r n new)
keeps-set r n new inside same q =
    elim (cases_eq q.segment n) [
      | inl here ↦
          ap (λ k. standing_in (get_or (slice_set r.segments n new) k None) q.at) here ∙ ap (λ s. standing_in s q.at) (get_or-set_same r.segments n new None inside)
          ∙ same q.at ∙ ap (λ k. standing_in (segment_at r k) q.at) (sym here)
      | inr other ↦ ap (λ s. standing_in s q.at) (get_or-set_other r.segments n q.segment new None other)
    ]

-- in a segment whose objects end at its start nothing stands
pub nothing-stands : (h : SegmentState) (a : ℕ) → h.used ≡ 0 → standing_in (Some h) a ≡ None
nothing-stands h a e = ap (λ k. standing_among h.group h.piece.bytes a (objects h.piece.bytes k)) e

pub replicate-more : {X : Type 0} (n : ℕ) (x : X) → replicate n x ++ x ∷ [] ≡ replicate (n + 1) x
replicate-more zero x = refl
replicate-more (suc n) x = ap (λ l. x ∷ l) (replicate-more n x) ∙ (let e : suc (n + 1) ≡ suc n + 1 = omega arith in ap (λ k. replicate k x) e)

-- where every segment is free nothing stands
pub nothing-in-emptied : (s : Option SegmentState) (a : ℕ) → standing_in (option_map emptied s) a ≡ None
nothing-in-emptied None a = refl
nothing-in-emptied (Some h) a = refl

pub nothing-emptied : (r : RegionState) (p : Place) → standing_at (all_emptied r) p ≡ None
nothing-emptied r p = ap (λ s. standing_in s p.at) (get_or-map (λ s. option_map emptied s) r.segments p.segment None) ∙ nothing-in-emptied (segment_at r p.segment) p.at

taken-out : (slots : List (Option SegmentState)) (n : ℕ) → get_or (slice_set slots n None) n None ≡ None
taken-out [] n = refl
taken-out (x ∷ xs) zero = refl
taken-out (x ∷ xs) (suc n) = taken-out xs n

pub nothing-less : (r : RegionState) (n : ℕ) → ((p : Place) → standing_at r p ≡ None) → (p : Place) → standing_at (with_segment r n None) p ≡ None
nothing-less r n nothing p =
    elim (cases_eq p.segment n) [
      | inl here ↦ ap (λ k. standing_in (get_or (slice_set r.segments n None) k None) p.at) here ∙ ap (λ s. standing_in s p.at) (taken-out r.segments n)
      | inr other ↦ ap (λ s. standing_in s p.at) (get_or-set_other r.segments n p.segment None None other) ∙ nothing p
    ]

pub not-held : (s : Option SegmentState) → is_held (option_map slot_of s) ≡ false → s ≡ None
not-held None e = refl
not-held (Some h) e = absurd (let clash : true ≡ false = e in cc)

module _ (most : ℕ) (groups : List GroupFields) (held free : List Bool) (segs : List (Option SegmentState)) (c : Fields most groups held free segs) where
  used-long : length (used_in_each segs) ≡ length (slots_of segs)
  used-long = length-map segs used_in ∙ sym (length-map segs (λ s. option_map slot_of s))

  live-long : length (live_in_each segs) ≡ length (slots_of segs)
  live-long = length-map segs live_in ∙ sym (length-map segs (λ s. option_map slot_of s))

  pub begun-within : (n : ℕ) → is_begun (slot_at (slots_of segs) n) ≡ true → n < length segs
  begun-within n begun = let w = held-within (slots_of segs) n (begun-held (slot_at (slots_of segs) n) begun) in let l = length-map segs (λ s. option_map slot_of s) in omega (arith, w, l)

  pub active-within : (g n : ℕ) → active_in (states groups) g ≡ Some n → n < length segs
  active-within g n now = begun-within n (ap is_some (c.active g n now))

  pub held-there : (n : ℕ) → is_held (slot_at (slots_of segs) n) ≡ true → (h : SegmentState) × (get_or segs n None ≡ Some h)
  held-there n e = some-there (get_or segs n None) (sym (ap is_held (slot-is segs n)) ∙ e)

  module _ (n : ℕ) (old new : SegmentState) (is : get_or segs n None ≡ Some old) where
    pub group-is : group_in (slot_at (slots_of segs) n) ≡ old.group
    group-is = ap group_in (slot-is segs n ∙ ap (λ s. option_map slot_of s) is)

    pub group-known : (g : ℕ) → old.group ≡ Some g → g < length groups
    group-known g of = of-within most groups held free (slots_of segs) (used_in_each segs) (live_in_each segs) c g n (group-is ∙ of)

    pub placed-in : (g k : ℕ) (f : GroupFields) → fields_at groups g ≡ f → g < length groups → active_in (states groups) g ≡ Some n → slot_of new ≡ slot_of old → new.used ≡ old.used + k → live_in (Some new) ≡ live_in (Some old) + k
        → Fields most (slice_set groups g (record f { live = f.live + k })) held free (slice_set segs n (Some new))
    placed-in g k f at w now slot used live =
        as-read most (slice_set groups g (record f { live = f.live + k })) held free _ _ _ _ _ _ (slots-same segs n old new is slot) (used-plus segs n old new is k used) (live-plus segs n old new is k live)
        (placed most groups held free (slots_of segs) (used_in_each segs) (live_in_each segs) c g f at w n k now used-long live-long)

    pub killed-in : (g k : ℕ) (f : GroupFields) → fields_at groups g ≡ f → g < length groups → old.group ≡ Some g → slot_of new ≡ slot_of old → new.used ≡ old.used → live_in (Some old) ≡ live_in (Some new) + k
        → Fields most (slice_set groups g (lost n k f)) held free (slice_set segs n (Some new))
    killed-in g k f at w of slot used live =
        as-read most (slice_set groups g (lost n k f)) held free _ _ _ _ _ _ (slots-same segs n old new is slot) (used-same segs n old new is used) refl
        (killed most groups held free (slots_of segs) (used_in_each segs) (live_in_each segs) c g f at w n k (live_in_each (slice_set segs n (Some new))) (group-is ∙ of)
        (live-is segs n ∙ ap live_in is ∙ live ∙ ap (λ x. x + k) (sym (live-there segs n old new is))) (live-others segs n old new is))

    pub kept-in : slot_of new ≡ slot_of old → new.used ≡ old.used → live_in (Some new) ≡ live_in (Some old) → Fields most groups held free (slice_set segs n (Some new))
    kept-in slot used live = as-read most groups held free _ _ _ _ _ _ (slots-same segs n old new is slot) (used-same segs n old new is used) (live-same segs n old new is live) c

    pub live-enough : (k : ℕ) → live_in (Some old) ≡ live_in (Some new) + k → k ≤ slice_index (live_in_each segs) n
    live-enough k live = let e = live-is segs n ∙ ap live_in is in omega (arith, e, live)

-- the group of a segment that was read after it had changed, but not its group
pub begun-group : (segs : List (Option SegmentState)) (n : ℕ) (old new : SegmentState) (at : Option SegmentState) (g : ℕ) → n < length segs → at ≡ get_or (slice_set segs n (Some new)) n at
    → group_in (option_map slot_of at) ≡ Some g → slot_of new ≡ slot_of old → old.group ≡ Some g
begun-group segs n old new at g w e of slot =
    let l = length-set segs n (Some new) in
    let there : Some new ≡ at = sym (get_or-set_same segs n (Some new) None w) ∙ tables.slot-is (slice_set segs n (Some new)) n at None (omega (arith, w, l)) e in
    sym (ap (λ (b : Slot). b.group) slot) ∙ ap (λ s. group_in (option_map slot_of s)) there ∙ of

pub begun-read : (segs : List (Option SegmentState)) (n : ℕ) (old new : SegmentState) (at : Option SegmentState) → n < length segs → at ≡ get_or (slice_set segs n (Some new)) n at
    → IsSome old.group → slot_of new ≡ slot_of old → is_begun (option_map slot_of at) ≡ true
begun-read segs n old new at w e begun slot =
    let l = length-set segs n (Some new) in
    let there : Some new ≡ at = sym (get_or-set_same segs n (Some new) None w) ∙ tables.slot-is (slice_set segs n (Some new)) n at None (omega (arith, w, l)) e in
    ap (λ s. is_begun (option_map slot_of s)) (sym there) ∙ ap (λ (b : Slot). is_some b.group) slot ∙ begun

pub free-group : (s : Option SegmentState) (h : SegmentState) → s ≡ Some h → is_free (option_map slot_of s) ≡ true → h.group ≡ None
free-group s h is e = none-there h.group (free-unbegun (Some (slot_of h)) (sym (ap (λ s. is_free (option_map slot_of s)) is) ∙ e))

-- the active segment of a group has a place in its table
pub active-tabled : (most : ℕ) (groups : List GroupFields) (held free : List Bool) (segs : List (Option SegmentState)) (c : Fields most groups held free segs) (g : ℕ) (f : GroupFields) → fields_at groups g ≡ f → g < length groups
    → IfSome f.state.active (λ n. n < length f.table)
active-tabled most groups held free segs c g f is w = of-active f.state.active refl where
  of-active : (o : Option ℕ) → f.state.active ≡ o → IfSome o (λ n. n < length f.table)
  of-active None e = tt
  of-active (Some n) e =
      let now : active_in (states groups) g ≡ Some n = active-at groups g ∙ ap (λ (f : GroupFields). f.state.active) is ∙ e in
      let inside = active-within most groups held free segs c g n now in let l = length-map segs (λ s. option_map slot_of s) in let k = c.long in
      let t : length f.table ≡ most = ap (λ (f : GroupFields). length f.table) (sym is) ∙ c.tabled g w in omega (arith, inside, l, k, t)

pub live-unused : (h : SegmentState) → h.used ≡ 0 → live_in (Some h) ≡ 0
live-unused h e = ap (λ u. live_bytes (objects h.piece.bytes u)) e

pub size-lost : (s : Option Standing) (n k : ℕ) (xs ys : List ℕ) → IfSome s (λ s. k ≡ size_of s.item) → xs ≡ plus n k ys → IfSome s (λ s. xs ≡ plus n (size_of s.item) ys)
size-lost None n k xs ys h e = h
size-lost (Some s) n k xs ys h e = e ∙ ap (λ x. plus n x ys) h

pub set-set : {X : Type 0} (xs : List X) (n : ℕ) (x y : X) → slice_set (slice_set xs n x) n y ≡ slice_set xs n y
set-set [] n x y = refl
set-set (z ∷ zs) zero x y = refl
set-set (z ∷ zs) (suc n) x y = ap (λ l. z ∷ l) (set-set zs n x y)

module _ (most : ℕ) (groups : List GroupFields) (held free : List Bool) (segs : List (Option SegmentState)) (c : Fields most groups held free segs) where
  slots-inside : (n : ℕ) → n < length segs → n < length (slots_of segs)
  slots-inside n inside = let l = length-map segs (λ s. option_map slot_of s) in omega (arith, inside, l)

  module _ (n : ℕ) (old new : SegmentState) (is : get_or segs n None ≡ Some old) where
    slot-old : slot_at (slots_of segs) n ≡ Some (slot_of old)
    slot-old = slot-is segs n ∙ ap (λ s. option_map slot_of s) is

    pub slots-set : slots_of (slice_set segs n (Some new)) ≡ slice_set (slots_of segs) n (Some (slot_of new))
    slots-set = map-set (λ s. option_map slot_of s) segs n (Some new)

    pub activates-in : (g : ℕ) (f : GroupFields) → fields_at groups g ≡ f → g < length groups → old.group ≡ None → slot_of new ≡ record (slot_of old) { group = Some g } → old.used ≡ 0 → new.used ≡ 0
        → (IsSome f.state.active → left_of (used_in_each segs) f.state.active < greatest_object) → Fields most (slice_set groups g (begun n f)) held (slice_set free n false) (slice_set segs n (Some new))
    activates-in g f at w was slot before after full =
        as-read most (slice_set groups g (begun n f)) held (slice_set free n false) _ _ _ _ _ _ slots-set (used-same segs n old new is (after ∙ sym before))
        (live-same segs n old new is (live-unused new after ∙ sym (live-unused old before)))
        (activates most groups held free (slots_of segs) (used_in_each segs) (live_in_each segs) c g f at w n (slot_of new)
        (ap is_free slot-old ∙ ap (λ o. not (is_some o)) was) (ap (λ (b : Slot). b.group) slot) full)

    pub frees-in : (g : ℕ) (f : GroupFields) → fields_at groups g ≡ f → g < length groups → is_closed_in (states groups) (slots_of segs) g n ≡ true → live_in (Some old) ≡ 0 → new.group ≡ None → new.used ≡ 0
        → Fields most (slice_set groups g (record f { table = slice_set f.table n not_closed })) held (slice_set free n true) (slice_set segs n (Some new))
    frees-in g f at w closed dead now unused =
        as-read most (slice_set groups g (record f { table = slice_set f.table n not_closed })) held (slice_set free n true) _ _ _ _ _ _ slots-set
        (map-set used_in segs n (Some new) ∙ ap (slice_set (used_in_each segs) n) unused) (live-same segs n old new is (live-unused new unused ∙ sym dead))
        (frees most groups held free (slots_of segs) (used_in_each segs) (live_in_each segs) c g f at w n (slot_of new) closed (live-is segs n ∙ ap live_in is ∙ dead) now (used-long most groups held free segs c))

  -- a free segment is taken out
  pub taken-in : (n : ℕ) (old : SegmentState) → get_or segs n None ≡ Some old → old.group ≡ None → old.used ≡ 0 → Fields most groups (slice_set held n false) (slice_set free n false) (slice_set segs n None)
  taken-in n old is was unused =
      as-read most groups (slice_set held n false) (slice_set free n false) _ _ _ _ _ _ (map-set (λ s. option_map slot_of s) segs n None)
      (map-set_same used_in segs n None None (sym unused ∙ sym (ap used_in is))) (map-set_same live_in segs n None None (sym (live-unused old unused) ∙ sym (ap live_in is)))
      (reslotted most groups held free (slots_of segs) (used_in_each segs) (live_in_each segs) c n None (ap is_some (group-is most groups held free segs c n old old is ∙ was)) refl
      (slots-inside n (within segs n old is)))

  -- a free segment is new
  pub added-in : (n : ℕ) (new : SegmentState) → n < length segs → is_held (slot_at (slots_of segs) n) ≡ false → new.group ≡ None → new.used ≡ 0
      → Fields most groups (slice_set held n true) (slice_set free n true) (slice_set segs n (Some new))
  added-in n new inside was now unused =
      let none = not-held (get_or segs n None) (sym (ap is_held (slot-is segs n)) ∙ was) in
      let slot : slot_at (slots_of segs) n ≡ None = slot-is segs n ∙ ap (λ s. option_map slot_of s) none in
      as-read most groups (slice_set held n true) (slice_set free n true) _ _ _ _ _ _ (map-set (λ s. option_map slot_of s) segs n (Some new))
      (map-set_same used_in segs n (Some new) None (unused ∙ sym (ap used_in none))) (map-set_same live_in segs n (Some new) None (live-unused new unused ∙ sym (ap live_in none)))
      (subst (λ b. IsConsistent most groups (slice_set held n true) (slice_set free n b) (slice_set (slots_of segs) n (Some (slot_of new))) (used_in_each segs) (live_in_each segs)) (ap (λ o. not (is_some o)) now)
      (reslotted most groups held free (slots_of segs) (used_in_each segs) (live_in_each segs) c n (Some (slot_of new)) (ap is_begun slot) (ap is_some now) (slots-inside n inside)))

-- the shape of a region, of whose segments one is another
module _ (segs : List (Option SegmentState)) (n : ℕ) (old new : SegmentState) (is : get_or segs n None ≡ Some old) where
  slot-was : slot_at (slots_of segs) n ≡ Some (slot_of old)
  slot-was = slot-is segs n ∙ ap (λ s. option_map slot_of s) is

  pub slots-changed : slots_of (slice_set segs n (Some new)) ≡ slice_set (slots_of segs) n (Some (slot_of new))
  slots-changed = map-set (λ s. option_map slot_of s) segs n (Some new)

  pub slots-activated : (g : ℕ) → slot_of new ≡ record (slot_of old) { group = Some g }
      → slots_of (slice_set segs n (Some new)) ≡ slice_set (slots_of segs) n (option_map (λ (b : Slot). record b { group = Some g }) (slot_at (slots_of segs) n))
  slots-activated g e =
      slots-changed ∙ ap (slice_set (slots_of segs) n) (ap (λ (b : Slot). Some b) e ∙ sym (ap (option_map (λ (b : Slot). record b { group = Some g })) slot-was))

  pub pieces-same : (slot_of new).piece ≡ (slot_of old).piece → pieces_in (slots_of (slice_set segs n (Some new))) ≡ pieces_in (slots_of segs)
  pieces-same e =
      ap pieces_in slots-changed
      ∙ map-set_same (λ s. option_map (λ (b : Slot). b.piece) s) (slots_of segs) n (Some (slot_of new)) None (ap (λ (p : Identity). Some p) e ∙ sym (ap (option_map (λ (b : Slot). b.piece)) slot-was))

  pub held-same : count_by is_held (slots_of (slice_set segs n (Some new))) ≡ count_by is_held (slots_of segs)
  held-same =
      let w = within segs n old is in let l = length-map segs (λ s. option_map slot_of s) in
      let sums = sum_by-set (λ (x : Option Slot). cond (is_held x) 1 0) (slots_of segs) n (Some (slot_of new)) None (omega (arith, w, l)) in
      let one : counted-as (is_held (slot_at (slots_of segs) n)) ≡ 1 = ap counted-as (ap is_held slot-was) in
      ap (count_by is_held) slots-changed ∙ omega (arith, sums, one)

  pub slot-there : slot_at (slots_of (slice_set segs n (Some new))) n ≡ Some (slot_of new)
  slot-there = slot-is (slice_set segs n (Some new)) n ∙ ap (λ s. option_map slot_of s) (get_or-set_same segs n (Some new) None (within segs n old is))

  pub used-there : slice_index (used_in_each (slice_set segs n (Some new))) n ≡ new.used
  used-there = used-is (slice_set segs n (Some new)) n ∙ ap used_in (get_or-set_same segs n (Some new) None (within segs n old is))

  pub slot-elsewhere : (m : ℕ) → m ≢ n → slot_at (slots_of (slice_set segs n (Some new))) m ≡ slot_at (slots_of segs) m
  slot-elsewhere m far = slot-is (slice_set segs n (Some new)) m ∙ ap (λ s. option_map slot_of s) (get_or-set_other segs n m (Some new) None far) ∙ sym (slot-is segs m)

  -- what was of a group and is not the active one now is closed in it
  pub closed-now : (gs : List GroupState) (g m : ℕ) → group_in (slot_at (slots_of segs) m) ≡ Some g → old.group ≡ None → is_number (active_in gs g) m ≡ false → is_closed_in gs (slots_of (slice_set segs n (Some new))) g m ≡ true
  closed-now gs g m of was other =
      let far : m ≢ n = λ same. (let clash : None ≡ Some g = sym (ap group_in slot-was ∙ was) ∙ subst (λ k. group_in (slot_at (slots_of segs) k) ≡ Some g) same of in cc) in
      closed-in-from gs (slots_of (slice_set segs n (Some new))) g m (ap group_in (slot-elsewhere m far) ∙ of) other

-- the active segment has what it had left, whatever becomes of another
pub left-same : (used : List ℕ) (active : Option ℕ) (n : ℕ) → is_number active n ≡ false → left_of (slice_set used n 0) active ≡ left_of used active
left-same used None n other = refl
left-same used (Some m) n other =
    let far : m ≢ n = λ same. (let clash : false ≡ true = sym other ∙ eq-eqb n m (sym same) in cc) in ap (λ x. segment - x) (get_or-set_other used n m 0 0 far)

pub used-taken : (segs : List (Option SegmentState)) (n : ℕ) (old : SegmentState) → get_or segs n None ≡ Some old → old.used ≡ 0 → used_in_each (slice_set segs n None) ≡ used_in_each segs
used-taken segs n old is unused = map-set_same used_in segs n None None (sym unused ∙ sym (ap used_in is))

pub live-taken : (segs : List (Option SegmentState)) (n : ℕ) (old : SegmentState) → get_or segs n None ≡ Some old → old.used ≡ 0 → live_in_each (slice_set segs n None) ≡ live_in_each segs
live-taken segs n old is unused = map-set_same live_in segs n None None (sym (live-unused old unused) ∙ sym (ap live_in is))

pub live-none : (s : Option SegmentState) → used_in s ≡ 0 → live_in s ≡ 0
live-none None e = refl
live-none (Some h) e = live-unused h e

-- the content of a live object
pub live-content : (s : Option Standing) (xs : List ℕ) → option_map (λ t. t.item.content) s ≡ Some xs → IfSome (item_if_live s) (λ i. i.content ≡ xs)
live-content None xs e = tt
live-content (Some s) xs e = elim s.live as (λ b. IfSome (if_live b s.item) (λ i. i.content ≡ xs)) [ true ↦ (let both : Some s.item.content ≡ Some xs = e in cc) | false ↦ tt ]

pub if-some : {X : Type 0} (o : Option X) (P Q : X → Type 0) → ((x : X) → P x → Q x) → IfSome o P → IfSome o Q
if-some None P Q h p = p
if-some (Some x) P Q h p = h x p

-- what is counted is there
some-counted : (p : ℕ → Bool) (xs : List ℕ) → count_by p xs ≢ 0 → (n : ℕ) × (n < length xs) × (p (slice_index xs n) ≡ true)
some-counted p [] more = absurd (more refl)
some-counted p (x ∷ xs) more =
    elim (cases_Bool (p x)) [
      | inl here ↦ (0, omega arith, here)
      | inr other ↦
          let step : count_by p (x ∷ xs) ≡ counted-as (p x) + count_by p xs = sum_by-cons (λ y. cond (p y) 1 0) x xs in
          let zero-here : counted-as (p x) ≡ 0 = ap counted-as other in
          let e : count_by p (x ∷ xs) ≡ count_by p xs = omega (arith, step, zero-here) in
          let rest = some-counted p xs (λ z. more (e ∙ z)) in (suc rest.0, omega (arith, rest.1), rest.2)
    ]

sparse-open : (b : Bool) (live : ℕ) → is_sparse (cond b live not_closed) ≡ true → (b ≡ true) × (live ≤ dense)
sparse-open true live e = (refl, leb-true live dense e)
sparse-open false live e = absurd (let clash : false ≡ true = e in cc)

pub sparse-closed : (most : ℕ) (groups : List GroupFields) (held free : List Bool) (segs : List (Option SegmentState)) → Fields most groups held free segs → (g : ℕ) → g < length groups
    → count_by is_sparse (fields_at groups g).table ≢ 0 → (n : ℕ) × (is_closed_in (states groups) (slots_of segs) g n ≡ true) × (slice_index (live_in_each segs) n ≤ dense)
sparse-closed most groups held free segs c g w more =
    let f = some-counted is_sparse (fields_at groups g).table more in let l = c.tabled g w in
    let it = sparse-open (is_closed_in (states groups) (slots_of segs) g f.0) (slice_index (live_in_each segs) f.0) (sym (ap is_sparse (c.table g f.0 w (let v = f.1 in omega (arith, v, l)))) ∙ f.2) in
    (f.0, it.0, it.1)
