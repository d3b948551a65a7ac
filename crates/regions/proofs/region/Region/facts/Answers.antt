use Rattle.std.proofs.Common.{◌≡◌, ◌<◌, ◌≤◌, ℕ, inl, inr, Bool, true, false, List, length, get_or, refl, sym, ap, ◌∙◌, subst, arith}
use Rattle.std.specs.Prelude.{◌==◌, Option, None, Some, IsSome, is_some, option_map}
use Rattle.std.proofs.lemmas.Bool.{cases_Bool}
use Rattle.std.proofs.lemmas.List.{length-map}
use Rattle.object_log.specs.Objects.{Object, objects}
use Rattle.regions.specs.Segments.{SegmentState, RegionState}
use Rattle.regions.specs.Shapes.{slots_of, slot_at, is_begun, active_of, group_of, HasGroup, IsClosed, IsClosedIn}
use Rattle.regions.specs.Counts.{used_in}
use Rattle.regions.specs.Contents.{Item, standing, standing_in, standing_at, item_if_live, if_live, live_at, object_with}
use Rattle.regions.specs.inside.Consistent.{GroupFields, states}
use Rattle.regions.proofs.Stores.{stands-itself}
use Rattle.regions.proofs.Updates.{used-is}
use Rattle.regions.proofs.Groups.{closed-in-parts}
use Rattle.regions.proofs.Regions.{Fields, closed-in-one, group-is, group-known, nothing-stands, standing-held, live-stands}
use Rattle.regions.proofs.region.Region.facts.Goals as goal

-- an item that is live there is of the segment's group
if-group : (b : Bool) (i j : Item) → if_live b i ≡ Some j → j.group ≡ i.group
if-group true i j e = (let both : Some i ≡ Some j = e in let same : i ≡ j = cc in sym (ap (λ (k : Item). k.group) same))
if-group false i j e = absurd (let clash : None ≡ Some j = e in cc)

item-group : (g : Option ℕ) (bytes : List ℕ) (o : Option Object) (i : Item) → item_if_live (option_map (standing g bytes) o) ≡ Some i → i.group ≡ g
item-group g bytes None i e = absurd (let clash : None ≡ Some i = e in cc)
item-group g bytes (Some o) i e = if-group (o.state == 1) (standing g bytes o).item i e

-- and that group is some group
live-there : (s : Option SegmentState) (at : ℕ) (i : Item) → item_if_live (standing_in s at) ≡ Some i → (h : SegmentState) × (s ≡ Some h) × (i.group ≡ h.group)
live-there None at i e = absurd (let clash : None ≡ Some i = e in cc)
live-there (Some h) at i e = (h, refl, item-group h.group h.piece.bytes (object_with at (objects h.piece.bytes h.used)) i e)

some-group : (o : Option ℕ) → is_some o ≡ true → (g : ℕ) × (o ≡ Some g)
some-group None e = absurd (let clash : false ≡ true = e in cc)
some-group (Some g) e = (g, refl)

segment-there : (s : Option SegmentState) → IsSome s → (h : SegmentState) × (s ≡ Some h)
segment-there None e = absurd (let clash : false ≡ true = e in cc)
segment-there (Some h) e = (h, refl)

-- a segment in which an object stands is of a group
group-of-standing : (most : ℕ) (groups : List GroupFields) (held free : List Bool) (segs : List (Option SegmentState)) → Fields most groups held free segs → (n at : ℕ) (h : SegmentState)
    → get_or segs n None ≡ Some h → IsSome (standing_in (Some h) at) → (g : ℕ) × (h.group ≡ Some g) × (g < length groups)
group-of-standing most groups held free segs v n at h is stands =
    let begun : is_begun (slot_at (slots_of segs) n) ≡ true = elim (cases_Bool (is_begun (slot_at (slots_of segs) n))) [
      | inl yes-begun ↦ yes-begun
      | inr unbegun ↦ absurd (
          let unused : h.used ≡ 0 = sym (used-is segs n ∙ ap used_in is) ∙ (v.empty n unbegun).0 in
          let clash : false ≡ true = sym (ap is_some (nothing-stands h at unused)) ∙ stands in cc)
    ] in
    let g = some-group h.group (sym (ap is_some (group-is most groups held free segs v n h h is)) ∙ begun) in
    (g.0, g.1, group-known most groups held free segs v n h h is g.0 g.1)

pub returns-clause-store : goal.returns-clause-store
returns-clause-store c = λ bare. stands-itself bare (live_at c.args.self.now)

pub returns-clause-groups : goal.returns-clause-groups
returns-clause-groups c =
    let i = c.self.inside in let v = c.self.invariant.0 in let l = length-map i.groups.items (λ (f : GroupFields). f.state) in let some = v.some_group in let few = v.few_groups in
    subst (λ (q : RegionState). (1 ≤ length q.groups) × (length q.groups ≤ 8)) c.self.view_is (omega (arith, l, some), omega (arith, l, few))

pub returns-clause-grouped : goal.returns-clause-grouped
returns-clause-grouped c = λ p item live.
    let i = c.self.inside in let slots = i.slots.items in let v = c.self.invariant.0 in let n = p.segment in
    let was : item_if_live (standing_in (get_or slots n None) p.at) ≡ Some item = subst (λ q. live_at q p ≡ Some item) (sym c.self.view_is) live in
    let t = live-there (get_or slots n None) p.at item was in let h = t.0 in
    let stands : IsSome (standing_in (Some h) p.at) = subst (λ s. IsSome (standing_in s p.at)) t.1 (live-stands (standing_in (get_or slots n None) p.at) (ap is_some was)) in
    let g = group-of-standing i.most i.groups.items i.held i.free slots v n p.at h t.1 stands in
    let w = g.2 in let l = length-map i.groups.items (λ (f : GroupFields). f.state) in (
      g.0,
      t.2 ∙ g.1,
      subst (λ q. group_of q n ≡ Some g.0) c.self.view_is (group-is i.most i.groups.items i.held i.free slots v n h h t.1 ∙ g.1),
      subst (λ q. HasGroup q g.0) c.self.view_is (omega (arith, w, l)),
    )

pub returns-clause-stands : goal.returns-clause-stands
returns-clause-stands c = λ p stands.
    let i = c.self.inside in let slots = i.slots.items in let v = c.self.invariant.0 in let n = p.segment in
    let was : IsSome (standing_in (get_or slots n None) p.at) = subst (λ q. IsSome (standing_at q p)) (sym c.self.view_is) stands in
    let t = segment-there (get_or slots n None) (standing-held (get_or slots n None) p.at was) in let h = t.0 in
    let g = group-of-standing i.most i.groups.items i.held i.free slots v n p.at h t.1 (subst (λ s. IsSome (standing_in s p.at)) t.1 was) in
    let w = g.2 in let l = length-map i.groups.items (λ (f : GroupFields). f.state) in (
      g.0,
      subst (λ q. group_of q n ≡ Some g.0) c.self.view_is (group-is i.most i.groups.items i.held i.free slots v n h h t.1 ∙ g.1),
      subst (λ q. HasGroup q g.0) c.self.view_is (omega (arith, w, l)),
    )

pub returns-clause-closed : goal.returns-clause-closed
returns-clause-closed c =
    let i = c.self.inside in
    subst (λ (q : RegionState). (n : ℕ) → IsClosed q n → (g : ℕ) × HasGroup q g × IsClosedIn q g n) c.self.view_is (closed-in-one i.most i.groups.items i.held i.free i.slots.items c.self.invariant.0)

pub returns-clause-of : goal.returns-clause-of
returns-clause-of c = λ g n now. subst (λ q. group_of q n ≡ Some g) c.self.view_is ((c.self.invariant.0).active g n (subst (λ q. active_of q g ≡ Some n) (sym c.self.view_is) now))

pub returns-clause-active : goal.returns-clause-active
returns-clause-active c = λ g n shut.
    let i = c.self.inside in let slots = i.slots.items in
    let parts = closed-in-parts (states i.groups.items) (slots_of slots) g n (subst (λ q. IsClosedIn q g n) (sym c.self.view_is) shut) in
    subst (λ q. IsSome (active_of q g)) c.self.view_is ((c.self.invariant.0).begins g n parts.0)
