use Rattle.std.proofs.Common.{◌≡◌, ℕ, ◌+◌, ◌<◌, true, false, not, length, Option, Some, None, inr, inl, refl, sym, ap, subst, ◌∙◌, arith}
use Rattle.std.specs.Prelude.{IsSome, is_some}
use Rattle.std.proofs.lemmas.List.{get_or-set_same, length-set}
use Rattle.regions.specs.Segments.{GroupState, RegionState, SegmentState, group_at, idle, with_segment}
use Rattle.regions.specs.Shapes.{Shape, activated, active_in, active_of, free_count, group_count, held_count, shape}
use Rattle.fragments.specs.Store.{StoreState, values_of}
use Rattle.fragments.specs.inside.Consistent.{HasFree}
use Rattle.fragments.proofs.States.{consistent_more, values_kept}
use Rattle.fragments.proofs.store.Fragments.add_segment.Goals as goal

groups_added : (r m : RegionState) (n : ℕ) (o : Option SegmentState) → m ≡ with_segment r n o → group_count m ≡ group_count r
groups_added r m n o is = ap group_count is

groups_begun : (m s : RegionState) (n : ℕ) → shape s ≡ activated 0 n (shape m) → group_count s ≡ group_count m
groups_begun m s n is = ap (λ (x : Shape). length x.groups) is ∙ length-set m.groups 0 _

most_added : (r m : RegionState) (n : ℕ) (o : Option SegmentState) → m ≡ with_segment r n o → (shape m).most ≡ (shape r).most
most_added r m n o is = ap (λ (x : RegionState). (shape x).most) is

most_begun : (m s : RegionState) (n : ℕ) → shape s ≡ activated 0 n (shape m) → (shape s).most ≡ (shape m).most
most_begun m s n is = ap (λ (x : Shape). x.most) is

active_begun : (m s : RegionState) (n : ℕ) → shape s ≡ activated 0 n (shape m) → 0 < length m.groups → IsSome (active_of s 0)
active_begun m s n is some =
    subst (λ o. IsSome o) (sym (ap (λ (x : Shape). active_in x.groups 0) is ∙ ap (λ (x : GroupState). x.active) (get_or-set_same m.groups 0 (record { active = Some n; guards = (group_at m.groups 0).guards }) idle some))) refl

free_begun : (r m s : RegionState) (n : ℕ) (o : Option ℕ) → HasFree r → o ≡ active_of r 0 → is_some o ≡ false → free_count m ≡ free_count r + 1 → free_count s + 1 ≡ free_count m
    → held_count s ≡ held_count r + 1 → IsSome (active_of s 0) → HasFree s
free_begun r m s n o free is none more less held active = elim free [
  | inl some ↦ inl (omega (arith, some, more, less))
  | inr few ↦ elim few [
    | inl zero_held ↦ inr (inr (omega (arith, zero_held, held), active))
    | inr one ↦ absurd (let yes : is_some (active_of r 0) ≡ true = some_is (active_of r 0) one.1 in let clash : true ≡ false = sym yes ∙ (ap is_some (sym is) ∙ none) in cc)
  ]
]
  where
    some_is : (q : Option ℕ) → IsSome q → is_some q ≡ true
    some_is None h = h
    some_is (Some x) h = refl

pub overflow_add-self : goal.overflow_add-self
overflow_add-self c =
    let i = c.self.invariant in let held = i.held in
    let room = subst (λ (s : StoreState). held_count s.region < (shape s.region).most) (sym c.self.view_is) c.requires.room in
    let small = i.few in
    record { fits = omega (arith, held, room, small) }

pub invariant_of-self : goal.invariant_of-self
invariant_of-self c =
    let f = c.self.inside in let i = c.self.invariant in let m = c.add_segment.new.self in let s = c.next_active.new.self in let a = c.add_segment.ensures in let b = c.next_active.ensures in
    let groups = groups_added f.region m a.added.0 _ a.added.2 in let one = i.one in
    let held = b.held ∙ a.held in
    consistent_more f.tables f.region s f.lengths.items f.segments i i.entries (λ p. b.objects p ∙ a.objects p)
    (groups_begun m s b.activated.0 b.activated.2 ∙ groups) (most_begun m s b.activated.0 b.activated.2 ∙ most_added f.region m a.added.0 _ a.added.2) held
    (free_begun f.region m s b.activated.0 c.active-active.result i.free c.active-active.ensures.active (c.is_none.ensures ∙ ap not c.if-is_none.true) a.free b.free held
    (active_begun m s b.activated.0 b.activated.2 (omega (arith, groups, one))))
    (b.live_total ∙ a.live_total)

pub invariant_of-self-else-is_none : goal.invariant_of-self-else-is_none
invariant_of-self-else-is_none c =
    let f = c.self.inside in let i = c.self.invariant in let m = c.add_segment.new.self in let a = c.add_segment.ensures in let more = a.free in
    consistent_more f.tables f.region m f.lengths.items f.segments i i.entries a.objects (groups_added f.region m a.added.0 _ a.added.2) (most_added f.region m a.added.0 _ a.added.2) a.held (inl (omega (arith, more))) a.live_total

pub returns-then-is_none-clause-values : goal.returns-then-is_none-clause-values
returns-then-is_none-clause-values c =
    let f = c.self.inside in let a = c.add_segment.ensures in let b = c.next_active.ensures in
    values_kept f.tables f.region c.next_active.new.self f.lengths.items f.segments c.self.invariant c.self.invariant.entries (λ p. b.objects p ∙ a.objects p) ∙ ap (λ (s : StoreState). values_of s) c.self.view_is

pub returns-else-is_none-clause-values : goal.returns-else-is_none-clause-values
returns-else-is_none-clause-values c =
    let f = c.self.inside in let a = c.add_segment.ensures in
    values_kept f.tables f.region c.add_segment.new.self f.lengths.items f.segments c.self.invariant c.self.invariant.entries a.objects ∙ ap (λ (s : StoreState). values_of s) c.self.view_is
