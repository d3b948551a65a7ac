use Rattle.std.proofs.Common.{◌≡◌, ℕ, ◌+◌, ◌-◌, Option, Some, None, inr, inl, refl, ap, ◌∙◌, arith}
use Rattle.std.specs.Prelude.{IfSome, IsNone, IsSome}
use Rattle.std.proofs.lemmas.Bool.Decides.{leb_tells}
use Rattle.std.proofs.lemmas.List.{length-map}
use Rattle.regions.specs.Segments.{RegionState, all_emptied, ended, fresh, segment_at, with_segment}
use Rattle.regions.specs.Shapes.{IsGreatestHeld, free_count, group_count, held_count, shape}
use Rattle.regions.specs.Counts.{live_total}
use Rattle.regions.specs.Contents.{item_if_live, live_at, standing_at}
use Rattle.regions.specs.declared.place.Place.{Place}
use Rattle.raw_range.specs.Memory.{Lent}
use Rattle.index_tree.specs.Store.{nodes_of}
use Rattle.index_tree.specs.Trees.{index_of}
use Rattle.index_tree.specs.inside.Consistent.{HasFree, IsConsistent}
use Rattle.index_tree.specs.inside.Rosters.{RosterState}
use Rattle.index_tree.proofs.States.{empty_consistent, held_emptied, no_nodes}
use Rattle.index_tree.proofs.tree.IndexTree.give_up.Goals as goal

-- the groups are those that were there, and one segment fewer is held
IsGiven : Option Lent → RegionState → RegionState → Type 0
IsGiven o r s = IfSome o (λ piece. (n : ℕ) × IsGreatestHeld r n × (segment_at (all_emptied r) n ≡ Some (fresh piece)) × (s ≡ with_segment (all_emptied r) n None))

groups_given : (o : Option Lent) (r s : RegionState) → (IsNone o → s ≡ all_emptied r) → IsGiven o r s → (group_count s ≡ group_count r) × ((shape s).most ≡ (shape r).most)
unfolding IsGiven
groups_given None r s none some = (ap group_count (none refl) ∙ length-map r.groups ended, ap (λ (x : RegionState). (shape x).most) (none refl))
groups_given (Some p) r s none some = (ap group_count some.3 ∙ length-map r.groups ended, ap (λ (x : RegionState). (shape x).most) some.3)

held_given : (o : Option Lent) (r s : RegionState) → (IsNone o → s ≡ all_emptied r) → (IsNone o → held_count r ≡ 0) → (IsSome o → held_count s + 1 ≡ held_count r) → held_count s ≡ held_count r - 1
held_given None r s none zero_held some = (let e = ap held_count (none refl) ∙ held_emptied r.segments in let z = zero_held refl in omega (arith, e, z))
held_given (Some p) r s none zero_held some = (let e = some refl in omega (arith, e))

free_given : (r : RegionState) → free_count r ≡ held_count r → HasFree r
free_given r same = elim (leb_tells (held_count r) 0) [
  | inl none ↦ (let z = none.1 in inr (inl (omega (arith, z))))
  | inr some ↦ (let z = some.1 in inl (omega (arith, z, same)))
]

given_up : (t u : RosterState) (r s : RegionState) (keys segments now : ℕ) (o : Option Lent) → IsConsistent t r keys segments → u ≡ no_nodes → ((p : Place) → standing_at s p ≡ None)
    → (IsNone o → s ≡ all_emptied r) → IsGiven o r s → (IsNone o → held_count r ≡ 0) → (IsSome o → held_count s + 1 ≡ held_count r) → free_count s ≡ held_count s → live_total s ≡ 0
    → now ≡ segments - 1 → IsConsistent u s 0 now
given_up t u r s keys segments now o i is objects none some zero_held fewer free total now_is =
    let held = held_given o r s none zero_held fewer in
    let same = groups_given o r s none some in
    let most_same = same.1 in let were = i.held in let few = i.few in let numbers = i.numbers in
    empty_consistent u s now is (same.0 ∙ i.one) (λ p. ap item_if_live (objects p)) (omega (arith, held, were, now_is)) (omega (arith, held, few)) (omega (arith, most_same, numbers)) (free_given s free) total

pub invariant_of-self : goal.invariant_of-self
unfolding IsGiven
invariant_of-self c =
    let f = c.self.inside in let g = c.give_up-given.ensures in
    given_up f.roots c.new-self-inside.result f.region c.give_up-given.new.self f.keys f.segments c.saturating_sub-self-inside.result c.give_up-given.result c.self.invariant
    c.new-self-inside.ensures g.objects g.emptied g.given g.none.0 g.held g.free g.live_total c.saturating_sub-self-inside.ensures

pub returns-clause-index : goal.returns-clause-index
returns-clause-index c = ap (λ (t : RosterState). index_of (nodes_of (live_at c.give_up-given.new.self)) t.tree) c.new-self-inside.ensures
