use Rattle.std.proofs.Common.{◌≡◌, ℕ, ◌+◌, ◌-◌, ◌≤◌, List, [], length, replicate, take, Option, Some, None, inr, inl, refl, sym, ap, subst, ◌∙◌, arith}
use Rattle.std.specs.Prelude.{IfSome, IsNone, IsSome}
use Rattle.std.proofs.lemmas.Bool.Decides.{leb_tells}
use Rattle.std.proofs.lemmas.List.{length-map, length-replicate, length-take}
use Rattle.layout.specs.Sizes.{most_segments}
use Rattle.regions.specs.Segments.{RegionState, all_emptied, ended, fresh, segment_at, with_segment}
use Rattle.regions.specs.Shapes.{IsGreatestHeld, free_count, group_count, held_count, shape}
use Rattle.regions.specs.Counts.{live_total}
use Rattle.regions.specs.Contents.{live_at, item_if_live, standing_at}
use Rattle.regions.specs.declared.place.Place.{Place}
use Rattle.raw_range.specs.Memory.{Lent}
use Rattle.fragments.specs.Chains.{TableState}
use Rattle.fragments.specs.Store.{StoreState}
use Rattle.fragments.specs.inside.Consistent.{AreEntries, HasFree, IsConsistent, values_in}
use Rattle.fragments.proofs.States.{empty_consistent, empty_values, held_emptied}
use Rattle.fragments.proofs.store.Fragments.give_up.Goals as goal

-- the groups are those that were there, and one segment fewer is held
groups_given : (o : Option Lent) (r s : RegionState) → (IsNone o → s ≡ all_emptied r)
    → IfSome o (λ piece. (n : ℕ) × IsGreatestHeld r n × (segment_at (all_emptied r) n ≡ Some (fresh piece)) × (s ≡ with_segment (all_emptied r) n None)) → group_count s ≡ group_count r
groups_given None r s none some = ap group_count (none refl) ∙ length-map r.groups ended
groups_given (Some p) r s none some = ap group_count some.3 ∙ length-map r.groups ended

most_given : (o : Option Lent) (r s : RegionState) → (IsNone o → s ≡ all_emptied r)
    → IfSome o (λ piece. (n : ℕ) × IsGreatestHeld r n × (segment_at (all_emptied r) n ≡ Some (fresh piece)) × (s ≡ with_segment (all_emptied r) n None)) → (shape s).most ≡ (shape r).most
most_given None r s none some = ap (λ (x : RegionState). (shape x).most) (none refl)
most_given (Some p) r s none some = ap (λ (x : RegionState). (shape x).most) some.3

held_given : (o : Option Lent) (r s : RegionState) → (IsNone o → s ≡ all_emptied r) → (IsNone o → held_count r ≡ 0) → (IsSome o → held_count s + 1 ≡ held_count r) → held_count s ≡ held_count r - 1
held_given None r s none zero_held some = (let e = ap held_count (none refl) ∙ held_emptied r.segments in let z = zero_held refl in omega (arith, e, z))
held_given (Some p) r s none zero_held some = (let e = some refl in omega (arith, e))

free_given : (r : RegionState) → free_count r ≡ held_count r → HasFree r
free_given r same = elim (leb_tells (held_count r) 0) [
  | inl none ↦ (let z = none.1 in inr (inl (omega (arith, z))))
  | inr some ↦ (let z = some.1 in inl (omega (arith, z, same)))
]

given_up : (t u : TableState) (r s : RegionState) (lengths : List ℕ) (segments now : ℕ) (o : Option Lent) → AreEntries t → length lengths ≡ t.names → group_count r ≡ 1 → (shape r).most ≤ most_segments → segments ≡ held_count r
    → u ≡ record t { firsts = replicate (t.names + 1) None; chains = replicate (t.names + 1) [] } → ((p : Place) → standing_at s p ≡ None)
    → (IsNone o → s ≡ all_emptied r) → IfSome o (λ piece. (n : ℕ) × IsGreatestHeld r n × (segment_at (all_emptied r) n ≡ Some (fresh piece)) × (s ≡ with_segment (all_emptied r) n None)) → (IsNone o → held_count r ≡ 0) → (IsSome o → held_count s + 1 ≡ held_count r)
    → free_count s ≡ held_count s → live_total s ≡ 0 → now ≡ segments - 1 → (values_in u s ≡ replicate t.names None) × IsConsistent u s lengths now
given_up t u r s lengths segments now o entries many one few were is objects none some zero_held fewer free total now_is =
    let held = held_given o r s none zero_held fewer in
    let nothing : (p : Place) → live_at s p ≡ None = λ p. ap item_if_live (objects p) in
    let e : TableState = record t { firsts = replicate (t.names + 1) None; chains = replicate (t.names + 1) [] } in
    let entries_now : AreEntries e = record { few = entries.few; firsts = length-replicate (t.names + 1) None; chains = length-replicate (t.names + 1) [] } in
    let groups = groups_given o r s none some ∙ one in let small = subst (λ k. k ≤ most_segments) (sym (most_given o r s none some)) few in
    subst (λ (x : TableState). (values_in x s ≡ replicate t.names None) × IsConsistent x s lengths now) (sym is) (
      empty_values e s lengths now entries_now groups small nothing refl refl many (omega (arith, held, were, now_is)) (free_given s free) total,
      empty_consistent e s lengths now entries_now groups small nothing refl refl many (omega (arith, held, were, now_is)) (free_given s free) total,
    )

pub invariant_of-self : goal.invariant_of-self
invariant_of-self c =
    let f = c.self.inside in let i = c.self.invariant in let g = c.give_up-given.ensures in
    (given_up f.tables c.clear.new.self f.region c.give_up-given.new.self f.lengths.items f.segments c.saturating_sub-self-inside.result c.give_up-given.result i.entries i.many i.one i.few i.held
    c.clear.ensures g.objects g.emptied g.given g.none.0 g.held g.free g.live_total c.saturating_sub-self-inside.ensures).1

pub returns-clause-values : goal.returns-clause-values
returns-clause-values c =
    let f = c.self.inside in let i = c.self.invariant in let g = c.give_up-given.ensures in let entries = i.entries in
    let most = entries.firsts in let cut = length-take f.tables.names f.tables.firsts in
    let names : f.tables.names ≡ length c.args.self.now.firsts = (let e : f.tables.names ≡ length (take f.tables.names f.tables.firsts) = omega (arith, most, cut) in e) ∙ ap (λ (s : StoreState). length s.firsts) c.self.view_is in
    (given_up f.tables c.clear.new.self f.region c.give_up-given.new.self f.lengths.items f.segments c.saturating_sub-self-inside.result c.give_up-given.result i.entries i.many i.one i.few i.held
    c.clear.ensures g.objects g.emptied g.given g.none.0 g.held g.free g.live_total c.saturating_sub-self-inside.ensures).0
    ∙ ap (λ k. replicate k None) names
