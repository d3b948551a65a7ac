use Rattle.std.proofs.Common.{◌≡◌, inl, inr, true≢false, List, length, Option, sym, ap, subst, ◌∙◌, arith}
use Rattle.std.specs.Prelude.{IsSome}
use Rattle.regions.specs.Contents.{Item, live_at}
use Rattle.regions.specs.declared.place.Place.{Place}
use Rattle.index_tree.specs.inside.Listings.{less_place}
use Rattle.index_tree.specs.inside.Rosters.{IsRosterOf, RosterState, with_freed}
use Rattle.index_tree.proofs.Freed.{one_fewer, roster_without, was_listed}
use Rattle.place_lemmas.proofs.Places.{place_cases}
use Rattle.index_tree.proofs.roots.Roots.drop_spare.Goals as goal

pub returns-clause-roster : goal.returns-clause-roster
returns-clause-roster c =
    let f = c.self.inside in let old = live_at c.args.region.now in let new = live_at c.kill_node.new.region in let e = c.kill_node.ensures in let p = c.pop-place.result in
    let r : RosterState = record { tree = record { root = f.root; level = f.level; spares = c.pop-place.new.self }; known = f.roster.known } in
    let before : IsRosterOf (with_freed p r) old =
    subst (λ (ps : List Place). IsRosterOf (record { tree = record { root = f.root; level = f.level; spares = ps }; known = f.roster.known }) old) c.pop-place.ensures
    (subst (λ (x : RosterState). IsRosterOf x old) (sym c.self.view_is) c.requires.roster) in
    subst (λ (x : RosterState). IsRosterOf x new) (sym c.unlist.ensures) (roster_without old new r p before e.gone e.others)

pub returns-clause-counted : goal.returns-clause-counted
returns-clause-counted c = λ counted.
    (let f = c.self.inside in let old = live_at c.args.region.now in let new = live_at c.kill_node.new.region in let e = c.kill_node.ensures in let p = c.pop-place.result in
    let r : RosterState = record { tree = record { root = f.root; level = f.level; spares = c.pop-place.new.self }; known = f.roster.known } in
    let before : IsRosterOf (with_freed p r) old =
    subst (λ (ps : List Place). IsRosterOf (record { tree = record { root = f.root; level = f.level; spares = ps }; known = f.roster.known }) old) c.pop-place.ensures
    (subst (λ (x : RosterState). IsRosterOf x old) (sym c.self.view_is) c.requires.roster) in
    let fewer = one_fewer p f.roster.known.places before.listed.apart (was_listed old new r p before e.gone e.others) in
    let same : length c.unlist.new.self.known.places ≡ length (less_place p f.roster.known.places) = ap (λ (x : RosterState). length x.known.places) c.unlist.ensures in
    let were : length f.roster.known.places ≡ length c.args.self.now.known.places = ap (λ (x : RosterState). length x.known.places) c.self.view_is in
    let less = e.live_total in
    omega (arith, counted, fewer, same, were, less))

pub returns-clause-remain : goal.returns-clause-remain
returns-clause-remain c = λ q some.
    (let new = live_at c.kill_node.new.region in let e = c.kill_node.ensures in
    elim (place_cases q c.pop-place.result) [
      | inl here ↦ absurd (true≢false (sym (subst (λ (o : Option Item). IsSome o) (ap new here ∙ e.gone) some)))
      | inr far ↦ e.others q far
    ])
