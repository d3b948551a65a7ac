use Rattle.std.proofs.Common.{List, ◌++◌, ◌<◌, length, Option, Some, sym, ap, subst, ◌∙◌, arith}
use Rattle.regions.specs.Contents.{live_at}
use Rattle.regions.specs.declared.place.Place.{Place}
use Rattle.index_tree.specs.Inserts.{IsRoom, Touched}
use Rattle.index_tree.specs.Store.{levels, levels_if, nodes_of}
use Rattle.index_tree.specs.Trees.{nodes_below}
use Rattle.index_tree.specs.inside.Rosters.{IsRosterOf, RosterState}
use Rattle.index_tree.proofs.InsertedTree.{room_there}
use Rattle.index_tree.proofs.roots.Roots.plant.Goals as goal

pub insert_at_root-requires-clause-room : goal.insert_at_root-requires-clause-room
insert_at_root-requires-clause-room c =
    let r : RosterState = record { tree = record { root = c.self.inside.root; level = c.self.inside.level; spares = c.self.inside.spares }; known = c.self.inside.roster.known } in
    let is : IsRosterOf r (live_at c.args.region.now) = subst (λ (x : RosterState). IsRosterOf x (live_at c.args.region.now)) (sym c.self.view_is) c.requires.roster in
    let many : levels r.tree < length r.tree.spares = subst (λ (x : RosterState). levels x.tree < length x.tree.spares) (sym c.self.view_is) c.requires.spares in
    let high = ap (λ (o : Option Place). levels_if o c.self.inside.level) c.in-Some.is in
    subst (λ (ps : List Place). IsRoom (live_at c.args.region.now) c.self.inside.level c.in-Some.root ps c.args.key.now c.args.number) (sym c.as_slice-spares.ensures)
    (room_there r (live_at c.args.region.now) is c.in-Some.root c.in-Some.is c.args.key.now c.args.number (omega (arith, many, high)))

pub returns-in-Some-clause-touched : goal.returns-in-Some-clause-touched
returns-in-Some-clause-touched c =
    let nodes = nodes_of (live_at c.args.region.now) in
    subst (λ (ps : List Place). Touched ps c.args.region.now c.insert_at_root.new.region)
    (ap (λ (ps : List Place). nodes_below nodes c.self.inside.level (Some c.in-Some.root) ++ ps) c.as_slice-spares.ensures
    ∙ (ap (λ (o : Option Place). nodes_below nodes c.self.inside.level o ++ c.self.inside.spares) (sym c.in-Some.is)
    ∙ ap (λ (x : RosterState). nodes_below nodes x.tree.level x.tree.root ++ x.tree.spares) c.self.view_is))
    c.insert_at_root.ensures.touched
