use Rattle.std.proofs.Common.{ℕ, List, ap, ◌∙◌}
use Rattle.std.specs.Prelude.{Option}
use Rattle.regions.specs.declared.place.Place.{Place}
use Rattle.index_tree.specs.inside.Listings.{Listing}
use Rattle.index_tree.specs.inside.Rosters.{RosterState, unlisted}
use Rattle.index_tree.proofs.roots.Roots.unlist.Goals as goal

abbrev made : Option Place → ℕ → List Place → Listing → RosterState
made root level spares known = record { tree = record { root = root; level = level; spares = spares }; known = known }

pub returns : goal.returns
returns c =
    let f = c.self.inside in
    ap (λ (k : Listing). made f.root f.level f.spares k) c.without_place-self-inside.ensures ∙ ap (λ (r : RosterState). unlisted c.args.place r) c.self.view_is
