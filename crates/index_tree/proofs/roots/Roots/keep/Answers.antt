use Rattle.std.proofs.Common.{ℕ, List, [], ◌∷◌, ◌++◌, ap, ◌∙◌}
use Rattle.std.specs.Prelude.{Option}
use Rattle.regions.specs.declared.place.Place.{Place}
use Rattle.index_tree.specs.inside.Listings.{Listing}
use Rattle.index_tree.specs.inside.Rosters.{RosterState, with_spare}
use Rattle.index_tree.proofs.roots.Roots.keep.Goals as goal

abbrev made : Option Place → List Place → ℕ → Listing → RosterState
made root spares level known = record { tree = record { root = root; level = level; spares = spares }; known = known }

pub returns : goal.returns
returns c =
    let f = c.self.inside in
    ap (λ (ps : List Place). made f.root ps f.level c.with_place-self-inside.result.known) c.push.ensures
    ∙ (ap (λ (k : Listing). made f.root (f.spares ++ c.args.place ∷ []) f.level k) c.with_place-self-inside.ensures ∙ ap (λ (r : RosterState). with_spare c.args.place r) c.self.view_is)
