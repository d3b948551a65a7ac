use Rattle.std.proofs.Common.{ℕ, List, take, ap, ◌∙◌}
use Rattle.std.specs.Prelude.{Option}
use Rattle.regions.specs.Contents.{live_at}
use Rattle.regions.specs.declared.place.Place.{Place}
use Rattle.index_tree.specs.Store.{nodes_of}
use Rattle.index_tree.specs.inside.Listings.{Listing}
use Rattle.index_tree.specs.inside.Rosters.{RosterState, settled}
use Rattle.index_tree.proofs.roots.Roots.settle.Goals as goal

abbrev made : Option Place → ℕ → List Place → Listing → RosterState
made root level spares known = record { tree = record { root = root; level = level; spares = spares }; known = known }

pub returns : goal.returns
returns c =
    let f = c.self.inside in let nodes = nodes_of (live_at c.args.region.now) in
    ap (λ (ps : List Place). made c.args.root c.args.level ps c.holding-self-inside.result.known) c.truncate.ensures
    ∙ (ap (λ (k : Listing). made c.args.root c.args.level (take c.args.spares f.spares) k) c.holding-self-inside.ensures
    ∙ ap (λ (r : RosterState). settled nodes c.args.root c.args.level c.args.spares r) c.self.view_is)
