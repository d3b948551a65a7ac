use Rattle.std.proofs.Common.{ap, ◌∙◌, Option}
use Rattle.regions.specs.Contents.{live_at}
use Rattle.regions.specs.declared.place.Place.{Place}
use Rattle.index_tree.specs.Indexes.{number_of}
use Rattle.index_tree.specs.Store.{IndexState, index_in, nodes_of}
use Rattle.index_tree.specs.Trees.{held_below}
use Rattle.index_tree.proofs.tree.IndexTree.get.Goals as goal

pub returns : goal.returns
returns c =
    let nodes = nodes_of (live_at c.self.inside.region) in
    c.get.ensures
    ∙ (ap (λ l. number_of c.args.key.now (held_below nodes l c.root.result)) c.level.ensures
    ∙ (ap (λ (o : Option Place). number_of c.args.key.now (held_below nodes c.self.inside.roots.tree.level o)) c.root.ensures
    ∙ ap (λ (s : IndexState). number_of c.args.key.now (index_in s)) c.self.view_is))
