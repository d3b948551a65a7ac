use Rattle.std.proofs.Common.{All, ap, subst, ◌∙◌, Option, length, take}
use Rattle.regions.specs.Contents.{live_at}
use Rattle.regions.specs.declared.place.Place.{Place}
use Rattle.tree_nodes.specs.Nodes.{IsEntry}
use Rattle.index_tree.specs.Indexes.{from}
use Rattle.index_tree.specs.Scans.{scanned}
use Rattle.index_tree.specs.Store.{IndexState, index_in, nodes_of}
use Rattle.index_tree.specs.Trees.{held_below}
use Rattle.index_tree.proofs.Entries.{entries_stand}
use Rattle.index_tree.proofs.tree.IndexTree.range.Goals as goal

pub returns-clause-keys : goal.returns-clause-keys
returns-clause-keys c =
    let nodes = nodes_of (live_at c.self.inside.region) in
    c.range.ensures.keys
    ∙ (ap (λ l. length (take c.args.count (from c.args.lo.now (held_below nodes l c.root.result)))) c.level.ensures
    ∙ (ap (λ (o : Option Place). length (take c.args.count (from c.args.lo.now (held_below nodes c.self.inside.roots.tree.level o)))) c.root.ensures
    ∙ ap (λ (s : IndexState). length (take c.args.count (from c.args.lo.now (index_in s)))) c.self.view_is))

pub returns-clause-bytes : goal.returns-clause-bytes
returns-clause-bytes c =
    let nodes = nodes_of (live_at c.self.inside.region) in
    c.range.ensures.bytes
    ∙ (ap (λ l. scanned c.args.lo.now c.args.count (held_below nodes l c.root.result)) c.level.ensures
    ∙ (ap (λ (o : Option Place). scanned c.args.lo.now c.args.count (held_below nodes c.self.inside.roots.tree.level o)) c.root.ensures
    ∙ ap (λ (s : IndexState). scanned c.args.lo.now c.args.count (index_in s)) c.self.view_is))

pub returns-clause-entries : goal.returns-clause-entries
returns-clause-entries c =
    let f = c.self.inside in
    subst (λ (s : IndexState). All IsEntry (index_in s)) c.self.view_is (entries_stand (nodes_of (live_at f.region)) f.roots.tree c.self.invariant.roster.tree)
