use Rattle.std.proofs.Common.{ap, ◌∙◌}
use Rattle.regions.specs.Segments.{RegionState}
use Rattle.regions.specs.Contents.{live_at}
use Rattle.index_tree.specs.Store.{IndexState, index_in, nodes_of}
use Rattle.index_tree.specs.Trees.{index_of}
use Rattle.index_tree.proofs.States.{consistent_guarded}
use Rattle.index_tree.proofs.tree.IndexTree.guard.Goals as goal

pub invariant_of-self : goal.invariant_of-self
invariant_of-self c = let f = c.self.inside in consistent_guarded f.roots f.region c.guard.new.self f.keys f.segments 0 _ c.self.invariant c.guard.ensures.guards

pub returns-clause-index : goal.returns-clause-index
returns-clause-index c =
    ap (λ (r : RegionState). index_of (nodes_of (live_at r)) c.self.inside.roots.tree) c.guard.ensures.guards ∙ ap (λ (s : IndexState). index_in s) c.self.view_is
