use Rattle.regions.specs.Contents.{live_at}
use Rattle.index_tree.specs.Store.{nodes_of}
use Rattle.index_tree.proofs.SearchNode.{leads_past_if, leads_to_if}
use Rattle.index_tree.proofs.search.way_at.Goals as goal

pub returns-then-has_at : goal.returns-then-has_at
returns-then-has_at c =
    leads_past_if (nodes_of (live_at c.args.region.now) c.args.at) c.args.key.now c.below_at-below.result c.has_at.result c.requires.rising c.below_at-below.ensures c.has_at.ensures c.if-has_at.true

pub returns-else-has_at : goal.returns-else-has_at
returns-else-has_at c =
    leads_to_if (nodes_of (live_at c.args.region.now) c.args.at) c.args.key.now c.below_at-below.result c.has_at.result c.requires.rising c.below_at-below.ensures c.has_at.ensures c.if-has_at.false
