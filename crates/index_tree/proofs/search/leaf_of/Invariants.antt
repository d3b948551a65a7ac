use Rattle.std.proofs.Common.{Some}
use Rattle.regions.specs.Contents.{live_at}
use Rattle.index_tree.specs.Store.{nodes_of}
use Rattle.index_tree.specs.Trees.{leaves_below}
use Rattle.index_tree.proofs.SearchWay.{IsTreeOnWay}
use Rattle.index_tree.proofs.search.leaf_of.Given as goal

abbrev pub invariant-loop-left : goal.invariant-loop-left
invariant-loop-left l = IsTreeOnWay (nodes_of (live_at l.region)) (leaves_below (nodes_of (live_at l.region)) l.level (Some l.fn.root)) l.key l.left l.at

abbrev pub decreases-loop-left : goal.decreases-loop-left
decreases-loop-left l = l.left
