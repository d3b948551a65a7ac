use Rattle.std.proofs.Common.{◌≡◌, ◌≢◌, ℕ, ◌<◌, Some}
use Rattle.regions.specs.Contents.{live_at}
use Rattle.tree_nodes.specs.Nodes.{TreeNode, child_at}
use Rattle.index_tree.specs.Store.{nodes_of}
use Rattle.index_tree.proofs.climbing.child_index.Given as goal

abbrev pub invariant-loop-i : goal.invariant-loop-i
invariant-loop-i l = (k : ℕ) → k < l.i → (node : TreeNode) → nodes_of (live_at l.region) l.at ≡ Some node → child_at node k ≢ l.link
