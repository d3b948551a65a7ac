use Rattle.std.proofs.Common.{◌≡◌}
use Rattle.tree_nodes.specs.Nodes.{IsNode, node_in}
use Rattle.index_tree.specs.Pairs.{with_children}
use Rattle.index_tree.proofs.copying.copy_children.Given as goal

abbrev pub invariant-loop-k : goal.invariant-loop-k
invariant-loop-k l = record {
  node : node_in l.to ≡ with_children l.at (node_in l.from).children l.k (node_in l.fn.to);
  holds : IsNode l.to;
}
