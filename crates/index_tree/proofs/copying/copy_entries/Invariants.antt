use Rattle.std.proofs.Common.{◌≡◌, take}
use Rattle.tree_nodes.specs.Nodes.{IsNode, node_in}
use Rattle.index_tree.specs.Pairs.{takes}
use Rattle.index_tree.proofs.copying.copy_entries.Given as goal

abbrev pub invariant-loop-k : goal.invariant-loop-k
invariant-loop-k l = record {
  node : node_in l.to ≡ takes (take l.k (node_in l.from).entries) (node_in l.fn.to);
  holds : IsNode l.to;
}
