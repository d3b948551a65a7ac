use Rattle.std.proofs.Common.{◌-◌, ◌≤◌, length}
use Rattle.tree_nodes.specs.Nodes.{node_in}
use Rattle.tree_nodes.specs.Order.{count_below}
use Rattle.tree_nodes.proofs.search.find_among.Given as goal

abbrev pub invariant-loop-low : goal.invariant-loop-low
invariant-loop-low l = record {
  least : l.low ≤ count_below (node_in l.node).entries l.key;
  most : count_below (node_in l.node).entries l.key ≤ l.high;
  within : l.high ≤ length (node_in l.node).entries;
}

abbrev pub decreases-loop-low : goal.decreases-loop-low
decreases-loop-low l = l.high - l.low
