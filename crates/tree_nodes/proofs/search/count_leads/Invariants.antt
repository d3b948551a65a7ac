use Rattle.std.proofs.Common.{◌≡◌, ◌≤◌, take}
use Rattle.tree_nodes.specs.Nodes.{node_in}
use Rattle.tree_nodes.specs.inside.Leads.{leads_below, leads_upto}
use Rattle.tree_nodes.proofs.search.count_leads.Given as goal

abbrev pub invariant-loop-i : goal.invariant-loop-i
invariant-loop-i l = record {
  below : l.low ≡ leads_below (take l.i (node_in l.node).entries) l.sought;
  upto : l.high ≡ leads_upto (take l.i (node_in l.node).entries) l.sought;
  few : l.low ≤ l.i;
  many : l.high ≤ l.i;
}
