use Rattle.std.proofs.Common.{drop, arith, sym, ◌∙◌}
use Rattle.byteorder.specs.Endian.{little_number}
use Rattle.tree_nodes.specs.Nodes.{node_in, header}
use Rattle.tree_nodes.proofs.Nodes.{length-content}
use Rattle.tree_nodes.proofs.Calls.{length-entries_in}
use Rattle.tree_nodes.proofs.reading.count.Goals as goal

pub count_at-requires : goal.count_at-requires
count_at-requires c = let size = length-content c.args.node.now c.requires in omega arith

pub returns : goal.returns
unfolding node_in
returns c = c.count_at.ensures ∙ sym (length-entries_in (little_number 2 (drop 10 c.args.node.now)) (drop header c.args.node.now))
