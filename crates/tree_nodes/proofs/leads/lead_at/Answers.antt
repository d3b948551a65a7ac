use Rattle.std.proofs.Common.{◌∙◌, arith}
use Rattle.tree_nodes.proofs.Nodes.{length-content}
use Rattle.tree_nodes.proofs.FirstBytes.{entry_lead_read}
use Rattle.tree_nodes.proofs.leads.lead_at.Goals as goal

pub big_number_at-requires : goal.big_number_at-requires
big_number_at-requires c = let size = length-content c.args.node.now c.requires.node in let few = c.requires.node.node.few in omega arith

pub returns : goal.returns
returns c = c.big_number_at.ensures ∙ entry_lead_read c.args.node.now c.args.i c.entry_start.result c.requires.node c.requires.i c.entry_start.ensures
