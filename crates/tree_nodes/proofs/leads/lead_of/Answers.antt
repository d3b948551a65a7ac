use Rattle.std.proofs.Common.{◌∙◌}
use Rattle.tree_nodes.proofs.FirstBytes.{long_read}
use Rattle.tree_nodes.proofs.leads.lead_of.Goals as goal

pub returns-then-key-ge-LEAD : goal.returns-then-key-ge-LEAD
returns-then-key-ge-LEAD c = c.read_u64.ensures ∙ long_read c.args.key.now c.if-key-ge-LEAD.true
