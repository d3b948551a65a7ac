use Rattle.std.proofs.Common.{◌∙◌, ap}
use Rattle.byteorder.specs.Endian.{big_number}
use Rattle.tree_nodes.proofs.FirstBytes.{short_read}
use Rattle.tree_nodes.proofs.leads.short_lead.Goals as goal

pub returns : goal.returns
returns c =
    c.read_u64.ensures ∙ (ap (λ t. big_number 8 t) c.as_slice.ensures ∙ short_read c.args.key.now c.write_over.new.content c.requires c.write_over.ensures)
