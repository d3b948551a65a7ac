use Rattle.std.proofs.Common.{length, refl, ◌∙◌}
use Rattle.tree_nodes.proofs.Splices.{taken_out_moved}
use Rattle.tree_nodes.proofs.bytes.take_at.Goals as goal

pub returns : goal.returns
returns c =
    c.write_over.ensures
    ∙ taken_out_moved c.args.at c.args.moved (length c.args.bytes.now) c.args.bytes.now c.args.content.now c.move_bytes.new.content refl c.requires c.move_bytes.ensures.bytes
