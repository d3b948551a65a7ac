use Rattle.std.proofs.Common.{ℕ, replicate, ◌∙◌}
use Rattle.std.proofs.lemmas.List.{length-replicate}
use Rattle.tree_nodes.proofs.Splices.{taken_out_moved}
use Rattle.tree_nodes.proofs.bytes.close_up.Goals as goal

pub returns : goal.returns
returns c =
    c.fill_at.ensures
    ∙ taken_out_moved c.args.at c.args.moved c.args.len (replicate c.args.len c.args.byte) c.args.content.now c.move_bytes.new.content
    (length-replicate {A = ℕ} c.args.len c.args.byte) c.requires c.move_bytes.ensures.bytes
