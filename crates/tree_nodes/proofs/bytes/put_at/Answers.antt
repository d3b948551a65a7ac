use Rattle.std.proofs.Common.{◌∙◌}
use Rattle.tree_nodes.proofs.Splices.{put_in_moved}
use Rattle.tree_nodes.proofs.bytes.put_at.Goals as goal

pub returns : goal.returns
returns c = c.write_over.ensures ∙ put_in_moved c.args.at c.args.moved c.args.bytes.now c.args.content.now c.move_bytes.new.content c.requires c.move_bytes.ensures.bytes
