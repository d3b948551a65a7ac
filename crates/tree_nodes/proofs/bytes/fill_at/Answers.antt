use Rattle.std.proofs.Common.{◌+◌, ◌-◌, arith}
use Rattle.tree_nodes.proofs.Splices.{filled}
use Rattle.tree_nodes.proofs.bytes.fill_at.Goals as goal

pub returns : goal.returns
returns c = filled c.args.at (c.args.at + c.args.len - c.args.at) c.args.len c.args.byte c.args.content.now c.fill_with.new.part (omega arith) c.requires c.fill_with.ensures
