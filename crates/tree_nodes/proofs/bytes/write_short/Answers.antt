use Rattle.std.proofs.Common.{arith}
use Rattle.std.proofs.lemmas.Grind.{common_steps}
use Rattle.std.proofs.lemmas.List.{drop-drop}
use Rattle.tree_nodes.proofs.bytes.write_short.Goals as goal

pub returns : goal.returns
returns c = rw (← drop-drop 2 c.args.at c.args.content.now) (grind (arith, common_steps))
