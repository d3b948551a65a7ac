use Rattle.std.proofs.Common.{arith, sym, ap, ◌∙◌}
use Rattle.byteorder.specs.Endian.{little_number}
use Rattle.std.proofs.lemmas.List.{drop-drop}
use Rattle.tree_nodes.specs.Nodes.{Entry}
use Rattle.tree_nodes.proofs.Nodes.{length-content}
use Rattle.tree_nodes.proofs.Calls.{entry_stands}
use Rattle.tree_nodes.proofs.reading.number.Goals as goal

pub number_at-requires : goal.number_at-requires
number_at-requires c = let size = length-content c.args.node.now c.requires.node in let few = c.requires.node.node.few in omega arith

pub returns : goal.returns
returns c = c.number_at.ensures ∙ (sym (ap (λ m. little_number 4 m) (drop-drop 4 c.entry_start.result c.args.node.now)) ∙ sym (ap (λ (e : Entry). e.number) (entry_stands c.args.node.now c.args.i c.entry_start.result c.requires.node c.requires.i c.entry_start.ensures)))
