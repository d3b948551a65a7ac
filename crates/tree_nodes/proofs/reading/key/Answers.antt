use Rattle.std.proofs.Common.{◌+◌, ◌-◌, take, drop, arith, ap, ◌∙◌}
use Rattle.tree_nodes.proofs.Nodes.{length-content}
use Rattle.tree_nodes.proofs.Calls.{key_length, key_stands}
use Rattle.tree_nodes.proofs.reading.key.Goals as goal

pub count_at-len-requires : goal.count_at-len-requires
count_at-len-requires c = let size = length-content c.args.node.now c.requires.node in let few = c.requires.node.node.few in omega arith

pub slice_bounds-result-end : goal.slice_bounds-result-end
slice_bounds-result-end c = let short = key_length c.args.node.now c.args.i c.entry_start-at.result c.requires.node c.requires.i c.entry_start-at.ensures in let size = length-content c.args.node.now c.requires.node in let few = c.requires.node.node.few in omega arith

pub returns : goal.returns
returns c =
    let at = c.entry_start-at.result in
    let len = c.count_at-len.result in
    ap (λ k. take k (drop (at + 8) c.args.node.now)) {x = at + 8 + len - (at + 8)} {y = len} (omega arith)
    ∙ key_stands c.args.node.now c.args.i at len c.requires.node c.requires.i c.entry_start-at.ensures c.count_at-len.ensures
