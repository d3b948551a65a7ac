use Rattle.std.proofs.Common.{◌<◌, length}
use Rattle.regions.specs.Lends.{with_content}
use Rattle.tree_nodes.specs.Nodes.{TreeNode}
use Rattle.index_tree.specs.Pairs.{gives}
use Rattle.index_tree.proofs.Writes.{read_there, written_by}
use Rattle.index_tree.proofs.writing.cut_at.Goals as goal

pub returns : goal.returns
returns c =
    let r = c.args.region.now in let p = c.args.at in let ws = c.cut.new.node in let b = c.bytes_mut.ensures in let e = c.cut.ensures in
    written_by r (with_content r p ws) p c.bytes_mut.result.now ws (gives c.args.i) c.a_node_is_read_as_it_is_written.ensures.size c.requires.node b.value e.node e.holds (b.left ws) (b.used ws) (b.live ws) (b.shape ws)

pub cut-requires-clause-i : goal.cut-requires-clause-i
cut-requires-clause-i c = read_there c.args.region.now c.args.at c.bytes_mut.result.now (λ (node : TreeNode). c.args.i < length node.entries) c.requires.node c.bytes_mut.ensures.value c.requires.i
