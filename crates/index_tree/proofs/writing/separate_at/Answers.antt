use Rattle.std.proofs.Common.{◌<◌, length}
use Rattle.regions.specs.Lends.{with_content}
use Rattle.tree_nodes.specs.Nodes.{TreeNode}
use Rattle.index_tree.specs.Pairs.{separated}
use Rattle.index_tree.proofs.Writes.{read_there, written_by}
use Rattle.index_tree.proofs.writing.separate_at.Goals as goal

pub returns : goal.returns
returns c =
    let r = c.args.region.now in let p = c.args.at in let ws = c.separate.new.node in let b = c.bytes_mut.ensures in let e = c.separate.ensures in
    written_by r (with_content r p ws) p c.bytes_mut.result.now ws (separated c.args.j c.args.key.now) c.a_node_is_read_as_it_is_written.ensures.size c.requires.node b.value e.node e.holds (b.left ws) (b.used ws) (b.live ws) (b.shape ws)

pub separate-requires-clause-j : goal.separate-requires-clause-j
separate-requires-clause-j c = read_there c.args.region.now c.args.at c.bytes_mut.result.now (λ (node : TreeNode). c.args.j < length node.entries) c.requires.node c.bytes_mut.ensures.value c.requires.j
