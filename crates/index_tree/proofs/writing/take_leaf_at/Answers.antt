use Rattle.std.proofs.Common.{◌+◌, ◌≤◌, length}
use Rattle.regions.specs.Lends.{with_content}
use Rattle.tree_nodes.specs.Nodes.{TreeNode, most_entries, node_in}
use Rattle.index_tree.specs.Pairs.{takes}
use Rattle.index_tree.specs.Links.{with_next}
use Rattle.index_tree.proofs.Writes.{read_there, written_by}
use Rattle.index_tree.proofs.writing.take_leaf_at.Goals as goal

pub returns : goal.returns
returns c =
    let r = c.args.region.now in let p = c.args.at in let ws = c.take_leaf.new.to in let b = c.bytes_mut.ensures in let e = c.take_leaf.ensures in
    written_by r (with_content r p ws) p c.bytes_mut.result.now ws (λ n. with_next (node_in c.args.content.now).next_leaf (takes (node_in c.args.content.now).entries n))
    c.a_node_is_read_as_it_is_written.ensures.size c.requires.node b.value e.node e.holds (b.left ws) (b.used ws) (b.live ws) (b.shape ws)

pub take_leaf-requires-clause-room : goal.take_leaf-requires-clause-room
take_leaf-requires-clause-room c = read_there c.args.region.now c.args.at c.bytes_mut.result.now (λ (node : TreeNode). length node.entries + length (node_in c.args.content.now).entries ≤ most_entries) c.requires.node c.bytes_mut.ensures.value c.requires.room
