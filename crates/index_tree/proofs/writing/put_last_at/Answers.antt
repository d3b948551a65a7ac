use Rattle.std.proofs.Common.{◌+◌, ◌<◌, length}
use Rattle.regions.specs.Lends.{with_content}
use Rattle.tree_nodes.specs.Nodes.{TreeNode, most_entries}
use Rattle.index_tree.specs.Pairs.{gains, separator, with_child_at}
use Rattle.index_tree.proofs.Writes.{read_there, written_by}
use Rattle.index_tree.proofs.writing.put_last_at.Goals as goal

pub returns : goal.returns
returns c =
    let r = c.args.region.now in let p = c.args.at in let ws = c.put_last.new.node in let b = c.bytes_mut.ensures in let e = c.put_last.ensures in
    written_by r (with_content r p ws) p c.bytes_mut.result.now ws (λ n. with_child_at (length n.entries + 1) c.args.link (gains (length n.entries) (separator c.args.key.now) n))
    c.a_node_is_read_as_it_is_written.ensures.size c.requires.node b.value e.node e.holds (b.left ws) (b.used ws) (b.live ws) (b.shape ws)

pub put_last-requires-clause-room : goal.put_last-requires-clause-room
put_last-requires-clause-room c = read_there c.args.region.now c.args.at c.bytes_mut.result.now (λ (node : TreeNode). length node.entries < most_entries) c.requires.node c.bytes_mut.ensures.value c.requires.room
