use Rattle.std.proofs.Common.{◌<◌, length}
use Rattle.regions.specs.Lends.{with_content}
use Rattle.tree_nodes.specs.Nodes.{TreeNode, most_entries}
use Rattle.index_tree.specs.Pairs.{gains, gains_child, separator}
use Rattle.index_tree.proofs.Writes.{read_there, written_by}
use Rattle.index_tree.proofs.writing.put_first_at.Goals as goal

pub returns : goal.returns
returns c =
    let r = c.args.region.now in let p = c.args.at in let ws = c.put_first.new.node in let b = c.bytes_mut.ensures in let e = c.put_first.ensures in
    written_by r (with_content r p ws) p c.bytes_mut.result.now ws (λ n. gains_child 0 c.args.link (gains 0 (separator c.args.key.now) n)) c.a_node_is_read_as_it_is_written.ensures.size c.requires.node b.value e.node e.holds (b.left ws) (b.used ws) (b.live ws) (b.shape ws)

pub put_first-requires-clause-room : goal.put_first-requires-clause-room
put_first-requires-clause-room c = read_there c.args.region.now c.args.at c.bytes_mut.result.now (λ (node : TreeNode). length node.entries < most_entries) c.requires.node c.bytes_mut.ensures.value c.requires.room
