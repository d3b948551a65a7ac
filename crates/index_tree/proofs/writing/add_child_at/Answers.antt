use Rattle.regions.specs.Lends.{with_content}
use Rattle.index_tree.specs.Writes.{with_new_child}
use Rattle.index_tree.proofs.Writes.{written_by}
use Rattle.index_tree.proofs.writing.add_child_at.Goals as goal

pub returns : goal.returns
returns c =
    let r = c.args.region.now in let p = c.args.at in let ws = c.add_child.new.node in let b = c.bytes_mut.ensures in let e = c.add_child.ensures in
    written_by r (with_content r p ws) p c.bytes_mut.result.now ws (with_new_child c.args.i c.args.link) c.a_node_is_read_as_it_is_written.ensures.size c.requires.node b.value e.node e.holds (b.left ws) (b.used ws) (b.live ws) (b.shape ws)
