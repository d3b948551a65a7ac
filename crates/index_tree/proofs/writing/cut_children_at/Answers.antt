use Rattle.regions.specs.Lends.{with_content}
use Rattle.index_tree.specs.Writes.{without_children}
use Rattle.index_tree.proofs.Writes.{written_by}
use Rattle.index_tree.proofs.writing.cut_children_at.Goals as goal

pub returns : goal.returns
returns c =
    let r = c.args.region.now in let p = c.args.at in let ws = c.cut_children.new.node in let b = c.bytes_mut.ensures in let e = c.cut_children.ensures in
    written_by r (with_content r p ws) p c.bytes_mut.result.now ws (without_children c.args.i c.args.n) c.a_node_is_read_as_it_is_written.ensures.size c.requires.node b.value e.node e.holds (b.left ws) (b.used ws) (b.live ws) (b.shape ws)
