use Rattle.regions.specs.Lends.{with_content}
use Rattle.tree_nodes.specs.Nodes.{started}
use Rattle.index_tree.proofs.Writes.{written_by}
use Rattle.index_tree.proofs.writing.start_at.Goals as goal

pub returns : goal.returns
returns c =
    let r = c.args.region.now in let p = c.args.at in let ws = c.start.new.node in let b = c.bytes_mut.ensures in let e = c.start.ensures in
    written_by r (with_content r p ws) p c.bytes_mut.result.now ws (λ _. started c.args.level) c.a_node_is_read_as_it_is_written.ensures.size c.requires b.value e.node e.holds (b.left ws) (b.used ws) (b.live ws) (b.shape ws)
