use Rattle.std.proofs.Common.{refl}
use Rattle.regions.specs.Lends.{with_content}
use Rattle.index_tree.specs.Links.{with_next}
use Rattle.index_tree.proofs.Lives.{changed_by}
use Rattle.index_tree.proofs.fields.set_next_at.Goals as goal

pub returns : goal.returns
returns c =
    let r = c.args.region.now in let p = c.args.at in let ws = c.set_next_leaf.new.node in let b = c.bytes_mut.ensures in let e = c.set_next_leaf.ensures in
    changed_by r (with_content r p ws) p c.bytes_mut.result.now ws (with_next c.args.link) c.a_node_is_read_as_it_is_written.ensures.size c.requires b.value e.node e.holds refl (b.left ws) (b.used ws) (b.live ws) (b.shape ws)
