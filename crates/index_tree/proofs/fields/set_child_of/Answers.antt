use Rattle.std.proofs.Common.{refl}
use Rattle.regions.specs.Lends.{with_content}
use Rattle.index_tree.specs.Links.{with_child}
use Rattle.index_tree.proofs.Lives.{changed_by}
use Rattle.index_tree.proofs.fields.set_child_of.Goals as goal

pub returns : goal.returns
returns c =
    let r = c.args.region.now in let p = c.args.at in let ws = c.set_child.new.node in let b = c.bytes_mut.ensures in let e = c.set_child.ensures in
    changed_by r (with_content r p ws) p c.bytes_mut.result.now ws (with_child c.args.i c.args.link) c.a_node_is_read_as_it_is_written.ensures.size c.requires.node b.value e.node e.holds refl (b.left ws) (b.used ws) (b.live ws) (b.shape ws)
