use Rattle.index_tree.proofs.Writes.{as_long, copied_by}
use Rattle.index_tree.proofs.writing.copy_node.Goals as goal

pub copy-requires-clause-size : goal.copy-requires-clause-size
copy-requires-clause-size c = as_long c.args.region.now c.args.from c.args.to c.a_node_is_read_as_it_is_written.ensures.size c.requires.from c.requires.to

pub returns : goal.returns
returns c =
    let e = c.copy.ensures in
    copied_by c.args.region.now c.copy.new.self c.args.from c.args.to c.a_node_is_read_as_it_is_written.ensures.size c.requires.from c.requires.to e.copied e.used e.live e.shape
