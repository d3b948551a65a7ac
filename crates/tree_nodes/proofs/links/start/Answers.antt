use Rattle.std.proofs.Common.{refl, arith}
use Rattle.tree_nodes.proofs.Started.{all_written, header_written}
use Rattle.tree_nodes.proofs.links.start.Goals as goal

pub returns-clause-node : goal.returns-clause-node
returns-clause-node c = (all_written c.args.level _ _ _ c.write_place-2.new.content c.fill_with-2.new.part c.fill_with-3.new.part c.ranges.level.fits (omega arith) (omega arith) refl
    (header_written c.args.level _ c.fill_with.new.part c.write_place.new.content c.write_short.new.content c.write_place-2.new.content (omega arith) c.fill_with.ensures c.write_place.ensures
    c.write_short.ensures c.write_place-2.ensures)
    c.fill_with-2.ensures c.fill_with-3.ensures).0

pub returns-clause-holds : goal.returns-clause-holds
returns-clause-holds c = (all_written c.args.level _ _ _ c.write_place-2.new.content c.fill_with-2.new.part c.fill_with-3.new.part c.ranges.level.fits (omega arith) (omega arith) refl
    (header_written c.args.level _ c.fill_with.new.part c.write_place.new.content c.write_short.new.content c.write_place-2.new.content (omega arith) c.fill_with.ensures c.write_place.ensures
    c.write_short.ensures c.write_place-2.ensures)
    c.fill_with-2.ensures c.fill_with-3.ensures).1
