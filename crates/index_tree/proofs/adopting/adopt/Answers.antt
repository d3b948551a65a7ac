use Rattle.index_tree.proofs.Adoptions.{adopts_more, child_holds, child_is, holds_at}
use Rattle.index_tree.proofs.adopting.adopt.Goals as goal

pub child_of-requires-clause-node : goal.child_of-requires-clause-node
child_of-requires-clause-node c = holds_at c.args.region.now c.loop-j.region c.args.at c.args.n c.loop-j.j c.link_to-link.result c.requires.node c.requires.n c.loop-j-test.true c.requires.apart c.loop-j.invariant

pub set_parent_at-requires : goal.set_parent_at-requires
set_parent_at-requires c = child_holds c.args.region.now c.loop-j.region c.args.at c.args.n c.loop-j.j c.link_to-link.result c.requires.node c.requires.n c.loop-j-test.true c.requires.apart c.loop-j.invariant c.place_of-child.result
    (child_is c.args.region.now c.loop-j.region c.args.at c.args.n c.loop-j.j c.link_to-link.result c.requires.node c.requires.n c.loop-j-test.true c.requires.apart c.loop-j.invariant c.child_of.result c.child_of.ensures c.place_of-child.result c.place_of-child.ensures)

pub loop-j-preserved : goal.loop-j-preserved
loop-j-preserved c = adopts_more c.args.region.now c.loop-j.region c.args.at c.args.n c.loop-j.j c.link_to-link.result c.requires.node c.requires.n c.loop-j-test.true c.requires.apart c.loop-j.invariant c.set_parent_at.new.region c.place_of-child.result
    (child_is c.args.region.now c.loop-j.region c.args.at c.args.n c.loop-j.j c.link_to-link.result c.requires.node c.requires.n c.loop-j-test.true c.requires.apart c.loop-j.invariant c.child_of.result c.child_of.ensures c.place_of-child.result c.place_of-child.ensures) c.set_parent_at.ensures
