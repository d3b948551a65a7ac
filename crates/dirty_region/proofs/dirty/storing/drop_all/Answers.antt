use Rattle.std.proofs.Common.{◌∙◌, arith}
use Rattle.dirty_region.proofs.dirty.storing.drop_all.Goals as goal

pub loop-region-preserved : goal.loop-region-preserved
loop-region-preserved c =
    let i = c.loop-region.invariant in let d = c.drop_oldest.ensures in record {
      stored = d.stored;
      next = (let next = i.next in let first = d.first in let count = d.count in omega (arith, next, first, count));
      room = d.room ∙ i.room;
      shape = d.shape ∙ i.shape;
    }

pub returns-clause-first : goal.returns-clause-first
returns-clause-first c =
    let next = c.loop-region.invariant.next in let small = c.loop-region.invariant.stored.ring_of.numbers.first in
    let len = c.len.ensures.count in let test = c.loop-region-test.false in omega (arith, next, small, len, test)
