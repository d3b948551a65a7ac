use Rattle.std.proofs.Common.{arith}
use Rattle.outside.proofs.Moved.{Consumes-grown}
use Rattle.outside.proofs.reading.read_all.Goals as goal

pub loop-filled-preserved : goal.loop-filled-preserved
loop-filled-preserved g c = record {
  within = c.in_ok-count.ensures.fits;
  bound = c.read_more.ensures.bound;
  taken = Consumes-grown _ _ _ _ _ _ _ c.read_more.ensures.front c.loop-filled.invariant.taken c.in_ok-count.ensures.next;
  later = omega (arith, c.loop-filled.invariant.later, c.read_more.ensures.never_falls);
}
