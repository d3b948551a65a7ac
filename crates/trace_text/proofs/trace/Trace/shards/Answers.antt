-- What holds of each trace.
use Rattle.trace_text.proofs.Offsets.{well_formed}
use Rattle.trace_text.proofs.trace.Trace.shards.Goals as goal

pub returns-clause-consistent : goal.returns-clause-consistent
returns-clause-consistent c = rw (← c.self.view_is) c.self.invariant.consistent

pub returns-clause-well_formed : goal.returns-clause-well_formed
returns-clause-well_formed c = rw (← c.self.view_is) (well_formed _ _ c.self.invariant.consistent.spelled.within)
