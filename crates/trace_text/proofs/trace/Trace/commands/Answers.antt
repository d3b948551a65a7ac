-- What the commands ask is what the bytes mean, and is well formed.
use Rattle.trace_text.proofs.Offsets.{well_formed}
use Rattle.trace_text.proofs.TraceRead.{parsed_read}
use Rattle.trace_text.proofs.trace.Trace.commands.Goals as goal

pub returns-clause-read : goal.returns-clause-read
returns-clause-read c = rw (← c.self.view_is) (parsed_read _ c.self.invariant.consistent)

pub returns-clause-consistent : goal.returns-clause-consistent
returns-clause-consistent c = rw (← c.self.view_is) c.self.invariant.consistent

pub returns-clause-well_formed : goal.returns-clause-well_formed
returns-clause-well_formed c = rw (← c.self.view_is) (well_formed _ _ c.self.invariant.consistent.spelled.within)
