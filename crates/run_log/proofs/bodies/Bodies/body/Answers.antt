-- Each holder has its bytes.
use Rattle.run_log.proofs.bodies.Bodies.body.Goals as goal

pub part_of-requires : goal.part_of-requires
part_of-requires c = rw c.as_slice.ensures.value (rw (c.in-Log.is, ← c.self.view_is) at c.requires)

pub part-requires : goal.part-requires
part-requires c = rw (c.in-Trace.is, ← c.self.view_is) at c.requires

pub returns-in-Log : goal.returns-in-Log
returns-in-Log c = rw (c.in-Log.is, ← c.self.view_is) (rw c.as_slice.ensures.value at c.part_of.ensures)

pub returns-in-Trace : goal.returns-in-Trace
returns-in-Trace c = rw (c.in-Trace.is, ← c.self.view_is) c.part.ensures.value
