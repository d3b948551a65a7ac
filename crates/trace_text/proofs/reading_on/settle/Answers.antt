-- The stretch is what stands in the vector.
use Rattle.trace_text.proofs.reading_on.settle.Goals as goal

pub returns-clause-commands : goal.returns-clause-commands
returns-clause-commands g c = rw c.as_mut_slice.ensures.value at c.in_ok-read_all.ensures
