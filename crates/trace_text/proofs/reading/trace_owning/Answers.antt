-- The bytes that are shared are the same.
use Rattle.trace_text.proofs.reading.trace_owning.Goals as goal

pub trace_over-requires-clause-short : goal.trace_over-requires-clause-short
trace_over-requires-clause-short c = rw c.in_ok-shared.ensures c.requires.short

pub trace_over-requires-clause-spelled : goal.trace_over-requires-clause-spelled
trace_over-requires-clause-spelled c = rw c.in_ok-shared.ensures c.requires.spelled

pub trace_over-requires-clause-routed : goal.trace_over-requires-clause-routed
trace_over-requires-clause-routed c = rw c.in_ok-shared.ensures c.requires.routed

pub returns-clause-bytes : goal.returns-clause-bytes
returns-clause-bytes c = rw c.in_ok-shared.ensures at c.trace_over.ensures.bytes

pub returns-clause-read : goal.returns-clause-read
returns-clause-read c = rw c.in_ok-shared.ensures at c.trace_over.ensures.read

pub returns-clause-refused : goal.returns-clause-refused
returns-clause-refused c = rw c.in_ok-shared.ensures at c.trace_over.ensures.refused
