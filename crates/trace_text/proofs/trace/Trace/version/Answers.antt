-- The version is what the bytes say.
use Rattle.std.proofs.Common.{ap, ◌∙◌}
use Rattle.trace_text.specs.Reading.{version_in}
use Rattle.trace_text.proofs.trace.Trace.version.Goals as goal

pub returns-clause-value : goal.returns-clause-value
returns-clause-value c = rw (← c.self.view_is) (c.version_of.ensures.value ∙ ap version_in c.as_slice.ensures)
