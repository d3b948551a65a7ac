-- The regions are those of the version.
use Rattle.std.proofs.Common.{ap, ◌∙◌}
use Rattle.trace_text.specs.Trace.{regions_in}
use Rattle.trace_text.proofs.trace.Trace.regions.Goals as goal

pub returns-clause-value : goal.returns-clause-value
returns-clause-value c = c.regions_in.ensures.value ∙ ap regions_in c.version.ensures.value
