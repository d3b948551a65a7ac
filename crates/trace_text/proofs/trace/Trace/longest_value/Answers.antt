-- The longest value of the commands is that of what they ask.
use Rattle.std.proofs.Common.{◌∙◌}
use Rattle.trace_text.specs.Reading.{version_in}
use Rattle.trace_text.proofs.Tallies.{longest_in}
use Rattle.trace_text.proofs.trace.Trace.longest_value.Goals as goal

pub returns : goal.returns
returns c = rw (← c.self.view_is) (c.longest_value.ensures ∙ longest_in (version_in c.self.inside.bytes) _ _ c.self.invariant.consistent.spelled.within)
