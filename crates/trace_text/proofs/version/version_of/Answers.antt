-- A version is what the first line says.
use Rattle.std.proofs.Common.{true, false, sym, ◌∙◌}
use Rattle.trace_text.proofs.Versions.{version_said}
use Rattle.trace_text.proofs.version.version_of.Goals as goal

pub returns-then-says_two-clause-value : goal.returns-then-says_two-clause-value
returns-then-says_two-clause-value c =
    sym (version_said c.args.bytes.now _ _ true c.cut_at_lf.ensures.parts (sym c.says_two.ensures ∙ c.if-says_two.true))

pub returns-else-says_two-clause-value : goal.returns-else-says_two-clause-value
returns-else-says_two-clause-value c =
    sym (version_said c.args.bytes.now _ _ false c.cut_at_lf.ensures.parts (sym c.says_two.ensures ∙ c.if-says_two.false))
