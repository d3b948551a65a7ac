use Rattle.std.proofs.Common.{List, ℕ, sym, ap, ◌∙◌}
use Rattle.trace_text.specs.Parsed.{trace_in}
use Rattle.trace_text.specs.Reading.{trace_of}
use Rattle.text_tests.proofs.TwoShards.{trace_is}
use Rattle.text_tests.proofs.report_text_tests.two_shards.two_shards.Goals as goal

pub returns-clause-trace : goal.returns-clause-trace
returns-clause-trace c = trace_is (trace_in c.in_ok-parse.field-0) (ap (λ (bytes : List ℕ). trace_of bytes 2) (sym c.in_ok-from_slice.ensures.items) ∙ c.in_ok-parse.ensures.read)
