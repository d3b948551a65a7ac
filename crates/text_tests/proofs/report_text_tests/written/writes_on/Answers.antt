-- The logs are those of as many shards as the trace says.
use Rattle.std.proofs.Common.{subst}
use Rattle.trace_text.specs.Parsed.{trace_in}
use Rattle.cache_model.specs.Logged.{AreLogged}
use Rattle.report_text.specs.Views.{replies_in}
use Rattle.text_tests.proofs.report_text_tests.written.writes_on.Goals as goal

pub write_report_on-met-requires-clause-answered : goal.write_report_on-met-requires-clause-answered
write_report_on-met-requires-clause-answered g c = λ _ _.
    let run = c.args.run.now in
    let all = c.requires.answered in
    (all.0, subst (λ n. AreLogged (trace_in run.trace.now) n (replies_in run.logs.now) all.0) c.requires.parsed_for all.1)
