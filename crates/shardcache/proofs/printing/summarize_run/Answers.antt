-- The summary of a run.
use Rattle.std.proofs.Common.{subst, sym}
use Rattle.trace_text.specs.Parsed.{trace_in}
use Rattle.cache_model.specs.Summary.{summary}
use Rattle.run_log.specs.Runs.{IsFinished, journals_in}
use Rattle.shardcache.proofs.Reported.{shows_summary}
use Rattle.shardcache.proofs.printing.summarize_run.Goals as goal

pub print_summary-requires : goal.print_summary-requires
print_summary-requires g c =
    let asked = c.args.asked.now in
    record { run = subst (λ n. IsFinished (trace_in asked.trace.now) n asked.settings.pages c.args.ran.now) (sym asked.parsed_for) c.requires.run }

pub returns-clause-written : goal.returns-clause-written
returns-clause-written g c =
    let asked = c.args.asked.now in
    let trace = trace_in asked.trace.now in
    let run = subst (λ n. IsFinished trace n asked.settings.pages c.args.ran.now) (sym asked.parsed_for) c.requires.run in (
      summary trace asked.settings.shards asked.settings.pages (journals_in c.args.ran.now.journals),
      shows_summary asked.settings trace c.args.ran.now run,
      c.print_summary.ensures.written,
    )
