-- The report of a run.
use Rattle.std.proofs.Common.{subst, sym}
use Rattle.trace_text.specs.Parsed.{trace_in}
use Rattle.cache_model.specs.Report.{report}
use Rattle.run_log.specs.Runs.{IsFinished, journals_in}
use Rattle.shardcache.specs.inside.Ending.{EndsOutput}
use Rattle.shardcache.proofs.Reported.{ReportLaws, shows_report}
use Rattle.cache_lemmas.proofs.Laws.{a_report_has_its_lines-journals, answers_are_read_by_command-count}
use Rattle.shardcache.proofs.printing.report_run.Goals as goal

pub returns-clause-written : goal.returns-clause-written
returns-clause-written g c =
    let laws : ReportLaws = record { lines = a_report_has_its_lines-journals; count = answers_are_read_by_command-count } in
    let asked = c.args.asked.now in
    let trace = trace_in asked.trace.now in
    let journals = journals_in c.args.ran.now.journals in
    let run = subst (λ n. IsFinished trace n asked.settings.pages c.args.ran.now) (sym asked.parsed_for) c.requires.run in (
      report trace asked.settings.shards asked.settings.pages journals,
      shows_report laws asked.settings trace c.args.ran.now c.requires.well_formed run,
      subst (λ n. EndsOutput c.print_report.result (g.K.Sink.written c.args.sink.now) (g.K.Sink.written c.print_report.new.sink) (report trace n asked.settings.pages journals)) (sym asked.parsed_for)
          c.print_report.ensures.written,
    )
