-- The report was checked, and the verdict written.
use Rattle.trace_text.specs.Parsed.{trace_in}
use Rattle.settings.specs.Settings.{view}
use Rattle.shardcache.proofs.Audited.{ends_verdict}
use Rattle.shardcache.proofs.Fitting.{covers}
use Rattle.shardcache.proofs.auditing.check_report.Goals as goal

pub check-requires-clause-pages : goal.check-requires-clause-pages
check-requires-clause-pages g c = covers (trace_in c.args.framed.now.trace) c.args.settings.pages c.requires.pages c.requires.tables

pub returns-in-Ok-clause-ending : goal.returns-in-Ok-clause-ending
returns-in-Ok-clause-ending g c =
    let told = c.written_or_fault.ensures in
    ends_verdict g.K.Sink.written g.K.Sink.faults _ _ c.write_verdict.result c.written_or_fault.result _ _ (view c.args.settings) c.args.framed.now c.in-Ok.verdict c.as_slice-report.result.now
    told.done told.fault c.write_verdict.ensures c.in-Ok.ensures c.as_slice-report.ensures.value c.without_run.ensures.status c.without_run.ensures.ran
