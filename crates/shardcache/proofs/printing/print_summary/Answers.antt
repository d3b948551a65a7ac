-- The text of a summary.
use Rattle.trace_text.specs.Parsed.{trace_in}
use Rattle.cache_model.specs.Summary.{summary_of}
use Rattle.shardcache.proofs.Printed.{ends_output, fails_with_sink, sent_run}
use Rattle.shardcache.proofs.printing.print_summary.Goals as goal

pub returns : goal.returns
returns g c =
    let asked = c.args.asked.now in let told = c.written_or_fault.ensures in
    let sent = sent_run g.K.Sink.written g.K.Sink.faults c.args.sink.now c.write_summary-written.new.sink c.write_summary-written.result summary_of (trace_in asked.trace.now) asked.settings.shards asked.settings.pages c.args.ran.now
    c.logs.result.now c.journals.result.now c.lines.result.now c.requires.run c.logs.ensures.value c.journals.ensures.value c.lines.ensures.value c.write_summary-written.ensures in
    record {
      written = ends_output g.K.Sink.written g.K.Sink.faults _ _ _ c.write_summary-written.result c.written_or_fault.result told.done told.fault sent;
      fault = λ is. fails_with_sink g.K.Sink.written g.K.Sink.faults _ _ _ c.write_summary-written.result c.written_or_fault.result told.done sent is;
    }
