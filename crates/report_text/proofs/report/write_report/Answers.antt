use Rattle.std.proofs.Common.{rules}
use Rattle.text_lemmas.proofs.Sent.{sent}
use Rattle.report_text.proofs.report.write_report.Goals as goal

pub returns : goal.returns
returns g c = λ answers logged.
    sent g.K.Sink.written g.K.Sink.faults _ _ c.into_sink.result.now _ _ _ c.put_report-written.result c.new-writer.result c.put_report-written.new.writer c.new-writer.ensures c.into_sink.ensures (search rules)
    c.put_report-written.ensures.empty (c.put_report-written.ensures.wrote answers logged)
