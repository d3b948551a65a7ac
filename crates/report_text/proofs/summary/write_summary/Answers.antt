use Rattle.std.proofs.Common.{rules}
use Rattle.text_lemmas.proofs.Sent.{sent}
use Rattle.report_text.proofs.summary.write_summary.Goals as goal

pub returns : goal.returns
returns g c = λ answers logged.
    sent g.K.Sink.written g.K.Sink.faults _ _ c.into_sink.result.now _ _ _ c.put_summary-written.result c.new-writer.result c.put_summary-written.new.writer c.new-writer.ensures c.into_sink.ensures (search rules)
    c.put_summary-written.ensures.empty (c.put_summary-written.ensures.wrote answers logged)
