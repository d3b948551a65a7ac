use Rattle.std.proofs.Common.{rules}
use Rattle.text_lemmas.proofs.Sent.{sent}
use Rattle.report_check.proofs.verdict.write_verdict.Goals as goal

pub returns : goal.returns
returns g c =
    sent g.K.Sink.written g.K.Sink.faults _ _ c.into_sink.result.now _ _ _ c.finish_verdict-written.result c.new-writer.result c.finish_verdict-written.new.writer c.new-writer.ensures c.into_sink.ensures (search rules)
    c.finish_verdict-written.ensures.empty c.finish_verdict-written.ensures.wrote
