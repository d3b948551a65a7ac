use Rattle.std.proofs.Common.{rules}
use Rattle.report_text.specs.inside.Stretches.{answer_lines}
use Rattle.report_text.proofs.Sent.{Sent-from}
use Rattle.report_text.proofs.pieces.write_stretch.Goals as goal

pub returns : goal.returns
returns g c =
    let p = Sent-from g.K.Sink.written g.K.Sink.faults _ (λ answers. answer_lines answers c.args.stretch.now.from c.args.stretch.now.to) _ _ c.into_sink.result.now _ _
    c.finish_stretch-written.result c.new-writer.result c.finish_stretch-written.new.writer c.new-writer.ensures c.into_sink.ensures (search rules) c.requires.answered
    c.finish_stretch-written.ensures.empty c.finish_stretch-written.ensures.wrote in
    record { written = p.written; failed = p.failed }
