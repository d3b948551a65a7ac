use Rattle.std.proofs.Common.{rules}
use Rattle.text_lemmas.proofs.Sent.{sent_all, sent_failed}
use Rattle.report_text.proofs.journal_texts.write_journal.Goals as goal

pub returns : goal.returns
returns g c = record {
  written = sent_all g.K.Sink.written g.K.Sink.faults _ _ c.into_sink.result.now _ _ _ c.finish_journal-written.result c.new-writer.result c.finish_journal-written.new.writer c.new-writer.ensures
      c.into_sink.ensures (search rules) c.finish_journal-written.ensures.empty c.finish_journal-written.ensures.wrote;
  failed = sent_failed g.K.Sink.written g.K.Sink.faults _ _ c.into_sink.result.now _ _ _ c.finish_journal-written.result c.new-writer.result c.finish_journal-written.new.writer c.new-writer.ensures
      c.into_sink.ensures (search rules) c.finish_journal-written.ensures.empty c.finish_journal-written.ensures.wrote;
}
