use Rattle.std.proofs.Common.{◌≡◌, ℕ, List, rules, subst, sym}
use Rattle.rows.specs.Apply.{Reply}
use Rattle.trace_text.specs.Parsed.{Parsed}
use Rattle.run_log.specs.Replies.{Replies}
use Rattle.text_lemmas.proofs.Sent.{sent}
use Rattle.report_text.specs.inside.AnsweredRun.{Have}
use Rattle.report_text.proofs.side_by_side.write_report_on.Goals as goal

-- the answers of the logs, where the number of shards goes by another name
abbrev answered : (trace : Parsed) (n : ℕ) (logs : List Replies) → n ≡ trace.shards → (answers : List (ℕ × Reply))
    → Have trace trace.shards logs answers → Have trace n logs answers
answered trace n logs same answers logged = subst (λ m. Have trace m logs answers) (sym same) logged

pub put_report_on-written-requires-clause-answered : goal.put_report_on-written-requires-clause-answered
put_report_on-written-requires-clause-answered g c = λ _ _.
    let all = c.requires.answered in
    (all.0, answered c.args.trace.now c.shards-shards.result c.args.logs.now c.shards-shards.ensures.value all.0 all.1)

pub returns : goal.returns
returns g c = λ answers logged.
    sent g.K.Sink.written g.K.Sink.faults _ _ c.into_sink.result.now _ _ _ c.put_report_on-written.result c.new-writer.result c.put_report_on-written.new.writer c.new-writer.ensures c.into_sink.ensures (search rules)
    c.put_report_on-written.ensures.empty
    (c.put_report_on-written.ensures.wrote answers (answered c.args.trace.now c.shards-shards.result c.args.logs.now c.shards-shards.ensures.value answers logged))
