use Rattle.std.proofs.Common.{sym}
use Rattle.text_lemmas.proofs.Written.{Writes-exit}
use Rattle.report_text.proofs.Outputs.{Writes-next-numbered, Writes-broken-numbered, Writes-all-numbered}
use Rattle.report_text.proofs.LineTexts.{journal_line, entries_of}
use Rattle.report_text.proofs.report.put_journals.Goals as goal

pub loop-shard-preserved : goal.loop-shard-preserved
loop-shard-preserved g c =
    Writes-next-numbered journal_line entries_of c.args.journals.now c.loop-shard.shard c.index-journals-shard.result c.loop-shard-test.true (sym c.index-journals-shard.is)
    c.loop-shard.invariant c.in_ok-put_journal.ensures

pub returns-in_err-put_journal : goal.returns-in_err-put_journal
returns-in_err-put_journal g c =
    Writes-exit _ c.from_residual.ensures.1
    (Writes-broken-numbered journal_line entries_of c.args.journals.now c.loop-shard.shard c.index-journals-shard.result c.loop-shard-test.true (sym c.index-journals-shard.is)
    c.loop-shard.invariant c.in_err-put_journal.ensures)

pub returns : goal.returns
returns g c = Writes-all-numbered journal_line entries_of c.args.journals.now c.loop-shard.shard c.loop-shard-test.false c.loop-shard.invariant
