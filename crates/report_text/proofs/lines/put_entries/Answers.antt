use Rattle.cache_model.specs.declared.entry.Entry.TheVariants.{Done}
use Rattle.text_lemmas.proofs.Written.{Writes-exit}
use Rattle.report_text.proofs.Outputs.{Writes-next, Writes-broken}
use Rattle.report_text.proofs.LineTexts.{entry_piece}
use Rattle.report_text.proofs.lines.put_entries.Goals as goal

pub loop-entry-preserved : goal.loop-entry-preserved
loop-entry-preserved g c =
    Writes-next entry_piece c.args.entries.now c.loop-entry.entry-index (Done 0) c.loop-entry-test.true c.loop-entry.invariant c.in_ok-put_entry.ensures

pub returns-in_err-put_entry : goal.returns-in_err-put_entry
returns-in_err-put_entry g c =
    Writes-exit _ c.from_residual.ensures.1 (Writes-broken entry_piece c.args.entries.now c.loop-entry.entry-index (Done 0) c.loop-entry-test.true c.loop-entry.invariant c.in_err-put_entry.ensures)
