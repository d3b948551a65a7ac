use Rattle.std.proofs.Common.{ap, length, subst, sym}
use Rattle.cache_model.specs.Report.{line}
use Rattle.cache_model.specs.Summary.{tally_text}
use Rattle.text_lemmas.specs.Writing.{Writes}
use Rattle.text_lemmas.proofs.Written.{Writes-then, Writes-stop, Writes-exit}
use Rattle.report_text.proofs.Places.{answers_for}
use Rattle.report_text.proofs.LineTexts.{commands_line_is}
use Rattle.cache_lemmas.proofs.Laws.{answers_are_read_by_command-count}
use Rattle.report_text.proofs.summary.put_counts.Goals as goal

pub returns-in_err-put_field_line : goal.returns-in_err-put_field_line
returns-in_err-put_field_line g c = λ answers logged.
    let k = c.commands in
    let many = answers_for answers_are_read_by_command-count c.args.run.now.trace.now c.args.run.now.shards k.result.now c.args.run.now.logs.now answers k.ensures.value logged in
    Writes-exit _ c.from_residual.ensures.1
    (Writes-stop _ (subst (Writes _ _ _) (commands_line_is (length answers) (length k.result.now) (sym many)) c.in_err-put_field_line.ensures))

pub returns : goal.returns
returns g c = λ answers logged.
    let k = c.commands in
    let many = answers_for answers_are_read_by_command-count c.args.run.now.trace.now c.args.run.now.shards k.result.now c.args.run.now.logs.now answers k.ensures.value logged in
    Writes-then (subst (Writes _ _ _) (commands_line_is (length answers) (length k.result.now) (sym many)) c.in_ok-put_field_line.ensures)
    (subst (Writes _ _ _) (ap (λ t. line (tally_text t)) (c.tally_of-tally.ensures answers logged)) c.put_tally.ensures)
