use Rattle.std.proofs.Common.{arith}
use Rattle.text_lemmas.proofs.Written.{Writes-exit}
use Rattle.report_text.proofs.Outputs.{Writes-next, Writes-broken, Writes-all}
use Rattle.report_text.proofs.LineTexts.{field_piece}
use Rattle.report_text.proofs.lines.put_fields.Goals as goal

pub loop-name-preserved : goal.loop-name-preserved
loop-name-preserved g c = Writes-next field_piece c.args.fields.now c.loop-name.name-index _ c.loop-name-test.true c.loop-name.invariant c.in_ok-put_field.ensures

pub returns-in_err-put_field : goal.returns-in_err-put_field
returns-in_err-put_field g c =
    Writes-exit _ c.from_residual.ensures.1 (Writes-broken field_piece c.args.fields.now c.loop-name.name-index _ c.loop-name-test.true c.loop-name.invariant c.in_err-put_field.ensures)

pub returns : goal.returns
returns g c = Writes-all field_piece c.args.fields.now c.loop-name.name-index (omega (arith, c.loop-name-test.false)) c.loop-name.invariant
