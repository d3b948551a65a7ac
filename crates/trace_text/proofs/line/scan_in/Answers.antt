use Rattle.std.proofs.Common.{◌≡◌, sym, ap, ◌∙◌, rules}
use Rattle.std.specs.Prelude.{Some, None}
use Rattle.std.proofs.lemmas.Result.{IfOk-from_err}
use Rattle.rows.specs.Key.{in_table}
use Rattle.rows.specs.declared.kind.Kind.TheVariants.{Scan}
use Rattle.trace_text.specs.Line.{from_count, from_key, cut_at, unless, key_fault}
use Rattle.trace_text.proofs.line.scan_in.Goals as goal

pub returns-clause-fields : goal.returns-clause-fields
returns-clause-fields c =
    let key = c.in_ok-key.key.now in let behind = c.in_ok-behind.behind.now in
    let parts : (key, Some behind) ≡ cut_at 32 c.args.fields.now = search rules in
    let sound : key_fault key ≡ None = c.in_ok-key.ensures.sound in
    let row = in_table c.args.table key in
    sym (c.in_ok-count.ensures.count row) ∙ sym (ap (λ f. unless f (from_count row (cut_at 32 behind))) sound)
    ∙ ap (from_key Scan c.args.table) parts

pub returns-in_err-key-clause-offsets : goal.returns-in_err-key-clause-offsets
returns-in_err-key-clause-offsets c = IfOk-from_err c.from_residual.result _ c.from_residual.ensures.0

pub returns-in_err-behind-clause-offsets : goal.returns-in_err-behind-clause-offsets
returns-in_err-behind-clause-offsets c = IfOk-from_err c.from_residual-in_err-behind.result _ c.from_residual-in_err-behind.ensures.0

pub returns-in_err-count-clause-offsets : goal.returns-in_err-count-clause-offsets
returns-in_err-count-clause-offsets c = IfOk-from_err c.from_residual-in_err-count.result _ c.from_residual-in_err-count.ensures.0
