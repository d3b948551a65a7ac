-- The first two fields are those of the shard, or they are not.
use Rattle.std.proofs.Common.{Bor, ℕ, List, Option, ap, sym, ◌∙◌}
use Rattle.report_check.specs.inside.Spells.{fields_of}
use Rattle.report_check.proofs.Entries.{shown}
use Rattle.report_check.proofs.ShardFields.{if-none, misnamed, named, one-field}
use Rattle.report_check.proofs.journals.behind_shard.Goals as goal

pub returns-in_err-behind-clause-other : goal.returns-in_err-behind-clause-other
returns-in_err-behind-clause-other c count =
    if-none c.from_residual.result
    (one-field c.args.shard c.args.text.now c.cut_field.result.0.now (shown c.cut_field.result.1) c.cut_field.ensures.fields (ap shown c.in_err-behind.was) count)

pub returns-then-is_named-clause-found : goal.returns-then-is_named-clause-found
returns-then-is_named-clause-found c =
    named c.args.shard c.args.text.now c.cut_field.result.0.now c.cut_field-2.result.0.now (shown c.cut_field.result.1) (shown c.cut_field-2.result.1)
    c.cut_field.ensures.fields (ap (λ (o : Option (Bor (List ℕ))). fields_of (shown o)) c.in_ok-behind.was ∙ c.cut_field-2.ensures.fields)
    (sym c.is_named.ensures ∙ c.if-is_named.true)

pub returns-else-is_named-clause-other : goal.returns-else-is_named-clause-other
returns-else-is_named-clause-other c =
    misnamed c.args.shard c.args.text.now c.cut_field.result.0.now c.cut_field-2.result.0.now (shown c.cut_field.result.1) (shown c.cut_field-2.result.1)
    c.cut_field.ensures.fields (ap (λ (o : Option (Bor (List ℕ))). fields_of (shown o)) c.in_ok-behind.was ∙ c.cut_field-2.ensures.fields)
    (sym c.is_named.ensures ∙ c.if-is_named.false)
