use Rattle.std.proofs.Common.{[], ◌∷◌, ap, ◌∙◌}
use Rattle.std.specs.Cmp.Lexicographic.{same_text}
use Rattle.rows.specs.declared.reply_kind.ReplyKind.TheVariants as kinds
use Rattle.text_tests.proofs.Logs.{no_keys, two_keys}
use Rattle.text_tests.proofs.report_text_tests.found_keys.Goals as goal

pub returns-then-eq-clause-keys : goal.returns-then-eq-clause-keys
returns-then-eq-clause-keys c =
    let body = same_text c.args.body.now (1 ∷ 0 ∷ 98 ∷ 1 ∷ 0 ∷ 99 ∷ []) c.if-eq.ensures in
    let finds = c.finds_b_and_c.ensures c.if-finds_b_and_c.true in
    let keys = two_keys c.args.key.now c.args.count finds.0 finds.1 finds.2 in
    (keys.0, keys.1, ap (λ bytes. (kinds.Keys, bytes)) body ∙ keys.2)

pub returns-else-finds_b_and_c-clause-keys : goal.returns-else-finds_b_and_c-clause-keys
returns-else-finds_b_and_c-clause-keys c = no_keys c.args.key.now c.args.count
