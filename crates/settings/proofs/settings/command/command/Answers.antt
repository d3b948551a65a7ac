-- The command with its arguments, one by one.
use Rattle.std.proofs.Common.{◌≡◌, ◌∙◌, ap, ap₂, codes, rules, true}
use Rattle.std.proofs.lemmas.Result.{IfOk-weaker}
use Rattle.clap.specs.Simple.{app_of, app_of_fields, on_top, with_rule}
use Rattle.clap.specs.Walk.{rule_of}
use Rattle.settings.specs.Settings.{command, option_rule, program, word_rule}
use Rattle.settings.proofs.settings.command.command.Goals as goal

pub returns : goal.returns
unfolding command
returns c =
    let start : app_of c.disable_version_flag.result ≡ program =
    ap app_of_fields c.disable_version_flag.ensures
    ∙ ap (λ f. app_of_fields (record f { disable_version_flag = true })) c.disable_help_flag.ensures
    ∙ ap (λ f. app_of_fields (record f { disable_help_flag = true; disable_version_flag = true })) c.no_binary_name.ensures
    ∙ ap (on_top (λ top. record top { no_binary_name = true; disable_help_flag = true; disable_version_flag = true })) c.new.ensures.app in
    let mode_is : rule_of c.word_arg.result ≡ word_rule (codes "mode") = search rules in
    let shards_is : rule_of c.option_arg.result ≡ option_rule (codes "shards") = search rules in
    let pages_is : rule_of c.option_arg-2.result ≡ option_rule (codes "pages") = search rules in
    let number_is : rule_of c.option_arg-3.result ≡ option_rule (codes "number") = search rules in
    let commands_is : rule_of c.option_arg-4.result ≡ option_rule (codes "commands") = search rules in
    let with_mode = c.in_ok-arg.ensures.shape c.word_arg.ensures.local ∙ ap₂ with_rule start mode_is in
    let with_shards = c.in_ok-arg-2.ensures.shape c.option_arg.ensures.local ∙ ap₂ with_rule with_mode shards_is in
    let with_pages = c.in_ok-arg-3.ensures.shape c.option_arg-2.ensures.local ∙ ap₂ with_rule with_shards pages_is in
    let with_number = c.in_ok-arg-4.ensures.shape c.option_arg-3.ensures.local ∙ ap₂ with_rule with_pages number_is in
    IfOk-weaker c.arg-5.result _ _ (λ made adds. adds.shape c.option_arg-4.ensures.local ∙ ap₂ with_rule with_number commands_is) c.arg-5.ensures
