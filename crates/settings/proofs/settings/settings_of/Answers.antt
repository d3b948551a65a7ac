-- What clap makes of the words, and what they ask.
use Rattle.std.proofs.Common.{◌∙◌, map, string_bytes, sym}
use Rattle.settings.proofs.Words.{found_in, refused_in}
use Rattle.settings.proofs.settings.settings_of.Goals as goal

pub returns-in-Ok-clause-settings : goal.returns-in-Ok-clause-settings
returns-in-Ok-clause-settings c =
    found_in _ (map (λ word. string_bytes word) c.args.words.now) _ _ c.in_ok-command.ensures c.in-Ok.ensures.matches c.in-Ok.ensures.kinds c.settings_in.ensures.value

pub returns-clause-settings : goal.returns-clause-settings
returns-clause-settings c =
    sym (refused_in _ (map (λ word. string_bytes word) c.args.words.now) c.in-Err.error c.in_ok-command.ensures c.in-Err.ensures.kinds
    (λ memory. c.in_default.not-OutOfMemory (c.kind.ensures ∙ memory)))
