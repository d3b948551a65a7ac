use Rattle.std.proofs.Common.{subst, ap, ◌∙◌}
use Rattle.rows.specs.Key.{Key}
use Rattle.key_index.specs.Lead.{lead_behind, AreBytes}
use Rattle.key_index.proofs.entries.entry_of.Goals as goal

pub returns-clause-led : goal.returns-clause-led
returns-clause-led g c = c.lead_behind-lead.ensures.lead ∙ ap (lead_behind c.fitting_skip-skip.result) c.key-key.ensures.key

pub returns-clause-bytes : goal.returns-clause-bytes
returns-clause-bytes g c = subst (λ (key : Key). AreBytes key.bytes) c.key-key.ensures.key c.lead_behind-lead.ensures.bytes
