use Rattle.std.proofs.Common.{sym, true≢false, ◌∙◌}
use Rattle.key_index.proofs.entries.has_key.Goals as goal

pub returns-clause-same : goal.returns-clause-same
returns-clause-same g c = λ same. sym c.key.ensures.key ∙ c.is_same_as.ensures.0 same

pub returns-clause-other : goal.returns-clause-other
returns-clause-other g c = λ other same. true≢false (sym (c.is_same_as.ensures.1 (c.key.ensures.key ∙ same)) ∙ other)
