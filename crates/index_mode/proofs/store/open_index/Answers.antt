use Rattle.std.proofs.Common.{sym, ◌∙◌}
use Rattle.index_mode.proofs.store.open_index.Goals as goal

pub invariant_of-result : goal.invariant_of-result
invariant_of-result c = sym c.in_ok-keys.keys.ok.0 ∙ c.in_ok-keys.ensures.len

pub returns-clause-empty : goal.returns-clause-empty
returns-clause-empty c = record { index = c.in_ok-ranged.ensures.content ∙ c.in_ok-tree.ensures.index }

pub returns-clause-held : goal.returns-clause-held
returns-clause-held c = c.in_ok-ranged.ensures.held
