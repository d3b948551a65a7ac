use Rattle.std.proofs.Common.{ap, subst, ◌∙◌}
use Rattle.rows.specs.Key.{Key, key_shown}
use Rattle.key_index.specs.Order.{key_cmp}
use Rattle.key_index.specs.inside.Shared.{Share}
use Rattle.key_index.proofs.Shares.{share_none}
use Rattle.key_index.proofs.entries.compare_keys.Goals as goal

pub compare_from-requires : goal.compare_from-requires
compare_from-requires g c = share_none (key_shown c.key-other.result) (key_shown c.args.key.now)

pub returns-clause-order : goal.returns-clause-order
returns-clause-order g c = c.compare_from.ensures.order ∙ ap (λ (k : Key). key_cmp k (key_shown c.args.key.now)) c.key-other.ensures.key

pub returns-clause-shared : goal.returns-clause-shared
returns-clause-shared g c = subst (λ (k : Key). Share c.compare_from.result.shared k (key_shown c.args.key.now)) c.key-other.ensures.key c.compare_from.ensures.shared
