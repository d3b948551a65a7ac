use Rattle.std.proofs.Common.{ap, ◌∙◌}
use Rattle.rows.specs.Row.{Row}
use Rattle.row_cache.proofs.row_keys.RowKeysKeys.key.Goals as goal

pub returns-clause-key : goal.returns-clause-key
returns-clause-key c = c.key_of_row.ensures.key ∙ ap (λ (x : Row). x.key) c.content_of.ensures.read
