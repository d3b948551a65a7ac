use Rattle.std.proofs.Common.{ℕ, List, ap, ◌∙◌}
use Rattle.rows.specs.Key.{in_table}
use Rattle.row_bytes.specs.Rows.{table_in}
use Rattle.row_bytes.proofs.reading.key_of_row.Goals as goal

pub returns-clause-key : goal.returns-clause-key
returns-clause-key c =
    ap (λ (table : ℕ). in_table table c.key_in.result.now) c.table_in.ensures.is
    ∙ ap (λ (bytes : List ℕ). in_table (table_in c.args.content.now) bytes) c.key_in.ensures
