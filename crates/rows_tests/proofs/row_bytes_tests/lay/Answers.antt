use Rattle.std.proofs.Common.{ℕ, List, ◌++◌, [], ◌∷◌, sym, ap, subst, ◌∙◌}
use Rattle.object_log.specs.Contents.{padded}
use Rattle.rows.specs.Key.{in_table}
use Rattle.rows.specs.Row.{Row}
use Rattle.row_bytes.specs.Rows.{HoldsRow}
use Rattle.rows_tests.proofs.row_bytes_tests.lay.Goals as goal

-- the row of 48 bytes, with the bytes of `key` and of `v`
abbrev row : Row
row = record { key = in_table 7 (107 ∷ 101 ∷ 121 ∷ []); value = 118 ∷ []; number = 300 }

pub returns-clause-row : goal.returns-clause-row
returns-clause-row c =
    let is = c.append_with-used.ensures.content ∙ ap (λ (h : List ℕ). padded 40 (h ++ (row.key.bytes ++ row.value))) c.as_slice.ensures in
    (7, row, subst (λ (bytes : List ℕ). HoldsRow bytes 7 row) (sym is) c.row_header-header.ensures.holds)
