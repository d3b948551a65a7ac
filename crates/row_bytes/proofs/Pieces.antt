-- A header, a key and a value one behind another, and zero bytes behind them, are the bytes of the row.
use Rattle.std.proofs.Common.{◌≡◌, ℕ, ◌+◌, ◌-◌, List, ◌++◌, length, replicate, ap, ◌∙◌, append_assoc, length-append, arith}
use Rattle.rows.specs.Row.{Row, size}
use Rattle.row_bytes.specs.declared.links.Links.{Links}
use Rattle.row_bytes.specs.Rows.{content_of, header_bytes, row_bytes}
use Rattle.row_bytes.proofs.Fields.{padding}

long : (head key value : List ℕ) → length head ≡ 32 → length (head ++ (key ++ value)) ≡ 32 + (length key + length value)
long head key value is =
    length-append head (key ++ value) ∙ (ap (λ n. n + length (key ++ value)) is ∙ ap (λ n. 32 + n) (length-append key value))

-- the bytes of the row
pub pieces_together : (n : ℕ) (l : Links) (row : Row) (head : List ℕ) → length head ≡ 32
    → head ≡ header_bytes n row.number (length row.key.bytes) (length row.value) row.key.table l
    → content_of head row.key.bytes row.value ≡ row_bytes n l row
pieces_together n l row head is_long is =
    let key = row.key.bytes in let value = row.value in
    let all = long head key value is_long in
    let end : size key value - 8 - length (head ++ (key ++ value)) ≡ size key value - (8 + 32 + length key + length value) = omega (arith, all) in
    ap (λ (m : ℕ). (head ++ (key ++ value)) ++ replicate m 0) end
    ∙ (append_assoc head (key ++ value) (padding row)
    ∙ ap (λ (h : List ℕ). h ++ ((key ++ value) ++ padding row)) is)
