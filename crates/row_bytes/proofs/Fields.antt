-- What is read from the bytes of a row.
use Rattle.std.proofs.Common.{◌≡◌, ℕ, ◌+◌, ◌-◌, ◌<◌, ◌≤◌, ◌^◌, List, [], ◌++◌, length, take, drop, replicate, refl, ap, sym, subst, ◌∙◌, append_assoc, arith, length-append}
use Rattle.std.proofs.Math.Seq.{drop-append_seam}
use Rattle.std.proofs.lemmas.List.{take_at, drop-drop, length-replicate}
use Rattle.byteorder.specs.Endian.{little_bytes}
use Rattle.byteorder.specs.Numbers.{little_number-reads_back}
use Rattle.layout.specs.Sizes.{tables}
use Rattle.rows.specs.Key.{in_table}
use Rattle.rows.specs.Row.{Row, size}
use Rattle.row_bytes.specs.declared.links.Links.{Links}
use Rattle.row_bytes.specs.Rows.{row_bytes, AreLinks, HoldsRow, IsStorable, IsRow, header, number_in, put_in, key_length_in, value_length_in, key_in, value_in, table_in, newer_in, older_in, links_in, row_in, without_links}

pub number_of_bytes : (n : ℕ) (l : Links) (row : Row) → n < 2 ^ 32 → number_in (row_bytes n l row) ≡ n
number_of_bytes n l row small = little_number-reads_back 4 n [] small

pub put_of_bytes : (n : ℕ) (l : Links) (row : Row) → row.number < 2 ^ 32 → put_in (row_bytes n l row) ≡ row.number
put_of_bytes n l row small = little_number-reads_back 4 row.number [] small

pub key_length_of_bytes : (n : ℕ) (l : Links) (row : Row) → IsStorable row → key_length_in (row_bytes n l row) ≡ length row.key.bytes
key_length_of_bytes n l row fits = little_number-reads_back 2 (length row.key.bytes) [] (omega (arith, fits.short_key))

pub value_length_of_bytes : (n : ℕ) (l : Links) (row : Row) → IsStorable row → value_length_in (row_bytes n l row) ≡ length row.value
value_length_of_bytes n l row fits = little_number-reads_back 2 (length row.value) [] (omega (arith, fits.short_value))

-- the zero bytes at the end
abbrev pub padding : Row → List ℕ
padding row = replicate (size row.key.bytes row.value - (8 + header + length row.key.bytes + length row.value)) 0

pub behind_header : (n : ℕ) (l : Links) (row : Row) → drop header (row_bytes n l row) ≡ row.key.bytes ++ (row.value ++ padding row)
behind_header n l row = append_assoc row.key.bytes row.value (padding row)

pub behind_key : (n : ℕ) (l : Links) (row : Row) → drop (header + length row.key.bytes) (row_bytes n l row) ≡ row.value ++ padding row
behind_key n l row =
    sym (drop-drop (length row.key.bytes) header (row_bytes n l row))
    ∙ (ap (λ bytes. drop (length row.key.bytes) bytes) (behind_header n l row) ∙ drop-append_seam row.key.bytes (row.value ++ padding row))

pub key_of_bytes : (n : ℕ) (l : Links) (row : Row) → IsStorable row → key_in (row_bytes n l row) ≡ row.key.bytes
key_of_bytes n l row fits =
    ap (λ k. take k (drop header (row_bytes n l row))) (key_length_of_bytes n l row fits)
    ∙ (ap (λ bytes. take (length row.key.bytes) bytes) (behind_header n l row) ∙ take_at row.key.bytes (row.value ++ padding row) (length row.key.bytes) refl)

pub value_of_bytes : (n : ℕ) (l : Links) (row : Row) → IsStorable row → value_in (row_bytes n l row) ≡ row.value
value_of_bytes n l row fits =
    ap (λ k. take (value_length_in (row_bytes n l row)) (drop (header + k) (row_bytes n l row))) (key_length_of_bytes n l row fits)
    ∙ (ap (λ k. take k (drop (header + length row.key.bytes) (row_bytes n l row))) (value_length_of_bytes n l row fits)
    ∙ (ap (λ bytes. take (length row.value) bytes) (behind_key n l row) ∙ take_at row.value (padding row) (length row.value) refl))

pub length_of_bytes : (n : ℕ) (l : Links) (row : Row) → length (row_bytes n l row) + 8 ≡ size row.key.bytes row.value
length_of_bytes n l row =
    let behind : length (drop header (row_bytes n l row)) ≡ length row.key.bytes + (length row.value + (size row.key.bytes row.value - (8 + header + length row.key.bytes + length row.value))) =
    ap (λ bytes. length bytes) (behind_header n l row) ∙ rw (length-append, length-append, length-replicate) refl in
    omega (arith, behind)

abbrev pub with_fields : ℕ → List ℕ → List ℕ → ℕ → Row
with_fields table key value number = record { key = in_table table key; value = value; number = number }

pub table_of_bytes : (n : ℕ) (l : Links) (row : Row) → table_in (row_bytes n l row) ≡ row.key.table
table_of_bytes n l row = refl

pub row_of_bytes : (n : ℕ) (l : Links) (row : Row) → IsStorable row → row_in (row_bytes n l row) ≡ row
row_of_bytes n l row fits =
    ap (λ key. with_fields row.key.table key (value_in (row_bytes n l row)) (put_in (row_bytes n l row))) (key_of_bytes n l row fits)
    ∙ (ap (λ value. with_fields row.key.table row.key.bytes value (put_in (row_bytes n l row))) (value_of_bytes n l row fits)
    ∙ ap (λ number. with_fields row.key.table row.key.bytes row.value number) (put_of_bytes n l row fits.put))

-- the fields end within the content
pub fields_within : (n : ℕ) (l : Links) (row : Row) → IsStorable row
    → header + key_length_in (row_bytes n l row) + value_length_in (row_bytes n l row) ≤ length (row_bytes n l row)
fields_within n l row fits =
    let size_is = length_of_bytes n l row in
    let key_is = key_length_of_bytes n l row fits in
    let value_is = value_length_of_bytes n l row fits in
    omega (arith, size_is, key_is, value_is)

pub fields_in : (content : List ℕ) → IsRow content → header + key_length_in content + value_length_in content ≤ length content
fields_in content (number, row, holds) =
    subst (λ bytes. header + key_length_in bytes + value_length_in bytes ≤ length bytes) (sym holds.bytes) (fields_within number holds.links row holds.storable)

pub table_below : (content : List ℕ) → IsRow content → table_in content < tables
table_below content (number, row, holds) = subst (λ bytes. table_in bytes < tables) (sym holds.bytes) holds.storable.table

-- ---- the links

abbrev pub with_links : ℕ → ℕ → Links
with_links a b = record { newer = a; older = b }

pub newer_of_bytes : (n : ℕ) (l : Links) (row : Row) → l.newer < 2 ^ 64 → newer_in (row_bytes n l row) ≡ l.newer
newer_of_bytes n l row small = little_number-reads_back 8 l.newer [] small

pub older_of_bytes : (n : ℕ) (l : Links) (row : Row) → l.older < 2 ^ 64 → older_in (row_bytes n l row) ≡ l.older
older_of_bytes n l row small = little_number-reads_back 8 l.older [] small

pub links_of_bytes : (n : ℕ) (l : Links) (row : Row) → AreLinks l → links_in (row_bytes n l row) ≡ l
links_of_bytes n l row are =
    ap (λ a. with_links a (older_in (row_bytes n l row))) (newer_of_bytes n l row are.newer)
    ∙ ap (λ b. with_links l.newer b) (older_of_bytes n l row are.older)

-- without links the bytes are those of the row with links of zero bytes
pub bare_bytes : (n : ℕ) (l : Links) (row : Row) → without_links (row_bytes n l row) ≡ row_bytes n (with_links 0 0) row
bare_bytes n l row = refl

pub bare_row : (content : List ℕ) (n : ℕ) (row : Row) → HoldsRow content n row → row_in (without_links content) ≡ row
bare_row content n row h =
    ap (λ bytes. row_in (without_links bytes)) h.bytes ∙ (ap row_in (bare_bytes n h.links row) ∙ row_of_bytes n (with_links 0 0) row h.storable)

-- a link is written over
pub newer_written : (n : ℕ) (l : Links) (row : Row) (a : ℕ) → take 16 (row_bytes n l row) ++ (little_bytes 8 a ++ drop 8 (drop 16 (row_bytes n l row))) ≡ row_bytes n (with_links a l.older) row
newer_written n l row a = refl

pub older_written : (n : ℕ) (l : Links) (row : Row) (a : ℕ) → take 24 (row_bytes n l row) ++ (little_bytes 8 a ++ drop 8 (drop 24 (row_bytes n l row))) ≡ row_bytes n (with_links l.newer a) row
older_written n l row a = refl
