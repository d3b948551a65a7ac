-- A row's value, written over in part.
use Rattle.std.proofs.Common.{◌≡◌, ℕ, ◌+◌, ◌-◌, ◌*◌, ◌/◌, ◌≤◌, List, ◌++◌, length, take, drop, replicate, ap, sym, ◌∙◌, append_assoc, length-append, arith}
use Rattle.std.proofs.lemmas.List.{take_at, drop_at, drop-drop, drop-append-le, length-drop, length-take-le, take-append-drop}
use Rattle.rows.specs.Row.{Row}
use Rattle.row_bytes.specs.declared.links.Links.{Links}
use Rattle.row_bytes.specs.Patches.{patched, with_patch}
use Rattle.row_bytes.specs.Rows.{HoldsRow, IsStorable, header_bytes, key_length_in, row_bytes, row_in}
use Rattle.row_bytes.proofs.Fields.{key_length_of_bytes, padding, row_of_bytes}

-- the value is as long as it was
pub patched_long : (value : List ℕ) (at : ℕ) (bytes : List ℕ) → at + length bytes ≤ length value → length (patched value at bytes) ≡ length value
patched_long value at bytes fits =
    let front : length (take at value) ≡ at = length-take-le at value (omega (arith, fits)) in
    let behind = length-drop (at + length bytes) value in
    let joined = length-append (take at value) (bytes ++ drop (at + length bytes) value) in
    let rest = length-append bytes (drop (at + length bytes) value) in
    omega (arith, front, behind, joined, rest, fits)

-- bytes written over a part of what stands between two others
spliced : (front value behind : List ℕ) (k at : ℕ) (bytes : List ℕ) → length front ≡ k → at + length bytes ≤ length value
    → take (k + at) (front ++ (value ++ behind)) ++ (bytes ++ drop (k + at + length bytes) (front ++ (value ++ behind))) ≡ front ++ (patched value at bytes ++ behind)
spliced front value behind k at bytes long fits =
    let whole = front ++ (value ++ behind) in
    let a = take at value in let r = drop at value in let d = drop (at + length bytes) value in
    let a_long : length a ≡ at = length-take-le at value (omega (arith, fits)) in
    let r_long = length-drop at value in
    let cut : whole ≡ (front ++ a) ++ (r ++ behind) =
    ap (λ (v : List ℕ). front ++ (v ++ behind)) (sym (take-append-drop at value))
    ∙ (ap (λ (t : List ℕ). front ++ t) (append_assoc a r behind) ∙ sym (append_assoc front a (r ++ behind))) in
    let joined = length-append front a in
    let both : length (front ++ a) ≡ k + at = omega (arith, joined, long, a_long) in
    let before : take (k + at) whole ≡ front ++ a = ap (λ (t : List ℕ). take (k + at) t) cut ∙ take_at (front ++ a) (r ++ behind) (k + at) both in
    let after : drop (k + at + length bytes) whole ≡ d ++ behind =
    sym (drop-drop (length bytes) (k + at) whole)
    ∙ (ap (λ (t : List ℕ). drop (length bytes) t) (ap (λ (t : List ℕ). drop (k + at) t) cut ∙ drop_at (front ++ a) (r ++ behind) (k + at) both)
    ∙ (drop-append-le (length bytes) r behind (omega (arith, r_long, fits)) ∙ ap (λ (t : List ℕ). t ++ behind) (drop-drop (length bytes) at value))) in
    ap (λ (t : List ℕ). t ++ (bytes ++ drop (k + at + length bytes) whole)) before
    ∙ (ap (λ (t : List ℕ). (front ++ a) ++ (bytes ++ t)) after
    ∙ (append_assoc front a (bytes ++ (d ++ behind))
    ∙ (ap (λ (t : List ℕ). front ++ (a ++ t)) (sym (append_assoc bytes d behind))
    ∙ ap (λ (t : List ℕ). front ++ t) (sym (append_assoc a (bytes ++ d) behind)))))

-- the bytes of a row with a value of such a length
abbrev bytes_with : ℕ → Links → Row → ℕ → List ℕ → List ℕ
bytes_with n l row len value =
    header_bytes n row.number (length row.key.bytes) len row.key.table l ++ row.key.bytes ++ value
    ++ replicate ((40 + length row.key.bytes + len + 7) / 8 * 8 - (8 + 32 + length row.key.bytes + len)) 0

pub patched_bytes : (n : ℕ) (l : Links) (row : Row) (at : ℕ) (bytes : List ℕ) → at + length bytes ≤ length row.value
    → take (32 + length row.key.bytes + at) (row_bytes n l row) ++ (bytes ++ drop (32 + length row.key.bytes + at + length bytes) (row_bytes n l row))
    ≡ row_bytes n l (with_patch row at bytes)
patched_bytes n l row at bytes fits =
    let key = row.key.bytes in let value = patched row.value at bytes in
    let head = header_bytes n row.number (length key) (length row.value) row.key.table l in
    let front = head ++ key in
    let long : length front ≡ 32 + length key = length-append head key in
    ap (λ (t : List ℕ). take (32 + length key + at) t ++ (bytes ++ drop (32 + length key + at + length bytes) t)) (append_assoc front row.value (padding row))
    ∙ (spliced front row.value (padding row) (32 + length key) at bytes long fits
    ∙ (sym (append_assoc front value (padding row)) ∙ ap (λ (len : ℕ). bytes_with n l row len value) (sym (patched_long row.value at bytes fits))))

-- what is written over a content that holds a row
module _ (content new : List ℕ) (k at : ℕ) (bytes : List ℕ) (key : k ≡ key_length_in content) (fits : at + length bytes ≤ length (row_in content).value)
    (is : new ≡ take (32 + k + at) content ++ (bytes ++ drop (32 + k + at + length bytes) content)) (n : ℕ) (row : Row) (h : HoldsRow content n row) where
  read : row_in content ≡ row
  read = ap row_in h.bytes ∙ row_of_bytes n h.links row h.storable

  within : at + length bytes ≤ length row.value
  within = let same = ap (λ (r : Row). length r.value) read in omega (arith, same, fits)

  keys : k ≡ length row.key.bytes
  keys = key ∙ (ap key_length_in h.bytes ∙ key_length_of_bytes n h.links row h.storable)

  pub storable_still : IsStorable (with_patch row at bytes)
  storable_still =
      let s = h.storable in let long = patched_long row.value at bytes within in let short = s.short_value in
      record { table = s.table; some_key = s.some_key; short_key = s.short_key; short_value = omega (arith, long, short); put = s.put }

  pub bytes_are : new ≡ row_bytes n h.links (with_patch row at bytes)
  bytes_are =
      is
      ∙ (ap (λ (len : ℕ). take (32 + len + at) content ++ (bytes ++ drop (32 + len + at + length bytes) content)) keys
      ∙ (ap (λ (b : List ℕ). take (32 + length row.key.bytes + at) b ++ (bytes ++ drop (32 + length row.key.bytes + at + length bytes) b)) h.bytes
      ∙ patched_bytes n h.links row at bytes within))

  pub long_still : length (patched row.value at bytes) ≡ length row.value
  long_still = patched_long row.value at bytes within
