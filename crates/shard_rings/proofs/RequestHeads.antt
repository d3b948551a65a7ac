-- The header of a request: what is read is what was written, and the other way round.
use Rattle.std.proofs.Common.{◌≡◌, ℕ, ◌<◌, ◌≤◌, ◌^◌, List, [], length, drop, get_or, sym, ap, ◌∙◌, refl, arith}
use Rattle.std.specs.Int.{w32, from_le_bytes}
use Rattle.std.proofs.lemmas.List.{length-take}
use Rattle.byteorder.specs.Endian.{little_number}
use Rattle.byteorder.specs.Numbers.{little_number-reads_back}
use Rattle.shard_rings.specs.declared.request_head.RequestHead.{RequestHead}
use Rattle.shard_rings.specs.inside.RequestHead.{head_bytes, IsRequestHeadOf}
use Rattle.shard_rings.proofs.Numbers.{IsBytes, cells, take-cells, four_is, two_again, four_again}

pub head_read : (head : RequestHead) (bytes : List ℕ) → 16 ≤ length bytes
    → head.kind ≡ get_or bytes 0 0 → head.table ≡ get_or bytes 1 0 → little_number 4 (drop 12 bytes) ≡ 0
    → head.key_len ≡ little_number 2 (drop 2 bytes) → head.number ≡ little_number 4 (drop 4 bytes)
    → head.value_len ≡ little_number 2 (drop 8 bytes) → head.count ≡ little_number 2 (drop 10 bytes)
    → head.key_len < 2 ^ 16 → head.number < 2 ^ 32 → head.value_len < 2 ^ 16 → head.count < 2 ^ 16
    → IsBytes bytes → IsRequestHeadOf head bytes
head_read head bytes long kind table zeros key number value count p q r s fits = record {
  key_len = p;
  number = q;
  value_len = r;
  count = s;
  begins =
      take-cells 16 0 bytes long
      ∙ rw (
        kind,
        table,
        two_again 2 bytes head.key_len fits key,
        four_again 4 bytes head.number fits number,
        two_again 8 bytes head.value_len fits value,
        two_again 10 bytes head.count fits count,
        four_again 12 bytes 0 fits (sym zeros),
      ) refl;
}

-- the zeros of a header
pub zeros_read : (head : RequestHead) (bytes : List ℕ) → IsRequestHeadOf head bytes → (16 ≤ length bytes) × (little_number 4 (drop 12 bytes) ≡ 0)
zeros_read head bytes is =
    let long : 16 ≤ length bytes = omega (arith, ap length is.begins, length-take 16 bytes) in
    let same : cells 16 0 bytes ≡ head_bytes head = sym (take-cells 16 0 bytes long) ∙ is.begins in
    (long, four_is 12 bytes ∙ ap (λ (t : List ℕ). from_le_bytes w32 (drop 12 t)) same)

-- ---- a header has one reading

-- what the first bytes say, field by field
abbrev head_from : List ℕ → RequestHead
head_from header = record {
  kind = get_or header 0 0;
  table = get_or header 1 0;
  key_len = little_number 2 (drop 2 header);
  number = little_number 4 (drop 4 header);
  value_len = little_number 2 (drop 8 header);
  count = little_number 2 (drop 10 header);
}

head_again : (h : RequestHead) (bytes : List ℕ) → IsRequestHeadOf h bytes → head_from (head_bytes h) ≡ h
head_again h bytes is =
    rw (
      little_number-reads_back 2 h.key_len [] is.key_len,
      little_number-reads_back 4 h.number [] is.number,
      little_number-reads_back 2 h.value_len [] is.value_len,
      little_number-reads_back 2 h.count [] is.count,
    ) refl

pub heads_same : (bytes : List ℕ) (g h : RequestHead) → IsRequestHeadOf g bytes → IsRequestHeadOf h bytes → g ≡ h
heads_same bytes g h p q = sym (head_again g bytes p) ∙ ap head_from (sym p.begins ∙ q.begins) ∙ head_again h bytes q
