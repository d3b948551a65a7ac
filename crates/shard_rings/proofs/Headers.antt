-- The header of a reply: what is read is what was written, and the other way round.
use Rattle.std.proofs.Common.{◌≡◌, ℕ, ◌==◌, ◌<◌, ◌≤◌, ◌^◌, cond, List, [], length, drop, get_or, sym, ap, ◌∙◌, refl, arith}
use Rattle.std.specs.Int.{w32, from_le_bytes}
use Rattle.std.proofs.lemmas.List.{length-take}
use Rattle.byteorder.specs.Endian.{little_number}
use Rattle.byteorder.specs.Numbers.{little_number-reads_back}
use Rattle.rows.specs.declared.reply_kind.ReplyKind.{ReplyKind}
use Rattle.rows.specs.declared.reply_kind.ReplyKind.TheVariants as kinds
use Rattle.shard_rings.specs.declared.head.Head.{Head}
use Rattle.shard_rings.specs.Reply.{reply_byte, reply_header}
use Rattle.shard_rings.specs.inside.Head.{IsHeadOf}
use Rattle.shard_rings.proofs.Numbers.{IsBytes, cells, take-cells, four_is, two_again, four_again}

pub head_read : (head : Head) (bytes : List ℕ) → 16 ≤ length bytes
    → reply_byte head.kind ≡ get_or bytes 0 0 → get_or bytes 1 0 ≡ 0 → little_number 4 (drop 12 bytes) ≡ 0
    → head.keys ≡ little_number 2 (drop 2 bytes) → head.number ≡ little_number 4 (drop 4 bytes) → head.len ≡ little_number 4 (drop 8 bytes)
    → head.keys < 2 ^ 16 → head.number < 2 ^ 32 → head.len < 2 ^ 32 → IsBytes bytes → IsHeadOf head bytes
head_read head bytes long kind none zeros keys number len p q r fits = record {
  keys = p;
  number = q;
  len = r;
  begins =
      take-cells 16 0 bytes long
      ∙ rw (
        kind,
        none,
        two_again 2 bytes head.keys fits keys,
        four_again 4 bytes head.number fits number,
        four_again 8 bytes head.len fits len,
        four_again 12 bytes 0 fits (sym zeros),
      ) refl;
}

-- the zeros of a header
pub zeros_read : (head : Head) (bytes : List ℕ) → IsHeadOf head bytes → (16 ≤ length bytes) × (get_or bytes 1 0 ≡ 0) × (little_number 4 (drop 12 bytes) ≡ 0)
zeros_read head bytes is =
    let long : 16 ≤ length bytes = omega (arith, ap length is.begins, length-take 16 bytes) in
    let same : cells 16 0 bytes ≡ reply_header head.kind head.keys head.number head.len = sym (take-cells 16 0 bytes long) ∙ is.begins in
    (long, ap (λ (t : List ℕ). get_or t 1 0) same, four_is 12 bytes ∙ ap (λ (t : List ℕ). from_le_bytes w32 (drop 12 t)) same)

-- ---- a header has one reading

abbrev kind_from : ℕ → ReplyKind
kind_from byte = cond (byte == 17) kinds.Stored (cond (byte == 18) kinds.Replaced (cond (byte == 19) kinds.Value (cond (byte == 20) kinds.Missing (cond (byte == 21) kinds.Erased kinds.Keys))))

kind_again : (kind : ReplyKind) → kind_from (reply_byte kind) ≡ kind
kind_again kinds.Stored = refl
kind_again kinds.Replaced = refl
kind_again kinds.Value = refl
kind_again kinds.Missing = refl
kind_again kinds.Erased = refl
kind_again kinds.Keys = refl

-- what a header says, read from the header
abbrev head_from : List ℕ → Head
head_from header = record {
  kind = kind_from (get_or header 0 0);
  keys = little_number 2 (drop 2 header);
  number = little_number 4 (drop 4 header);
  len = little_number 4 (drop 8 header);
}

head_again : (h : Head) (bytes : List ℕ) → IsHeadOf h bytes → head_from (reply_header h.kind h.keys h.number h.len) ≡ h
head_again h bytes is =
    rw (
      kind_again h.kind,
      little_number-reads_back 2 h.keys [] is.keys,
      little_number-reads_back 4 h.number [] is.number,
      little_number-reads_back 4 h.len [] is.len,
    ) refl

pub heads_same : (bytes : List ℕ) (g h : Head) → IsHeadOf g bytes → IsHeadOf h bytes → g ≡ h
heads_same bytes g h p q = sym (head_again g bytes p) ∙ ap head_from (sym p.begins ∙ q.begins) ∙ head_again h bytes q
