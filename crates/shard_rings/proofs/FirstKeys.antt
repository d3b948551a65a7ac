-- The first key of a body of keys, and the keys behind it.
use Rattle.std.proofs.Common.{◌≡◌, ℕ, ◌+◌, ◌≤◌, List, [], ◌∷◌, ◌++◌, length, take, drop, sym, ap, ◌∙◌, arith, length-append}
use Rattle.std.specs.List.{flat_map}
use Rattle.std.specs.Int.{w16, to_le_bytes}
use Rattle.std.specs.Prelude.{All}
use Rattle.std.proofs.lemmas.List.Elements.{All-head, All-tail, All-cons}
use Rattle.std.proofs.lemmas.List.{take-append-drop, length-take}
use Rattle.std.proofs.Math.Seq.{drop-append_seam}
use Rattle.byteorder.specs.Endian.{little_number}
use Rattle.byteorder.specs.Numbers.{little_number-reads_back}
use Rattle.rows.specs.Spelled.{IsKey, key_field}
use Rattle.shard_rings.specs.inside.Body.{HasKeys}
use Rattle.shard_rings.proofs.Numbers.{IsBytes, cells, split-cells, two_again}

-- the length that the first two bytes spell
abbrev pub len_at : List ℕ → ℕ
len_at body = little_number 2 body

-- a first key of n bytes, and so many keys behind it
pub record HasFirst (n : ℕ) (behind : List ℕ) (count : ℕ) : Type 0 where
  pub least : 1 ≤ n
  pub most : n ≤ 256
  pub within : n ≤ length behind
  pub others : HasKeys (drop n behind) count

first_of : (body : List ℕ) (count : ℕ) (keys : List (List ℕ)) → length keys ≡ count + 1 → All IsKey keys → body ≡ flat_map key_field keys
    → (2 ≤ length body) × HasFirst (len_at body) (drop 2 body) count
first_of body count [] counted are is = absurd (omega (arith, counted))
first_of body count (key ∷ keys) counted are is =
    let few = All-head IsKey key keys are in
    let others = flat_map key_field keys in
    let split : body ≡ to_le_bytes w16 (length key) ++ (key ++ others) = is in
    let long : len_at body ≡ length key = ap len_at split ∙ little_number-reads_back 2 (length key) (key ++ others) (omega (arith, few.short)) in
    let behind : drop 2 body ≡ key ++ others = ap (drop 2) split in (
      omega (arith, ap length split),
      record {
        least = omega (arith, long, few.some);
        most = omega (arith, long, few.short);
        within = omega (arith, long, ap length behind, length-append key others);
        others = record {
          keys = keys;
          counted = omega (arith, counted);
          are_keys = record { spelled = rw (long, behind) (drop-append_seam key others); lengths = All-tail IsKey key keys are };
        };
      },
    )

pub has_first : (body : List ℕ) (count : ℕ) → HasKeys body (count + 1) → (2 ≤ length body) × HasFirst (len_at body) (drop 2 body) count
has_first body count h = first_of body count h.keys h.counted h.are_keys.lengths h.are_keys.spelled

-- a key with its length in front
pub put_first : (body : List ℕ) (count : ℕ) → IsBytes body → 2 ≤ length body → HasFirst (len_at body) (drop 2 body) count → HasKeys body (count + 1)
put_first body count bytes long first =
    let n = len_at body in
    let behind = drop 2 body in
    let key = take n behind in
    let len : length key ≡ n = omega (arith, length-take n behind, first.within) in
    record {
      keys = key ∷ first.others.keys;
      counted = omega (arith, first.others.counted);
      are_keys = record {
        spelled = split-cells 2 body long ∙ ap (λ (t : List ℕ). cells 2 0 body ++ t) (sym (take-append-drop n behind) ∙ ap (λ (t : List ℕ). key ++ t) first.others.are_keys.spelled)
            ∙ sym (two_again 0 body (length key) bytes len (key ++ flat_map key_field first.others.keys));
        lengths = All-cons IsKey key first.others.keys (record { some = omega (arith, len, first.least); short = omega (arith, len, first.most) }) first.others.are_keys.lengths;
      };
    }
