-- A body spells one list of keys at most.
use Rattle.std.proofs.Common.{◌≡◌, ℕ, ◌<◌, ◌≤◌, ◌^◌, List, [], ◌∷◌, ◌++◌, length, take, drop, sym, ap, ◌∙◌, refl, arith}
use Rattle.std.specs.List.{flat_map}
use Rattle.std.specs.Int.{w16, from_le_bytes}
use Rattle.std.specs.Prelude.{All}
use Rattle.std.proofs.lemmas.List.Elements.{All-head, All-tail}
use Rattle.std.proofs.lemmas.Nat.{from_le_bytes-to_le_bytes_2}
use Rattle.std.proofs.Math.Seq.{take-append_seam, drop-append_seam}
use Rattle.rows.specs.KeyBody.{AreKeys}
use Rattle.rows.specs.Spelled.{IsKey, key_field}

length_read : (key rest : List ℕ) → length key ≤ 256 → from_le_bytes w16 (take 2 (key_field key ++ rest)) ≡ length key
length_read key rest short = let fits : length key < 2 ^ 16 = omega (arith, short) in from_le_bytes-to_le_bytes_2 (length key) fits

same_field : (key other rest others : List ℕ) → length key ≤ 256 → length other ≤ 256 → key_field key ++ rest ≡ key_field other ++ others → (key ≡ other) × (rest ≡ others)
same_field key other rest others short short' e =
    let long : length key ≡ length other = sym (length_read key rest short) ∙ ap (λ (bytes : List ℕ). from_le_bytes w16 (take 2 bytes)) e ∙ length_read other others short' in
    let behind : key ++ rest ≡ other ++ others = ap (drop 2) e in (
      sym (take-append_seam key rest) ∙ ap (take (length key)) behind ∙ ap (λ n. take n (other ++ others)) long ∙ take-append_seam other others,
      sym (drop-append_seam key rest) ∙ ap (drop (length key)) behind ∙ ap (λ n. drop n (other ++ others)) long ∙ drop-append_seam other others,
    )

same_spelled : (xs ys : List (List ℕ)) → All IsKey xs → All IsKey ys → flat_map key_field xs ≡ flat_map key_field ys → xs ≡ ys
same_spelled [] [] are are' e = refl
same_spelled [] (y ∷ ys) are are' e = absurd (omega (arith, ap length e))
same_spelled (x ∷ xs) [] are are' e = absurd (omega (arith, ap length e))
same_spelled (x ∷ xs) (y ∷ ys) are are' e =
    let same = same_field x y (flat_map key_field xs) (flat_map key_field ys) (All-head IsKey x xs are).short (All-head IsKey y ys are').short e in
    let rest : xs ≡ ys = same_spelled xs ys (All-tail IsKey x xs are) (All-tail IsKey y ys are') same.1 in
    let first : x ≡ y = same.0 in cc

pub same_keys : (body : List ℕ) (xs ys : List (List ℕ)) → AreKeys body xs → AreKeys body ys → xs ≡ ys
same_keys body xs ys p q = same_spelled xs ys p.lengths q.lengths (sym p.spelled ∙ q.spelled)
