-- The key that stands from an offset of a body on, and the keys behind it.
use Rattle.std.proofs.Common.{◌≡◌, ℕ, ◌+◌, ◌≤◌, List, ◌∷◌, ◌++◌, length, take, drop, sym, ap, ◌∙◌, refl, arith, length-append}
use Rattle.std.specs.List.{flat_map}
use Rattle.std.specs.Int.{w16, to_le_bytes}
use Rattle.std.proofs.lemmas.List.{drop-drop, length-drop}
use Rattle.std.proofs.lemmas.List.Elements.{All-tail}
use Rattle.std.proofs.Math.Seq.{take-append_seam, drop-append_seam}
use Rattle.trace_text.specs.Operation.{part}
use Rattle.rows.specs.Spelled.{key_field, IsKey}
use Rattle.rows.specs.KeyBody.{AreKeysAt}

cut_after : (key others behind : List ℕ) (n : ℕ) → n ≡ length key → behind ≡ key ++ others
    → (n ≤ length behind) × (take n behind ≡ key) × (drop n behind ≡ others)
cut_after key others behind n long is = (
  omega (arith, long, ap length is, length-append key others),
  rw (long, is) (take-append_seam key others),
  rw (long, is) (drop-append_seam key others),
)

-- The first key of the body from an offset on stands behind its two bytes.
pub next_cut : (body : List ℕ) (at : ℕ) (key : List ℕ) (rest : List (List ℕ)) → AreKeysAt body at (key ∷ rest)
    → (part body (record { start = at + 2; len = length key }) ≡ key) × AreKeysAt body (at + 2 + length key) rest
next_cut body at key rest p =
    let others = flat_map key_field rest in
    let is : drop at body ≡ to_le_bytes w16 (length key) ++ (key ++ others) = p.rest.spelled in
    let behind : drop (at + 2) body ≡ key ++ others = sym (drop-drop 2 at body) ∙ ap (drop 2) is in
    let cut = cut_after key others (drop (at + 2) body) (length key) refl behind in (
      cut.1,
      record {
        within = omega (arith, length-drop at body, ap length is, length-append key others);
        rest = record {
          spelled = sym (drop-drop (length key) (at + 2) body) ∙ cut.2;
          lengths = All-tail IsKey key rest p.rest.lengths;
        };
      },
    )
