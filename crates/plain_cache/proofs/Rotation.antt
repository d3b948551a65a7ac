-- A row brought to the front, by a rotation of the rows up to its position.
use Rattle.std.proofs.Common.{◌≡◌, ℕ, ◌+◌, ◌-◌, ◌<◌, ◌≤◌, zero, suc, List, [], ◌∷◌, ◌++◌, length, take, drop, get_or, map, Some, arith, refl, sym, ap, ◌∙◌, add-one, append-nil, length-append, length-drop}
use Rattle.std.specs.Prelude.{All}
use Rattle.std.specs.List.{remove}
use Rattle.std.specs.Option.{IfSome}
use Rattle.std.proofs.lemmas.List.{take_all, take_at, drop_at, drop_all, take_more, length-take-le}
use Rattle.std.proofs.lemmas.List.Sorted.{IsPermutation-remove, All-permutation}
use Rattle.plain_cache.specs.declared.plain.OwnedRow.{OwnedRow}
use Rattle.rows.specs.Apply.{row_of, without, HasDistinctKeys}
use Rattle.rows.specs.Key.{Key}
use Rattle.rows.specs.Row.{Row}
use Rattle.plain_cache.specs.inside.OwnedRow.{row_in, IsPositionOf, IsSmall}

-- the rows after the first of them were written
abbrev pub written : ℕ → List OwnedRow → List OwnedRow → List OwnedRow
written len front ks = take len (front ++ drop (length front) ks ++ drop (length (front ++ drop (length front) ks)) ks)

written-is : (ks front : List OwnedRow) (n len : ℕ) → len ≡ length ks → length front ≡ n → n ≤ length ks → written len front ks ≡ front ++ drop n ks
written-is ks front n len all long within =
    let all_rows : length (front ++ drop n ks) ≡ length ks = omega (arith, length-append front (drop n ks), length-drop n ks) in
    let none : drop (length (front ++ drop n ks)) ks ≡ [] = drop_all (length (front ++ drop n ks)) ks (omega arith) in
    rw (long, none, append-nil) (take_all len (front ++ drop n ks) (omega arith))

-- the last one of the first rows goes before them
rotated-part : (ks part front : List OwnedRow) (at : ℕ) (k : OwnedRow) → at < length ks → k ≡ get_or ks at k → part ≡ take (at + 1) ks
    → front ≡ drop (length part - 1) part ++ take (length part - 1) part → front ≡ k ∷ take at ks
rotated-part ks part front at k within is part_is front_is =
    let more : part ≡ take at ks ++ k ∷ [] = part_is ∙ take_more ks at k within ∙ ap (λ x. take at ks ++ x ∷ []) (sym is) in
    let short : length (take at ks) ≡ at = length-take-le at ks (omega arith) in
    let count : length part - 1 ≡ at = rw (more, length-append) (omega arith) in
    front_is ∙ rw (count, more, drop_at (take at ks) (k ∷ []) at short, take_at (take at ks) (k ∷ []) at short) refl

pub rotated_is : (ks part front : List OwnedRow) (at len : ℕ) (k : OwnedRow) → at < length ks → k ≡ get_or ks at k → len ≡ length ks → part ≡ take (at + 1) ks
    → length front ≡ length part → front ≡ drop (length part - 1) part ++ take (length part - 1) part → written len front ks ≡ k ∷ remove ks at
rotated_is ks part front at len k within is all part_is long front_is =
    let count : length front ≡ at + 1 = long ∙ ap length part_is ∙ length-take-le (at + 1) ks (omega arith) in
    written-is ks front (at + 1) len all count (omega arith) ∙ ap (λ f. f ++ drop (at + 1) ks) (rotated-part ks part front at k within is part_is front_is)
    ∙ ap (λ n. (k ∷ take at ks) ++ drop n ks) (add-one at)

-- what the rotation leaves, by the row that was found
pub record IsRotated (key : Key) (ks rotated : List OwnedRow) (k : OwnedRow) : Type 0 where
  pub found : row_of key (map row_in ks) ≡ Some (row_in k)
  pub rows : map row_in rotated ≡ row_in k ∷ without key (map row_in ks)
  pub small : All IsSmall ks → All IsSmall rotated

pub rotated : (key : Key) (ks part front : List OwnedRow) (at len : ℕ) → IsPositionOf key ks at → HasDistinctKeys (map row_in ks)
    → len ≡ length ks → part ≡ take (at + 1 - 0) ks → length front ≡ length part → front ≡ drop (length part - 1) part ++ take (length part - 1) part
    → (k : OwnedRow) × IsRotated key ks (written len front ks) k
rotated key [] part front at len position are all part_is long front_is = let none : at < 0 = position.within in absurd (omega arith)
rotated key (first ∷ ks) part front at len position are all part_is long front_is =
    let rows = first ∷ ks in
    let k = get_or rows at first in
    let within : at < length rows = position.within in
    let same = same_item rows at first first within in
    let count : at + 1 - 0 ≡ at + 1 = omega arith in
    let is = rotated_is rows part front at len k within same all (part_is ∙ ap (λ n. take n rows) count) long front_is in (
      k,
      record {
        found = position.row first;
        rows = ap (map row_in) is ∙ ap (λ rs. row_in k ∷ rs) (position.others are);
        small = λ small. rw is (All-permutation IsSmall rows (k ∷ remove rows at) (IsPermutation-remove rows at k within same) small);
      },
    )
  where
    same_item : (xs : List OwnedRow) (i : ℕ) (d e : OwnedRow) → i < length xs → get_or xs i d ≡ get_or xs i (get_or xs i e)
    same_item [] i d e inside = absurd (omega arith)
    same_item (x ∷ xs) zero d e inside = refl
    same_item (x ∷ xs) (suc i) d e inside = same_item xs i d e (omega arith)

pub rotated_rows : (key : Key) (ks rotated : List OwnedRow) (k : OwnedRow) → IsRotated key ks rotated k
    → IfSome (row_of key (map row_in ks)) (λ row. map row_in rotated ≡ row ∷ without key (map row_in ks))
rotated_rows key ks rotated k is = rw is.found is.rows

-- a row that was found, in front of the others
abbrev pub BroughtStays : Type 0
BroughtStays = (key : Key) (cache : List Row) (row : Row) → row_of key cache ≡ Some row → HasDistinctKeys cache → HasDistinctKeys (row ∷ without key cache)

pub rotated_distinct : BroughtStays → (key : Key) (ks rotated : List OwnedRow) (k : OwnedRow) → IsRotated key ks rotated k → HasDistinctKeys (map row_in ks)
    → HasDistinctKeys (map row_in rotated)
rotated_distinct stays key ks rotated k is are = rw is.rows (stays key (map row_in ks) (row_in k) is.found are)
