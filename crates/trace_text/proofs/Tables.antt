-- The table that a field spells.
use Rattle.std.proofs.Common.{◌≡◌, ℕ, ◌+◌, ◌-◌, ◌<◌, ◌≤◌, ◌&&◌, cond, eqb, leb, ltb, true, false, List, [], ◌∷◌, Some, None, arith, refl, sym, ap, ◌∙◌, inl, inr}
use Rattle.std.specs.Prelude.{decimal}
use Rattle.std.specs.Str.{bytes_eq}
use Rattle.std.proofs.lemmas.Bool.{and_from, and_left, and_right, cases_lt, cond-false, cond-true, le-leb, le-ltb, lt-leb, lt-ltb, ne_eqb}
use Rattle.std.proofs.lemmas.Fmt.{decimal_digit}
use Rattle.std.proofs.lemmas.Slice.Eq.{bytes_eq-Decides}
use Rattle.layout.specs.Sizes.{tables}
use Rattle.trace_text.specs.Line.{table_of}
use Rattle.trace_text.specs.inside.Found.{digits_in}
use Rattle.trace_text.specs.inside.Version.{table_in, table_spelled}
use Rattle.trace_text.proofs.Counts.{digits_of, find_range, within}

-- the digits of a field say the one table that it can spell
table_found : (field : List ℕ)
    → table_of field ≡ cond (within 0 tables (digits_in field) && bytes_eq (decimal (digits_in field)) field) (Some (digits_in field)) None
table_found field = find_range (λ n. bytes_eq (decimal n) field) (digits_in field) 0 tables
    (λ m low high e. sym (digits_of m (omega arith)) ∙ ap digits_in ((bytes_eq-Decides (decimal m) field).0 e))

no_table : (field : List ℕ) (n : ℕ) → n ≡ digits_in field → (n < tables → bytes_eq ((48 + n) ∷ []) field ≡ false) → table_of field ≡ None
no_table field n e other = elim (cases_lt n tables) [
  | inl below ↦
      let spelled : bytes_eq (decimal n) field ≡ false = ap (λ text. bytes_eq text field) (decimal_digit n (omega (arith, below))) ∙ other below in
      let none : bytes_eq (decimal (digits_in field)) field ≡ false = ap (λ m. bytes_eq (decimal m) field) (sym e) ∙ spelled in
      table_found field ∙ cond-false _ _ _ (and_right (within 0 tables (digits_in field)) _ none)
  | inr past ↦
      let out : within 0 tables n ≡ false = and_right (leb 0 n) (ltb n (0 + tables)) (le-ltb n tables past) in
      table_found field ∙ cond-false _ _ _ (and_left (within 0 tables (digits_in field)) _ (ap (within 0 tables) (sym e) ∙ out))
]

a_table : (a : ℕ) → 48 ≤ a → a < 56 → table_of (a ∷ []) ≡ Some (a - 48)
a_table a high below =
    let same : 48 + (a - 48) ≡ a = omega arith in
    let spelled : decimal (a - 48) ≡ a ∷ [] = decimal_digit (a - 48) (omega arith) ∙ ap (λ b. b ∷ []) same in
    let is : bytes_eq (decimal (a - 48)) (a ∷ []) ≡ true = (bytes_eq-Decides (decimal (a - 48)) (a ∷ [])).1 spelled in
    let in_range : within 0 tables (a - 48) ≡ true =
    and_from (leb 0 (a - 48)) (ltb (a - 48) (0 + tables)) (le-leb 0 (a - 48) (omega arith)) (lt-ltb (a - 48) (0 + tables) (omega arith)) in
    table_found (a ∷ []) ∙ cond-true _ _ _ (and_from (within 0 tables (a - 48)) (bytes_eq (decimal (a - 48)) (a ∷ [])) in_range is)

in_table_range : (a : ℕ) → 48 ≤ a → a < 56 → table_in a ≡ Some (a - 48)
in_table_range a high below =
    cond-true (leb 48 a && leb a 55) (Some (a - 48)) None (and_from (leb 48 a) (leb a 55) (le-leb 48 a high) (le-leb a 55 (omega (arith, below))))

below_tables : (a : ℕ) → a < 48 → table_in a ≡ None
below_tables a low = cond-false (leb 48 a && leb a 55) (Some (a - 48)) None (and_left (leb 48 a) (leb a 55) (lt-leb 48 a low))

above_tables : (a : ℕ) → 56 ≤ a → table_in a ≡ None
above_tables a past = cond-false (leb 48 a && leb a 55) (Some (a - 48)) None (and_right (leb 48 a) (leb a 55) (lt-leb a 55 (omega (arith, past))))

one_byte : (a : ℕ) → table_of (a ∷ []) ≡ table_in a
one_byte a = elim (cases_lt a 48) [
  | inl low ↦
      let other : bytes_eq (48 ∷ []) (a ∷ []) ≡ false = and_left (eqb 48 a) true (ne_eqb 48 a (λ same. omega (arith, same, low))) in
      let none : 0 ≡ a - 48 = omega (arith, low) in
      no_table (a ∷ []) 0 none (λ below. other) ∙ sym (below_tables a low)
  | inr high ↦ elim (cases_lt a 56) [
    | inl below ↦ a_table a high below ∙ sym (in_table_range a high below)
    | inr past ↦ no_table (a ∷ []) (a - 48) refl (λ below. absurd (omega (arith, below, past))) ∙ sym (above_tables a past)
  ]
]

pub table_of_is : (field : List ℕ) → table_of field ≡ table_spelled field
table_of_is [] = no_table [] 0 refl (λ below. refl)
table_of_is (a ∷ []) = one_byte a
table_of_is (a ∷ b ∷ rest) = no_table (a ∷ b ∷ rest) (digits_in (a ∷ b ∷ rest)) refl (λ below. and_right (eqb (48 + digits_in (a ∷ b ∷ rest)) a) false refl)
