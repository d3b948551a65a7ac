-- The digits of a number say it.
use Rattle.std.proofs.Common.{◌≡◌, ℕ, ◌+◌, ◌-◌, ◌*◌, ◌%◌, ◌^◌, ◌<◌, ◌≤◌, true, ◌&&◌, leb, List, [], ◌∷◌, take, drop, Some, None, arith, refl, sym, ap, ◌∙◌}
use Rattle.std.specs.Prelude.{decimal}
use Rattle.std.specs.List.{fold}
use Rattle.std.specs.Str.{bytes_eq}
use Rattle.std.proofs.lemmas.Bool.{le-leb, leb-true, lt-leb, and_parts}
use Rattle.std.proofs.lemmas.Fmt.{decimal_by_steps}
use Rattle.std.proofs.lemmas.List.{take-append-drop}
use Rattle.std.proofs.lemmas.List.Sums.{fold-append}
use Rattle.std.proofs.lemmas.Option.{cond_some}
use Rattle.std.proofs.lemmas.Slice.Eq.{bytes_eq-Decides}
use Rattle.numerals.specs.Numeral.{digits_in, number_of}

abbrev with_digit : ℕ → ℕ → ℕ
with_digit n b = n * 10 + (b - 48)

-- more digits say no less
grows : (digits : List ℕ) (n : ℕ) → n ≤ fold with_digit n digits
grows [] n = omega arith
grows (b ∷ digits) n = let more = grows digits (n * 10 + (b - 48)) in omega (arith, more)

pub front_at_most : (i : ℕ) (field : List ℕ) → digits_in (take i field) ≤ digits_in field
front_at_most i field =
    let all : digits_in field ≡ fold with_digit (digits_in (take i field)) (drop i field) =
    ap digits_in (sym (take-append-drop i field)) ∙ fold-append with_digit 0 (take i field) (drop i field) in
    rw all (grows (drop i field) (digits_in (take i field)))

abbrev Says : ℕ → List ℕ → Type 0
Says n digits = digits_in digits ≡ n

pub decimal_says : (n : ℕ) → n < 2 ^ 64 → digits_in (decimal n) ≡ n
decimal_says n fits =
    decimal_by_steps Says (λ m small. omega (arith, small))
    (λ m digits more said. fold-append with_digit 0 digits ((48 + m % 10) ∷ []) ∙ (rw said (omega arith))) n fits

-- a field that says more than each number that is read spells none
pub none_greater : (greatest : ℕ) (field : List ℕ) → greatest ≤ 99999999 → 99999999 < digits_in field → number_of greatest field ≡ None
none_greater greatest field most more = rw (lt-leb (digits_in field) greatest (omega (arith, most, more))) refl

pub spelled : (greatest n : ℕ) → greatest < 2 ^ 32 → n ≤ greatest → number_of greatest (decimal n) ≡ Some n
spelled greatest n few le =
    let says = decimal_says n (omega (arith, few, le)) in
    let same : bytes_eq (decimal n) (decimal n) ≡ true = (bytes_eq-Decides (decimal n) (decimal n)).1 refl in
    rw (says, le-leb n greatest le, same) refl

pub once : (greatest n : ℕ) (field : List ℕ) → number_of greatest field ≡ Some n → (field ≡ decimal n) × (n ≤ greatest)
once greatest n field found =
    let parts = cond_some (leb (digits_in field) greatest && bytes_eq (decimal (digits_in field)) field) (digits_in field) n found in
    let tests = and_parts (leb (digits_in field) greatest) (bytes_eq (decimal (digits_in field)) field) parts.0 in
    let same : decimal (digits_in field) ≡ field = (bytes_eq-Decides (decimal (digits_in field)) field).0 tests.1 in
    (sym same ∙ ap decimal parts.1, rw (← parts.1) (leb-true (digits_in field) greatest tests.0))
