-- What `parse` reads of a number.
use Rattle.std.proofs.Common.{◌≡◌, ◌&&◌, ℕ, ◌<◌, ◌≤◌, true, List, length, Result, arith, refl, ltb, leb, rules}
use Rattle.std.specs.Char.{is_ascii_digit}
use Rattle.std.specs.List.{list_all}
use Rattle.std.specs.Result.{result_ok}
use Rattle.std.specs.Str.Parse.{ParsesUnsigned, digits_value}
use Rattle.std.proofs.lemmas.Bool.{and_parts}
use Rattle.std.proofs.lemmas.Bool.Decides.{nat_tests}
use Rattle.std.proofs.lemmas.Str.Parse.{IsNumeralModel, digits_value_short, numerals_by_value, parse_gives}
use Rattle.settings.specs.Settings.{is_number, number_of}

own : IsNumeralModel (λ ds. list_all is_ascii_digit ds ≡ true) (digits_value 10)
own = numerals_by_value _ (search rules)

pub parsed : {E : Type 0} (text : List ℕ) (read : Result ℕ E) → ParsesUnsigned 64 10 text read → is_number text ≡ true
    → result_ok read ≡ number_of text
parsed text read gives is =
    let parts = and_parts (ltb 0 (length text) && leb (length text) 10) (list_all is_ascii_digit text) is in
    let lengths = and_parts (ltb 0 (length text)) (leb (length text) 10) parts.0 in
    let some : 0 < length text = grind (arith, nat_tests, lengths.0) in
    let few : length text ≤ 10 = grind (arith, nat_tests, lengths.1) in
    let small = digits_value_short own text 10 parts.1 few in
    rw (is, parse_gives own 64 text read gives parts.1 some (omega (arith, small))) refl
