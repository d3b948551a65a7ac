-- A number is spelled by its digits alone.
use Rattle.std.proofs.Common.{◌≡◌, ◌&&◌, leb, sym, ap, ◌∙◌}
use Rattle.std.specs.Fmt.{decimal}
use Rattle.std.specs.Str.{bytes_eq}
use Rattle.std.proofs.lemmas.Bool.{and_parts, leb-true}
use Rattle.std.proofs.lemmas.Option.{cond_some}
use Rattle.std.proofs.lemmas.Slice.Eq.{bytes_eq-Decides}
use Rattle.numerals.specs.Numeral.{digits_in}
use Rattle.report_check.proofs.Spelling.{SpelledOnce}

pub once : SpelledOnce
once greatest n field found =
    let parts = cond_some (leb (digits_in field) greatest && bytes_eq (decimal (digits_in field)) field) (digits_in field) n found in
    let tests = and_parts (leb (digits_in field) greatest) (bytes_eq (decimal (digits_in field)) field) parts.0 in
    let same : decimal (digits_in field) ≡ field = (bytes_eq-Decides (decimal (digits_in field)) field).0 tests.1 in
    (sym same ∙ ap decimal parts.1, rw (← parts.1) (leb-true (digits_in field) greatest tests.0))
