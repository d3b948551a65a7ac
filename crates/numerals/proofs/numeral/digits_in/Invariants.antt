-- What the digits so far say.
use Rattle.std.proofs.Common.{◌≡◌, take}
use Rattle.numerals.specs.Numeral.{digits_in}
use Rattle.numerals.proofs.numeral.digits_in.Given as goal

abbrev pub invariant-loop-digit : goal.invariant-loop-digit
invariant-loop-digit l = l.number ≡ digits_in (take l.digit-index l.field)
