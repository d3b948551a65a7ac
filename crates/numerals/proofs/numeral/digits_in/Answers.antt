-- What the digits so far say is too much already.
use Rattle.std.proofs.Common.{◌<◌, arith}
use Rattle.numerals.proofs.Spelled.{front_at_most}
use Rattle.numerals.proofs.numeral.digits_in.Goals as goal

pub returns-then-number-gt-GREATEST_READ : goal.returns-then-number-gt-GREATEST_READ
returns-then-number-gt-GREATEST_READ c =
    let more : 99999999 < c.loop-digit.number = grind arith in
    let said = c.loop-digit.invariant in
    let front = front_at_most c.loop-digit.digit-index c.args.field.now in
    omega (arith, more, said, front)
