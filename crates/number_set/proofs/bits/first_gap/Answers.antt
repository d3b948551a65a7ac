use Rattle.std.proofs.Common.{◌*◌, inl, inr, arith}
use Rattle.std.proofs.lemmas.Bool.{cases_lt}
use Rattle.number_set.proofs.WordBits.{full-word}
use Rattle.number_set.proofs.bits.first_gap.Goals as goal

pub loop-index-preserved : goal.loop-index-preserved
loop-index-preserved c m low =
    let i = c.loop-index.index in
    elim (cases_lt m (64 * i)) [
      | inl before ↦ c.loop-index.invariant m before
      | inr here ↦ full-word c.args.words.now i m c.if-word.false (omega (arith, low, here))
    ]
