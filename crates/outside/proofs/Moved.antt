-- What several reads took and several writes appended, in one.
use Rattle.std.proofs.Common.{◌≡◌, ℕ, ◌+◌, ◌≤◌, List, None, Some, Option, sym, subst, arith, length, length-append, take, drop}
use Rattle.std.proofs.Math.Seq.{take-add}
use Rattle.std.specs.Io.KnownBytes.{Appends, Consumes}
use Rattle.std.proofs.KnownBytes.{Appends-trans, Consumes-trans}
use Rattle.outside.specs.Moves.{ConsumesExactly}

-- ---- reads

-- the first f bytes were taken, and then the n bytes behind them
pub Consumes-grown : (a b c : Option (List ℕ)) (old new : List ℕ) (f n : ℕ) → take f new ≡ take f old
    → Consumes a b (take f old) → Consumes b c (take n (drop f new)) → Consumes a c (take (f + n) new)
Consumes-grown a b c old new f n same first next =
    subst (Consumes a c) (sym (take-add f n new)) (Consumes-trans a b c (take f new) (take n (drop f new)) (subst (Consumes a b) (sym same) first) next)

-- what n bytes were taken of has no fewer
pub ConsumesExactly-length : (left : List ℕ) (b : Option (List ℕ)) (n : ℕ) → ConsumesExactly (Some left) b n → n ≤ length left
ConsumesExactly-length left None n (front, long, took) = absurd took
ConsumesExactly-length left (Some rest) n (front, long, took) = rw (took, length-append) (omega (arith, long))

-- ---- writes

-- the first n bytes were appended, and then m of those behind them
pub Appends-grown : (a b c : Option (List ℕ)) (piece : List ℕ) (n m : ℕ) → Appends a b (take n piece)
    → Appends b c (take m (drop n piece)) → Appends a c (take (n + m) piece)
Appends-grown a b c piece n m first next =
    subst (Appends a c) (sym (take-add n m piece)) (Appends-trans a b c (take n piece) (take m (drop n piece)) first next)
