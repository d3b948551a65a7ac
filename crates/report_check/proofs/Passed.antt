-- Whether a command is left, by the first of them.
use Rattle.std.proofs.Common.{◌≡◌, ◌<◌, true, false, List, [], ◌∷◌, length, drop, Option, Some, None, arith, ap}
use Rattle.std.specs.Prelude.{is_some, IfNone, IfSome}
use Rattle.rows.specs.Operation.{Operation}

pub some-left : {X : Type 0} (o : Option X) (f : X → Operation) (left : List Operation) → IfSome o (λ x. left ≡ f x ∷ drop 1 left) → is_some o ≡ true → 0 < length left
some-left None f left is some = absurd (let clash : false ≡ true = some in cc)
some-left (Some x) f left is some = let same = ap length is in omega (arith, same)

pub none-left : {X : Type 0} (o : Option X) (left : List Operation) → IfNone o (left ≡ []) → is_some o ≡ false → left ≡ []
none-left None left is none = is
none-left (Some x) left is none = absurd (let clash : true ≡ false = none in cc)
