-- What is found in a list, where a fact holds of each element.
use Rattle.std.proofs.Common.{◌≡◌, Bool, true, false, cond, List, [], ◌∷◌, Option, Some, subst}
use Rattle.std.specs.List.{find}
use Rattle.std.specs.Prelude.{All}
use Rattle.std.proofs.lemmas.List.Elements.{All-head, All-tail}

found-keeps : {X : Type 0} (P : X → Type 0) (b : Bool) (x found : X) (o : Option X) → P x → (o ≡ Some found → P found) → cond b (Some x) o ≡ Some found → P found
found-keeps P true x found o here later e = let same : x ≡ found = cc in subst P same here
found-keeps P false x found o here later e = later e

pub All-find : {X : Type 0} (P : X → Type 0) (test : X → Bool) (xs : List X) (found : X) → All P xs → find test xs ≡ Some found → P found
All-find P test [] found all e = cc
All-find P test (x ∷ xs) found all e =
    found-keeps P (test x) x found (find test xs) (All-head P x xs all) (All-find P test xs found (All-tail P x xs all)) e
