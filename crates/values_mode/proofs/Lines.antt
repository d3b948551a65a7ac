-- The lines of values, and what a read finds.
use Rattle.std.proofs.Common.{◌≡◌, ℕ, List, ◌++◌, Option, None, Some, sym, ap, ◌∙◌, append_assoc}
use Rattle.std.specs.Prelude.{MatchOption, option_map, decimal, codes}
use Rattle.values_mode.specs.Text as texts
use Rattle.values_mode.specs.Text.{answer_line}

pub value_line : (number len : ℕ) (part : List ℕ)
    → ((((decimal number ++ codes " value ") ++ decimal len) ++ codes " ") ++ part) ++ codes "\n" ≡ answer_line number (texts.Value len part)
value_line number len part =
    let word : List ℕ = codes " value " in
    ap (λ l. l ++ codes "\n") (
    ap (λ l. (l ++ codes " ") ++ part) (append_assoc (decimal number) word (decimal len))
    ∙ ap (λ l. l ++ part) (append_assoc (decimal number) (word ++ decimal len) (codes " "))
    ∙ append_assoc (decimal number) ((word ++ decimal len) ++ codes " ") part
    ∙ sym (append_assoc (decimal number) (codes " ") (((codes "value " ++ decimal len) ++ codes " ") ++ part)))

pub found_is : {A : Type 0} (f : A → List ℕ) (found : Option A) (value : Option (List ℕ)) → MatchOption found (value ≡ None) (λ x. value ≡ Some (f x)) → option_map f found ≡ value
found_is f None value is = sym is
found_is f (Some x) value is = sym is
