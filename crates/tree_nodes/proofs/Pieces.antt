-- Pieces of one width, joined.
use Rattle.std.proofs.Common.{◌≡◌, ℕ, ◌*◌, ◌≤◌, List, [], ◌∷◌, ◌++◌, All, length, take, drop, ap, sym, ◌∙◌, append_assoc, arith, length-append}
use Rattle.std.specs.List.{concat}
use Rattle.std.proofs.Math.Nat.{mul-suc, mul-zero}
use Rattle.std.proofs.lemmas.List.{drop_at, take-append-drop, length-take-le}
use Rattle.std.proofs.lemmas.List.Elements.{All-head, All-tail, All-take}
use Rattle.std.proofs.lemmas.List.Folds.{concat-append}

abbrev pub AreWide : ℕ → List (List ℕ) → Type 0
AreWide w pieces = All (λ piece. length piece ≡ w) pieces

pub length-concat : (w : ℕ) (pieces : List (List ℕ)) → AreWide w pieces → length (concat pieces) ≡ w * length pieces
length-concat w [] wide = sym (mul-zero w)
length-concat w (x ∷ xs) wide =
    let here = All-head (λ piece. length piece ≡ w) x xs wide in
    let behind = length-concat w xs (All-tail (λ piece. length piece ≡ w) x xs wide) in
    let both = length-append x (concat xs) in
    let more = mul-suc w (length xs) in
    omega arith

-- so many pieces in front, and the others
pub split : (i : ℕ) (pieces : List (List ℕ)) (rest : List ℕ) → concat pieces ++ rest ≡ concat (take i pieces) ++ (concat (drop i pieces) ++ rest)
split i pieces rest =
    ap (λ (p : List (List ℕ)). concat p ++ rest) (sym (take-append-drop i pieces))
    ∙ (ap (λ t. t ++ rest) (concat-append (take i pieces) (drop i pieces)) ∙ append_assoc (concat (take i pieces)) (concat (drop i pieces)) rest)

pub length_front : (w i : ℕ) (pieces : List (List ℕ)) → AreWide w pieces → i ≤ length pieces → length (concat (take i pieces)) ≡ w * i
length_front w i pieces wide within =
    length-concat w (take i pieces) (All-take (λ piece. length piece ≡ w) i pieces wide) ∙ ap (λ n. w * n) (length-take-le i pieces within)

pub behind_front : (w i : ℕ) (pieces : List (List ℕ)) (rest : List ℕ) → AreWide w pieces → i ≤ length pieces
    → drop (w * i) (concat pieces ++ rest) ≡ concat (drop i pieces) ++ rest
behind_front w i pieces rest wide within =
    ap (λ t. drop (w * i) t) (split i pieces rest) ∙ drop_at (concat (take i pieces)) (concat (drop i pieces) ++ rest) (w * i) (length_front w i pieces wide within)
