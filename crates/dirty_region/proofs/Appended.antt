-- What several writes appended, in one.
use Rattle.std.proofs.Common.{◌≡◌, ℕ, ◌+◌, ◌-◌, ◌≤◌, List, Option, sym, ap, subst, ◌∙◌, arith, take, drop}
use Rattle.std.proofs.Math.Seq.{take-add}
use Rattle.std.proofs.lemmas.List.{drop-drop}
use Rattle.std.specs.Io.KnownBytes.{Appends}
use Rattle.std.proofs.KnownBytes.{Appends-trans}

-- of the bytes behind the first ones some were appended, and then more of those behind them
pub appended_more : (a b c : Option (List ℕ)) (bytes : List ℕ) (from at more : ℕ) → from ≤ at → Appends a b (take (at - from) (drop from bytes)) → Appends b c (take more (drop at bytes))
    → Appends a c (take (at + more - from) (drop from bytes))
appended_more a b c bytes from at more low first next =
    let piece = drop from bytes in let n = at - from in
    let same : drop n piece ≡ drop at bytes = drop-drop n from bytes ∙ ap (λ k. drop k bytes) (let e : from + n ≡ at = omega (arith, low) in e) in
    let whole : n + more ≡ at + more - from = omega (arith, low) in
    subst (λ k. Appends a c (take k piece)) whole
    (subst (Appends a c) (sym (take-add n more piece)) (Appends-trans a b c (take n piece) (take more (drop n piece)) first (subst (λ rest. Appends b c (take more rest)) (sym same) next)))
