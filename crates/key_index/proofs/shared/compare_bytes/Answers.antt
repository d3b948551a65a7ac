use Rattle.std.proofs.Common.{◌≡◌, ℕ, ◌-◌, List, length, take, drop, length-drop, sym, ap, ◌∙◌, arith}
use Rattle.std.specs.Ordering.{nat_cmp}
use Rattle.std.specs.Cmp.Lexicographic.{slice_cmp}
use Rattle.std.proofs.lemmas.List.{take_all}
use Rattle.key_index.proofs.Shares.{same_behind}
use Rattle.key_index.proofs.shared.compare_bytes.Goals as goal

whole : (n : ℕ) (xs : List ℕ) → take (length xs - n) (drop n xs) ≡ drop n xs
whole n xs = take_all (length xs - n) (drop n xs) (omega (arith, length-drop n xs))

pub returns-clause-order : goal.returns-clause-order
returns-clause-order c =
    let n = c.bytes_shared-shared.result in
    let a = c.args.a.now in
    let b = c.args.b.now in
    c.cmp-order.ensures
    ∙ ap (λ (xs : List ℕ). slice_cmp nat_cmp xs (take (length b - n) (drop n b))) (whole n a)
    ∙ ap (slice_cmp nat_cmp (drop n a)) (whole n b)
    ∙ sym (same_behind n a b c.bytes_shared-shared.ensures)
