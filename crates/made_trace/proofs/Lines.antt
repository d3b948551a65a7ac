-- The lines that are left, one by one.
use Rattle.std.proofs.Common.{◌≡◌, ℕ, suc, ◌+◌, ◌-◌, ◌<◌, List, [], ◌++◌, ap, sym, ◌∙◌, append_assoc, arith}
use Rattle.rand_pcg.specs.Lcg.{Lcg}
use Rattle.made_trace.specs.Made.{made_from, made_line, behind_line}

pub one_line : (n i : ℕ) (words : Lcg) → i < n
    → made_from (n - i) (i + 1) words ≡ made_line (i + 1) words ++ made_from (n - (i + 1)) (i + 1 + 1) (behind_line words)
one_line n i words within =
    let left : n - i ≡ suc (n - (i + 1)) = omega (arith, within) in
    ap (λ k. made_from k (i + 1) words) left

pub no_line : (n i : ℕ) (words : Lcg) → n ≡ i → made_from (n - i) (i + 1) words ≡ []
no_line n i words done =
    let left : n - i ≡ 0 = omega (arith, done) in
    ap (λ k. made_from k (i + 1) words) left

pub line_added : (text line new rest : List ℕ) (all left : List ℕ) → text ++ left ≡ all → left ≡ line ++ rest → new ≡ text ++ line → new ++ rest ≡ all
line_added text line new rest all left text_is split added =
    ap (λ t. t ++ rest) added ∙ (append_assoc text line rest ∙ (ap (λ l. text ++ l) (sym split) ∙ text_is))
