use Rattle.std.proofs.Common.{◌++◌, map, List, [], ◌∷◌, ℕ, ap, sym, ◌∙◌, append_assoc}
use Rattle.std.specs.List.{range_with_len}
use Rattle.made_trace.specs.Made.{letter}
use Rattle.made_trace.proofs.Letters.{one_letter_more}
use Rattle.made_trace.proofs.line.push_value.Goals as goal

pub loop-j-preserved : goal.loop-j-preserved
loop-j-preserved c =
    let start = c.push.new.self.items in
    let new = letter c.args.i c.loop-j.j in
    c.in_ok-push-2.ensures.items
    ∙ (ap (λ (b : ℕ). c.loop-j.text.items ++ b ∷ []) c.letter_at.ensures
    ∙ (ap (λ (text : List ℕ). text ++ new ∷ []) c.loop-j.invariant
    ∙ (append_assoc start (map (letter c.args.i) (range_with_len 0 c.loop-j.j)) (new ∷ [])
    ∙ ap (λ (more : List ℕ). start ++ more) (sym (one_letter_more c.args.i c.loop-j.j)))))
