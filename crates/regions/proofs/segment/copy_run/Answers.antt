use Rattle.std.proofs.Common.{◌≡◌, ◌+◌, ◌-◌, ◌++◌, length, take, drop, sym, ap, ◌∙◌, append_assoc, arith}
use Rattle.std.proofs.Common.{length-take-le, length-drop}
use Rattle.regions.proofs.segment.copy_run.Goals as goal

pub returns : goal.returns
returns c =
    let b = c.args.bytes.now in let from = c.args.from in let len = c.args.len in let to = c.args.to in
    let rest = length-drop from b in
    let long : length (take len (drop from b)) ≡ len = length-take-le len (drop from b) (omega (arith, rest, c.requires.from)) in
    let span : (from + len) - from ≡ len = omega arith in
    c.copy_within.ensures.after ∙ ap (λ n. (take to b ++ take n (drop from b)) ++ drop (to + n) b) span
    ∙ append_assoc (take to b) (take len (drop from b)) (drop (to + len) b) ∙ ap (λ n. take to b ++ (take len (drop from b) ++ drop (to + n) b)) (sym long)
