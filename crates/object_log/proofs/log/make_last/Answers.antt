use Rattle.std.proofs.Common.{ℕ, List, ◌++◌, replicate, ap, ◌∙◌, arith}
use Rattle.object_log.proofs.log.make_last.Goals as goal

pub returns : goal.returns
returns c =
    let long = c.split_at_mut-front.ensures.back_len in
    ap (λ (f : List ℕ). f ++ c.clear.new.bytes) c.copy_from_slice.ensures.after
    ∙ ap (λ (t : List ℕ). c.args.last.now ++ t) (c.clear.ensures ∙ ap (λ (n : ℕ). replicate n 0) (omega (arith, long)))
