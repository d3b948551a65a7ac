use Rattle.std.proofs.Common.{ℕ, List, ◌++◌, length, ap, ◌∙◌, arith}
use Rattle.object_log.proofs.Contents.{runs_padded}
use Rattle.object_log.proofs.log.make_content.Goals as goal

pub make_last-requires : goal.make_last-requires
make_last-requires c =
    let one = c.split_at_mut-header.ensures.back_len in let two = c.split_at_mut-first.ensures.back_len in omega (arith, one, two, c.requires)

pub returns : goal.returns
returns c =
    let runs = c.args.content in let one = c.split_at_mut-header.ensures.back_len in let two = c.split_at_mut-first.ensures.back_len in
    let rest = length c.split_at_mut-first.result.1.now in
    ap (λ (h : List ℕ). h ++ (c.copy_from_slice-2.new.self ++ c.make_last.new.bytes)) c.copy_from_slice.ensures.after
    ∙ ap (λ (f : List ℕ). runs.header.now ++ (f ++ c.make_last.new.bytes)) c.copy_from_slice-2.ensures.after
    ∙ ap (λ (t : List ℕ). runs.header.now ++ (runs.first.now ++ t)) c.make_last.ensures
    ∙ runs_padded runs.header.now runs.first.now runs.second.now (length c.args.bytes.now) rest (omega (arith, one, two)) (omega (arith, one, two, c.requires))
