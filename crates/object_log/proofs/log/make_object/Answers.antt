use Rattle.std.proofs.Common.{ℕ, List, ◌++◌, ap, ◌∙◌, arith}
use Rattle.object_log.specs.Contents.{bytes_of, padded}
use Rattle.object_log.specs.inside.Made.{descriptor_bytes}
use Rattle.object_log.proofs.log.make_object.Goals as goal

pub make_content-requires : goal.make_content-requires
make_content-requires c = let long = c.split_at_mut-descriptor.ensures.back_len in omega (arith, long, c.requires.size, c.requires.content)

pub returns : goal.returns
returns c =
    let a = c.args in let s = c.split_at_mut-descriptor.ensures in
    ap (λ (d : List ℕ). d ++ c.make_content.new.bytes) (c.copy_from_slice.ensures.after ∙ (c.as_slice.ensures ∙ c.descriptor_of.ensures))
    ∙ ap (λ (t : List ℕ). descriptor_bytes a.kind a.size ++ t)
    (c.make_content.ensures ∙ ap (λ (n : ℕ). padded n (bytes_of a.content)) (let long = s.back_len in omega (arith, long, c.requires.size)))
