-- The bytes before the first lane that is set.
use Rattle.std.proofs.Common.{refl, arith}
use Rattle.std.proofs.lemmas.Simd.{zip2_splat, zip2_of_maps, length-chunk}
use lib.Lanes.{chunk}
use Rattle.trace_text.specs.Line.{is_value_byte}
use Rattle.trace_text.proofs.PlainText.{passes_before}
use Rattle.trace_text.proofs.plain.stops_in_block.Goals as goal

pub returns : goal.returns
returns c =
    let v = chunk c.args.at 32 c.args.text.now in
    let long = length-chunk c.args.at 32 c.args.text.now c.requires in
    passes_before is_value_byte c.args.text.now c.args.at 32 _ _ c.requires (omega arith) c.type_inv.text refl _
    (zip2_of_maps _ _ _ v (zip2_splat _ v 32 32 long) (zip2_splat _ v 32 127 long)) refl
