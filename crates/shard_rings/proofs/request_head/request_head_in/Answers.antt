use Rattle.std.proofs.Common.{sym, ap, ◌∙◌, refl, arith}
use Rattle.std.proofs.lemmas.List.{take_rest}
use Rattle.byteorder.specs.Endian.{little_number}
use Rattle.shard_rings.proofs.RequestHeads.{head_read}
use Rattle.shard_rings.proofs.request_head.request_head_in.Goals as goal

pub returns-clause-some : goal.returns-clause-some
returns-clause-some c =
    let bytes = c.args.bytes.now in
    head_read _ bytes c.if-bytes-lt-HEADER.false refl refl
    (sym (ap (little_number 4) (take_rest bytes 12)) ∙ sym c.read_u32.ensures ∙ c.if-read_u32-ne0.false)
    (c.read_u16.ensures ∙ ap (little_number 2) (take_rest bytes 2))
    (c.read_u32-2.ensures ∙ ap (little_number 4) (take_rest bytes 4))
    (c.read_u16-2.ensures ∙ ap (little_number 2) (take_rest bytes 8))
    (c.read_u16-3.ensures ∙ ap (little_number 2) (take_rest bytes 10))
    (omega (arith, c.read_u16.type_inv)) (omega (arith, c.read_u32-2.type_inv)) (omega (arith, c.read_u16-2.type_inv)) (omega (arith, c.read_u16-3.type_inv))
    (λ i. omega (arith, c.type_inv.bytes i))
