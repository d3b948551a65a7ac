use Rattle.std.proofs.Common.{sym, ap, ◌∙◌, arith}
use Rattle.std.proofs.lemmas.List.{take_rest}
use Rattle.byteorder.specs.Endian.{little_number}
use Rattle.shard_rings.proofs.Headers.{head_read}
use Rattle.shard_rings.proofs.head.head_of.Goals as goal

pub returns-clause-some : goal.returns-clause-some
returns-clause-some c =
    let header = c.args.header.now in
    head_read _ header (omega arith) c.in_ok-kind.ensures.some c.if-header-ne0.false
    (sym (ap (little_number 4) (take_rest header 12)) ∙ sym c.read_u32.ensures ∙ c.if-read_u32-ne0.false)
    (c.read_u16.ensures ∙ ap (little_number 2) (take_rest header 2))
    (c.read_u32-2.ensures ∙ ap (little_number 4) (take_rest header 4))
    (c.read_u32-3.ensures ∙ ap (little_number 4) (take_rest header 8))
    (omega (arith, c.read_u16.type_inv)) (omega (arith, c.read_u32-2.type_inv)) (omega (arith, c.read_u32-3.type_inv))
    (λ i. omega (arith, c.type_inv.header i))
