use Rattle.std.proofs.Common.{length, ap, ◌∙◌, arith}
use Rattle.part_examples.proofs.named_values.set_value_in_new.Goals as goal

pub set_value_in-set-requires : goal.set_value_in-set-requires
set_value_in-set-requires c =
    let many = ap (λ content. length content.0) c.in_ok-ranged.ensures.content ∙ c.in_ok-fragments.ensures.names in omega (arith, many)
