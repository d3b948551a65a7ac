use Rattle.std.proofs.Common.{length, refl, sym, ap, subst, ◌∙◌, arith}
use Rattle.key_table.specs.inside.Slots.{held, AreProbed}
use Rattle.key_table.proofs.Copied.{held_empty, probed_empty}
use Rattle.key_table.proofs.table.KeyTable.new.Goals as goal

pub invariant_of-result : goal.invariant_of-result
invariant_of-result c =
    let empty = c.clear.ensures.slots in
    record {
      probed = subst (AreProbed 1023) (sym empty) (probed_empty 1023 1088 (omega arith));
      counted = sym (ap (λ slots. length slots) (ap held empty ∙ held_empty 1088));
      within = omega arith;
      doubled = (0, refl);
      upto = c.most_of-most.ensures;
      slots_fit = omega (arith, c.in_ok-slots.ensures.exact, c.clear.ensures.capacity);
      spare_fit = omega (arith, c.in_ok-spare.ensures.exact);
      none_spare = c.in_ok-spare.ensures.items;
    }
