use Rattle.std.proofs.Common.{◌+◌, sym, ap, subst, ◌∙◌, refl, arith}
use Rattle.common_lemmas.specs.Lists.{times}
use Rattle.key_table.specs.Table.{rows_of, reach}
use Rattle.key_table.specs.inside.Slots.{held, IsHeld, AreProbed}
use Rattle.key_table.proofs.Copied.{held_empty, none_held, probed_empty, rows_more, rows_none, within_more}
use Rattle.key_table.proofs.slots.put_all.Goals as goal

pub loop-at-init : goal.loop-at-init
loop-at-init c =
    let empty = c.clear.ensures.slots in
    let count = c.args.mask + 1 + reach in
    record {
      probed = subst (AreProbed c.args.mask) (sym empty) (probed_empty c.args.mask count (omega arith));
      rows = λ n. sym (ap (λ slots. times n (rows_of slots)) (ap held empty ∙ held_empty count));
      inside = λ k h. absurd (none_held count k (subst (λ slots. IsHeld slots k) empty h));
      capacity = c.clear.ensures.capacity;
    }

pub loop-at-preserved-then-slot : goal.loop-at-preserved-then-slot
loop-at-preserved-then-slot c =
    let inv = c.loop-at.invariant in
    record {
      probed = inv.probed;
      rows = rows_none c.args.from.now.items c.loop-at.slots.items c.loop-at.at c.slot_at-slot.result (omega arith) c.slot_at-slot.ensures c.if-slot.true inv.rows;
      inside = inv.inside;
      capacity = inv.capacity;
    }

pub loop-at-preserved : goal.loop-at-preserved
loop-at-preserved c =
    let inv = c.loop-at.invariant in
    record {
      probed = c.put.ensures.probed;
      rows = rows_more c.args.from.now.items c.loop-at.slots.items c.put.new.slots.items c.loop-at.at c.slot_at-slot.result (omega arith) c.slot_at-slot.ensures c.if-slot.false inv.rows (c.if-not-put.ensures.rows refl);
      inside = within_more c.args.from.now.items c.loop-at.slots.items c.put.new.slots.items c.loop-at.at c.slot_at-slot.result c.slot_at-slot.ensures inv.inside c.put.ensures.within;
      capacity = omega arith;
    }
