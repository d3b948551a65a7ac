use Rattle.std.proofs.Common.{ℕ, [], List, length, refl, sym, ap, subst, ◌∙◌, arith}
use Rattle.key_table.specs.declared.entries.RowAt.{RowAt}
use Rattle.key_table.specs.Table.{Table}
use Rattle.key_table.specs.inside.Slots.{held, AreProbed}
use Rattle.key_table.proofs.Copied.{held_empty, probed_empty}
use Rattle.key_table.proofs.Gaps.{mask_low}
use Rattle.key_table.proofs.table.KeyTable.clear.Goals as goal

pub clear-requires-2-clause-room : goal.clear-requires-2-clause-room
clear-requires-2-clause-room c =
    let i = c.self.invariant in
    let low = mask_low i.doubled.0 in
    omega (arith, low, i.doubled.1, i.upto, i.slots_fit, c.clear.ensures.capacity)

pub invariant_of-self : goal.invariant_of-self
invariant_of-self c =
    let i = c.self.invariant in
    let empty = c.clear-2.ensures.slots in
    let low = mask_low i.doubled.0 in
    record {
      probed = subst (AreProbed 1023) (sym empty) (probed_empty 1023 1088 (omega arith));
      counted = sym (ap (λ slots. length slots) (ap held empty ∙ held_empty 1088));
      within = omega arith;
      doubled = (0, refl);
      upto = omega (arith, low, i.doubled.1, i.upto);
      slots_fit = omega (arith, i.slots_fit, c.clear.ensures.capacity, c.clear-2.ensures.capacity);
      spare_fit = i.spare_fit;
      none_spare = i.none_spare;
    }

abbrev table_of : ℕ → List RowAt → Table
table_of room kept = record { room = room; kept = kept }

pub returns : goal.returns
returns c =
    ap (λ (kept : List RowAt). table_of c.self.inside.room kept) (ap held c.clear-2.ensures.slots ∙ held_empty 1088)
    ∙ ap (λ (t : Table). table_of t.room []) c.self.view_is
