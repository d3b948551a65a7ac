use Rattle.std.proofs.Common.{◌≡◌, ℕ, ◌+◌, [], List, length, sym, ap, subst, ◌∙◌, arith}
use Rattle.std.proofs.lemmas.List.{nil_from_length}
use Rattle.key_table.specs.declared.entries.RowAt.{RowAt}
use Rattle.key_table.specs.Table.{Table, reach}
use Rattle.key_table.specs.inside.Slots.{held, AreProbed}
use Rattle.key_table.proofs.Copied.{held_empty, probed_empty}
use Rattle.key_table.proofs.table.KeyTable.widen.Goals as goal

pub clear-requires-2-clause-room : goal.clear-requires-2-clause-room
clear-requires-2-clause-room c = omega (arith, c.widest-mask.ensures.upto, c.self.invariant.slots_fit, c.clear.ensures.capacity)

pub invariant_of-self : goal.invariant_of-self
invariant_of-self c =
    let i = c.self.invariant in
    let mask = c.widest-mask.result in
    let empty = c.clear-2.ensures.slots in
    let none : length (held c.clear-2.new.slots.items) ≡ 0 = ap (λ slots. length (held slots)) empty ∙ ap (λ (kept : List RowAt). length kept) (held_empty (mask + 1 + reach)) in
    record {
      probed = subst (AreProbed mask) (sym empty) (probed_empty mask (mask + 1 + reach) (omega arith));
      counted = omega (arith, c.if-self-ne0.false, none);
      within = i.within;
      doubled = c.widest-mask.ensures.doubled i.doubled.0 i.doubled.1;
      upto = c.widest-mask.ensures.upto;
      slots_fit = omega (arith, i.slots_fit, c.clear.ensures.capacity, c.clear-2.ensures.capacity);
      spare_fit = i.spare_fit;
      none_spare = i.none_spare;
    }

abbrev table_of : ℕ → List RowAt → Table
table_of room kept = record { room = room; kept = kept }

-- there was no row, and there is none
pub returns : goal.returns
returns c =
    let none : held c.self.inside.slots.items ≡ [] = nil_from_length (held c.self.inside.slots.items) (omega (arith, c.if-self-ne0.false, c.self.invariant.counted)) in
    record {
      unchanged = ap (λ (kept : List RowAt). table_of c.self.inside.room kept)
          (ap held c.clear-2.ensures.slots ∙ (held_empty (c.widest-mask.result + 1 + reach) ∙ sym none))
          ∙ c.self.view_is;
    }
