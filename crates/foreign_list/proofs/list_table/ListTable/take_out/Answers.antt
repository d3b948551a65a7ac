use Rattle.std.proofs.Common.{◌∷◌, Some, sym, ap, ◌∙◌}
use Rattle.atomic_table.specs.Table.{rest}
use Rattle.foreign_list.proofs.list_table.ListTable.take_out.Goals as goal

pub exchange-requires : goal.exchange-requires
exchange-requires c = let slot = c.requires.slot in
    (c.requires.seat, (Some slot.0, slot.1 ∙ ap (λ m. (c.args.ticket, Some slot.0) ∷ rest m) (sym slot.1)))
