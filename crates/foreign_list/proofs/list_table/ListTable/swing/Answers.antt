use Rattle.std.proofs.Common.{[], ◌∷◌, Some, ◌∙◌, arith}
use Rattle.foreign_list.specs.inside.Views.{holder_of}
use Rattle.foreign_list.proofs.Rules.{swings}
use Rattle.foreign_list.proofs.list_table.ListTable.swing.Goals as goal

pub compare_exchange-requires : goal.compare_exchange-requires
compare_exchange-requires c = let m = c.args.pass.now.me in let piece = c.requires.piece in (
  c.requires.seat.0,
  omega (arith, c.args.self.now.counts),
  swings _ c.args.pass.now.id m.0 m.1 (holder_of m.0) c.args.head _ piece.0 [] c.requires.seat.1 c.requires.stage (omega (arith, c.requires.ticket))
      (piece.1 ∙ (λ i. (c.requires.ticket.0 i, Some piece.0) ∷ [])) piece.2,
)
