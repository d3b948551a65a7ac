use Rattle.std.proofs.Common.{arith}
use Rattle.foreign_list.specs.inside.Views.{ledger_of}
use Rattle.foreign_list.proofs.Rules.{lends}
use Rattle.foreign_list.proofs.list_table.ListTable.split.Goals as goal

pub split_seat-requires : goal.split_seat-requires
split_seat-requires g c = let m = c.args.seat.now.me in (
  c.requires.seat.0,
  omega (arith, c.args.self.now.counts),
  lends c.args.seat.now.id m.0 (ledger_of m.0) g.L.Lending.ticket g.L.Lending.piece_id c.requires.seat.1 (rw c.requires.what.0 c.requires.idle),
)
