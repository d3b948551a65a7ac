use Rattle.std.proofs.Common.{arith}
use Rattle.foreign_list.specs.inside.Views.{ledger_of}
use Rattle.foreign_list.proofs.Rules.{sees}
use Rattle.foreign_list.proofs.list_table.ListTable.see_head.Goals as goal

pub load-requires : goal.load-requires
load-requires c = let m = c.args.seat.now.me in (
  c.requires.seat.0,
  omega (arith, c.args.self.now.counts),
  sees _ c.args.seat.now.id m.0 m.1 (ledger_of m.0) c.requires.seat.1 c.requires.walk.0 c.requires.walk.1,
)
