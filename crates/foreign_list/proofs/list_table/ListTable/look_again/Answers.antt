use Rattle.std.proofs.Common.{arith}
use Rattle.foreign_list.specs.inside.Views.{holder_of}
use Rattle.foreign_list.proofs.Rules.{looks_again}
use Rattle.foreign_list.proofs.list_table.ListTable.look_again.Goals as goal

pub load-requires : goal.load-requires
load-requires c = let m = c.args.pass.now.me in (
  c.requires.seat.0,
  omega (arith, c.args.self.now.counts),
  looks_again _ c.args.pass.now.id m.0 m.1 (holder_of m.0) c.requires.seat.1 c.requires.stage.0 c.requires.stage.1,
)
