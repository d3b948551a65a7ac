use Rattle.std.proofs.Common.{arith}
use Rattle.foreign_list.specs.inside.Views.{holder_of}
use Rattle.foreign_list.proofs.Rules.{links}
use Rattle.foreign_list.proofs.list_table.ListTable.link.Goals as goal

pub store-requires : goal.store-requires
store-requires c = let m = c.args.pass.now.me in (
  c.requires.seat.0,
  omega (arith, c.args.self.now.counts),
  links _ c.args.pass.now.id m.0 m.1 (holder_of m.0) _ c.args.head c.requires.seat.1 c.requires.stage (omega (arith, c.requires.ticket)),
)
