use Rattle.std.proofs.Common.{◌≡◌, ℕ, suc, ◌+◌, [], arith}
use Rattle.foreign_list.specs.inside.Views.{ledger_of}
use Rattle.foreign_list.proofs.Rules.{goes_home}
use Rattle.foreign_list.proofs.list_table.ListTable.put_home.Goals as goal

pub load-requires : goal.load-requires
load-requires c = let m = c.args.seat.now.me in let t : ℕ = c.args.ticket in (
  c.requires.seat.0,
  omega (arith, c.args.self.now.counts, c.requires.hand),
  goes_home _ c.args.seat.now.id m.0 m.1 (ledger_of m.0) (t + 1) t [] c.requires.seat.1 (let e : t + 1 ≡ suc t = omega arith in e) c.requires.hand.0 c.requires.slot,
)
