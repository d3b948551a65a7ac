use Rattle.std.proofs.Common.{◌≡◌, ℕ, suc, ◌+◌, ◌-◌, subst, arith}
use Rattle.atomic_table.specs.Table.{Allows}
use Rattle.foreign_list.specs.inside.Rule.{IsConsistent}
use Rattle.foreign_list.specs.inside.Plays.{of_owner, WalkedOn}
use Rattle.foreign_list.specs.inside.Views.{ledger_of}
use Rattle.foreign_list.proofs.Rules.{walks}
use Rattle.foreign_list.proofs.list_table.ListTable.walk_on.Goals as goal

pub load-requires : goal.load-requires
load-requires c = let m = c.args.seat.now.me in let t : ℕ = c.args.ticket in let n = c.args.self.now.table.shared.table_id.slots in let id = c.args.seat.now.id in (
  c.requires.seat.0,
  omega (arith, c.args.self.now.counts, c.requires.hand),
  subst (λ (k : ℕ). Allows IsConsistent n id (m.0, m.1) (t + 1) (λ x. x) (λ found n. of_owner (WalkedOn k) m.0 (m.0, m.1) found n))
      (let e : t ≡ t + 1 - 1 = omega arith in e)
      (walks n id m.0 m.1 (ledger_of m.0) (t + 1) t c.requires.first.0 c.requires.seat.1 (let e : t + 1 ≡ suc t = omega arith in e) c.requires.first.1 c.requires.hand.0),
)
