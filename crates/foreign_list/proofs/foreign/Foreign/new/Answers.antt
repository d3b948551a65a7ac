use Rattle.std.proofs.Common.{List, Option, None, replicate, refl, sym, ap, subst, arith}
use Rattle.std.specs.Prelude.{All, IsNone}
use Rattle.std.proofs.lemmas.List.{length-replicate}
use Rattle.std.proofs.lemmas.List.Elements.{All-replicate}
use Rattle.std.proofs.lemmas.Nat.Bits.{bit_at_ones}
use Rattle.layout.specs.Sizes as sizes
use Rattle.raw_range.specs.Memory.{PieceSite}
use Rattle.foreign_list.specs.declared.piece_id.PieceId.{PieceId}
use Rattle.foreign_list.specs.inside.Views.{ledger_of, idle_ledger}
use Rattle.foreign_list.specs.inside.Seats.{IsConsistentSeat}
use Rattle.foreign_list.proofs.OwnerSteps.{fresh_within}
use Rattle.foreign_list.proofs.Seating.{owner_seat, none_lent}
use Rattle.foreign_list.proofs.foreign.Foreign.new.Goals as goal

pub returns-clause-rest : goal.returns-clause-rest
returns-clause-rest c =
    let at = c.in_ok-table.ensures in record {
      seat_of = at.0;
      idle = subst (λ (lent : List (Option PieceId)). All IsNone lent) (sym (ap (λ m. (ledger_of m.0).lent) at.1)) (All-replicate IsNone sizes.tickets None refl);
      walk = ap (λ m. (ledger_of m.0).walk) at.1;
    }

pub invariant_of-result : goal.invariant_of-result
invariant_of-result c =
    let at = c.in_ok-table.ensures in
    subst (λ sites. IsConsistentSeat c.in_ok-table.seat 18446744073709551615 0 sites) (sym c.in_ok-sites.ensures)
    (owner_seat c.in_ok-table.seat idle_ledger 18446744073709551615 0 (replicate sizes.tickets None) (ap (λ m. m.0) at.1) (ap (λ m. m.1) at.1) refl refl (omega arith)
    (length-replicate {A = Option PieceId} sizes.tickets None) (λ t within. (λ _. fresh_within sizes.tickets t within, λ _. bit_at_ones 64 t (omega (arith, within))))
    (length-replicate {A = Option PieceSite} sizes.tickets None) (λ t x is. absurd (none_lent sizes.tickets t x is)))
