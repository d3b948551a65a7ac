use Rattle.std.proofs.Common.{◌≡◌, ℕ, suc, ◌-◌, None, refl, ap, ◌∙◌, length-set, arith}
use Rattle.foreign_list.specs.inside.Views.{ledger_of, walked, put_home}
use Rattle.foreign_list.proofs.Chains.{link_first}
use Rattle.foreign_list.proofs.Seating.{owner_seat, idle_on, site_off}
use Rattle.foreign_list.proofs.foreign.Foreign.next_back.Goals as goal

pub bring_home-next-requires-clause-first : goal.bring_home-next-requires-clause-first
bring_home-next-requires-clause-first c = let first : ℕ = c.seat.inside.first in
    link_first (ledger_of c.seat.inside.seat.me.0).walk first (first - 1) c.seat.invariant.first_is (let e : first ≡ suc (first - 1) = grind (arith, c.if-seat-eq0.false) in e)

pub invariant_of-seat : goal.invariant_of-seat
invariant_of-seat c =
    let was = c.seat.invariant in let old = c.seat.inside in let home = c.bring_home-next.ensures.home.2 in
    let t : ℕ = old.first - 1 in let d = ledger_of old.seat.me.0 in
    let some = c.if-seat-eq0.false in let most = was.low in let count = was.count in
    owner_seat c.bring_home-next.new.seat (put_home t (walked t home.left d)) c.marked_idle-seat-inside.result c.bring_home-next.result.0 old.sites.items
    (ap (λ m. m.0) home.after) (ap (λ m. m.1) home.after) refl home.first home.low (length-set d.lent t None ∙ was.count)
    (idle_on d.lent old.idle c.marked_idle-seat-inside.result t (omega (arith, some, most, count)) was.idle_are c.marked_idle-seat-inside.ensures.here c.marked_idle-seat-inside.ensures.others)
    was.site_count (site_off old.sites.items d.lent t (omega (arith, some, most, count)) was.sites_are)
