use Rattle.std.proofs.Common.{set, Some, sym, ap, ◌∙◌, subst, arith, length-set}
use Rattle.foreign_list.specs.Blocks.{piece_id_of}
use Rattle.foreign_list.specs.OwnerSeats.{OwnerState, IsIdle}
use Rattle.foreign_list.specs.inside.Views.{ledger_of, lent_out}
use Rattle.foreign_list.specs.inside.Seats.{IsConsistentSeat, id_of, site_in}
use Rattle.foreign_list.proofs.Seating.{owner_seat, idle_off, idle_low, new_pass, site_on}
use Rattle.foreign_list.proofs.foreign.Foreign.lend.Goals as goal

pub marked_lent-seat-inside-requires : goal.marked_lent-seat-inside-requires
marked_lent-seat-inside-requires c = let old = c.seat.inside in
    let low = idle_low old.seat old.idle old.first c.args.ticket old.sites.items c.seat.invariant (subst (λ (s : OwnerState). IsIdle s c.args.ticket) (sym c.seat.view_is) c.requires.idle) in
    omega (arith, low)

pub invariant_of-seat : goal.invariant_of-seat
invariant_of-seat c =
    let was = c.seat.invariant in let old = c.seat.inside in let now = c.split-pass.ensures.lent in
    let t = c.args.ticket in let id = piece_id_of c.args.piece in let d = ledger_of old.seat.me.0 in
    let low = idle_low old.seat old.idle old.first t old.sites.items was (subst (λ (s : OwnerState). IsIdle s t) (sym c.seat.view_is) c.requires.idle) in
    let count = was.count in
    subst (λ site. IsConsistentSeat c.split-pass.new.seat c.marked_lent-seat-inside.result old.first (set old.sites.items t (Some site))) (sym c.site.ensures)
    (owner_seat c.split-pass.new.seat (lent_out t id d) c.marked_lent-seat-inside.result old.first (set old.sites.items t (Some (site_in id))) (ap (λ m. m.0) now)
    (ap (λ m. m.1) now ∙ was.slots) was.hand was.first_is was.low (length-set d.lent t (Some id) ∙ was.count)
    (idle_off d.lent old.idle c.marked_lent-seat-inside.result t id (omega (arith, low, count)) was.idle_are c.marked_lent-seat-inside.ensures.here c.marked_lent-seat-inside.ensures.others)
    (length-set old.sites.items t (Some (site_in id)) ∙ was.site_count)
    (site_on old.sites.items d.lent t id (omega (arith, low, count)) (let long = was.site_count in omega (arith, low, long)) was.sites_are))

pub invariant_of-result : goal.invariant_of-result
invariant_of-result c = let old = c.seat.inside in let pass = c.split-pass.ensures.pass in
    new_pass (id_of c.self.inside.table) c.split-pass.result c.args.piece c.args.ticket pass.0 (ap (λ m. m.0) pass.1) (ap (λ m. m.1) pass.1)
    (idle_low old.seat old.idle old.first c.args.ticket old.sites.items c.seat.invariant (subst (λ (s : OwnerState). IsIdle s c.args.ticket) (sym c.seat.view_is) c.requires.idle))
