use Rattle.std.proofs.Common.{◌≢◌, ◌<◌, length, set, sym, subst, arith}
use Rattle.key_table.specs.declared.entries.RowAt.{RowAt}
use Rattle.key_table.specs.inside.Slots.{slot_at, AreProbed, Within}
use Rattle.key_table.proofs.Held.{held_inside, rows_move, rows_end, within_move}
use Rattle.key_table.proofs.Probes.{probed_end, probed_move, set_there}
use Rattle.key_table.proofs.slots.take_out.Goals as goal

pub loop-next-preserved : goal.loop-next-preserved
loop-next-preserved c =
    let slots = c.loop-next.slots.items in
    let hole = c.loop-next.hole in
    let next = c.in-Some.next in
    let move = c.in-Some.ensures in
    let inv = c.loop-next.invariant in
    let inside : hole < length slots = omega (arith, move.behind, move.inside) in
    record {
      probed = subst (λ (s : RowAt). AreProbed c.args.mask (set slots hole s)) (sym c.slot_at.ensures) (probed_move c.args.mask slots hole next inv.probed inv.here move);
      here = subst (λ (s : RowAt). s.row ≢ 4294967295) (sym (set_there slots hole next c.slot_at.result (λ e. omega (arith, e, move.behind)))) move.held;
      rows = λ n. rows_move slots c.args.slots.now.items hole next n (slot_at c.args.slots.now.items c.args.at).row c.slot_at.result move.behind c.slot_at.ensures inv.here move.held (inv.rows n);
      within = subst (λ (s : RowAt). Within c.args.slots.now.items (set slots hole s)) (sym c.slot_at.ensures) (within_move slots c.args.slots.now.items hole next inside move.held inv.within);
      capacity = omega arith;
    }

pub returns-clause-rows : goal.returns-clause-rows
returns-clause-rows c n = rows_end c.loop-next.slots.items c.args.slots.now.items c.loop-next.hole n (slot_at c.args.slots.now.items c.args.at).row (held_inside c.loop-next.slots.items c.loop-next.hole c.loop-next.invariant.here) c.loop-next.invariant.here (c.loop-next.invariant.rows n)

pub returns-clause-probed : goal.returns-clause-probed
returns-clause-probed c =
    let inv = c.loop-next.invariant in
    probed_end c.args.mask c.loop-next.slots.items c.loop-next.hole inv.probed (held_inside c.loop-next.slots.items c.loop-next.hole inv.here) c.in_default.ensures
