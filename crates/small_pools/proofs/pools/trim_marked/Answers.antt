use Rattle.std.proofs.Common.{sym, subst, ◌∙◌}
use Rattle.small_pools.specs.Objects.{AreUsed}
use Rattle.small_pools.specs.inside.Marks.{AreMarked}
use Rattle.small_pools.proofs.Trimmed.{trims_twice, room_twice}
use Rattle.small_pools.proofs.Marked.{marked_less}
use Rattle.small_pools.proofs.pools.trim_marked.Goals as goal

pub loop-first-preserved : goal.loop-first-preserved
loop-first-preserved c =
    let i = c.loop-first.invariant in let e = c.trim_span.ensures in
    let old = c.args.held.now in let now = c.loop-first.held in let new = c.trim_span.new.self in
    record {
      marked = subst (AreMarked new) (sym c.remove.ensures) (marked_less now new c.loop-first.marks c.in-Some.first i.marked e.trims.pages e.trims.allocated e.trims.kept e.used e.objects);
      trims = trims_twice old now new c.args.spans.now c.loop-first.spans c.trim_span.new.spans i.trims i.held e.trims;
      room = room_twice old now new c.args.spans.now c.loop-first.spans c.trim_span.new.spans i.room e.room;
      unchanged = λ used.
          let before = i.unchanged used in let after = e.unchanged (subst AreUsed (sym before.0) used) in (after.0 ∙ before.0, after.1 ∙ before.1);
      held = e.held;
      divided = e.divided;
      coalesced = e.coalesced;
    }
