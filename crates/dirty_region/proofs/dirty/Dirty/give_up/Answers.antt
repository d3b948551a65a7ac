use Rattle.std.proofs.Common.{ℕ, ◌+◌, ◌%◌, ◌^◌, length, sym, ap, subst, ◌∙◌}
use Rattle.regions.specs.Contents.{live_at}
use Rattle.regions.specs.Shapes.{shape}
use Rattle.segmented_store.specs.Segments.{GivesUp}
use Rattle.dirty_region.specs.State.{DirtyState}
use Rattle.dirty_region.specs.inside.Rings.{nth}
use Rattle.dirty_region.proofs.Listed.{length-listed}
use Rattle.dirty_region.proofs.Flushed.{out_none}
use Rattle.dirty_region.proofs.Segments.{spare_emptied, stored_emptied, kept_pieces, groups_given, gives_up}
use Rattle.dirty_region.proofs.dirty.Dirty.give_up.Goals as goal

pub invariant_of-self : goal.invariant_of-self
invariant_of-self c =
    let d = c.drop_all.new in let e = c.drop_all.ensures in let r = d.region in let new = c.give_up.new.self in let g = c.give_up.ensures in
    let same = groups_given c.give_up.result r new g.emptied g.given in
    let spare = spare_emptied r new e.stored.spare same.0 same.1 g.free in (
      record {
        stored = stored_emptied d.ring d.index r new e.stored e.none g.objects g.live_total spare;
        out_is = out_none _;
      },
      c.self.invariant.1,
    )

pub returns-clause-gives : goal.returns-clause-gives
returns-clause-gives c =
    let e = c.drop_all.ensures in let r = c.drop_all.new.region in let new = c.give_up.new.self in let g = c.give_up.ensures in
    let same = groups_given c.give_up.result r new g.emptied g.given in
    let spare = spare_emptied r new e.stored.spare same.0 same.1 g.free in
    subst (λ (x : DirtyState). GivesUp x.region new c.give_up.result) c.self.view_is
    (gives_up c.give_up.result c.self.inside.region r new e.shape g.none g.given g.held same.0 (spare.guards ∙ sym c.self.invariant.0.stored.spare.guards))

pub returns-clause-kept : goal.returns-clause-kept
returns-clause-kept c = λ none.
    kept_pieces c.args.self.now.region c.drop_all.new.region c.give_up.new.self (c.drop_all.ensures.shape ∙ ap (λ (x : DirtyState). shape x.region) c.self.view_is)
    (c.give_up.ensures.emptied none)

pub returns-clause-first : goal.returns-clause-first
returns-clause-first c =
    let r = c.self.inside.ring in let long = length-listed (nth r (live_at c.self.inside.region)) r.count in
    c.drop_all.ensures.first ∙ (ap (λ (n : ℕ). (r.first + n) % 2 ^ 32) (sym long) ∙ ap (λ (x : DirtyState). (x.first + length x.queue.puts) % 2 ^ 32) c.self.view_is)
