use Rattle.std.proofs.Common.{◌∙◌, subst}
use Rattle.dirty_region.specs.Queues.{GoesOn}
use Rattle.dirty_region.specs.Ranged.{InRange}
use Rattle.dirty_region.specs.State.{DirtyState}
use Rattle.place_lemmas.proofs.Ranges.{first_kept}
use Rattle.part_examples.proofs.due_puts.flush_oldest.Goals as goal

pub invariant_of-ranged : goal.invariant_of-ranged
invariant_of-ranged g c =
    let r = c.ranged.inside in let i = c.ranged.invariant in let same = c.flush_one.ensures.kept.segments in
    record {
      are = i.are;
      first = first_kept r.range r.store.region c.flush_one.new.self.region _ i.first same.most same.pieces same.held;
      unguarded = same.guards 0 ∙ i.unguarded;
    }

pub returns : goal.returns
returns g c =
    subst (λ (r : InRange DirtyState). GoesOn r.store.queue c.flush_one.new.self.queue (g.K.Sink.written c.args.sink.now) (g.K.Sink.written c.flush_one.new.sink)) c.ranged.view_is
    c.flush_one.ensures.rest
