use Rattle.std.proofs.Common.{◌≡◌, ℕ, true, false, not, Option, Some, None, refl, sym, ap, subst, ◌∙◌}
use Rattle.std.specs.Prelude.{is_some}
use Rattle.regions.specs.Segments.{RegionState}
use Rattle.regions.specs.Shapes.{Shape, shape, guards_of, pieces}
use Rattle.segmented_store.specs.Segments.{AddsSegment}
use Rattle.dirty_region.specs.Queues.{IsOut}
use Rattle.dirty_region.specs.State.{DirtyState}
use Rattle.dirty_region.proofs.Flushed.{queue_of}
use Rattle.dirty_region.proofs.Segments.{puts_kept, stored_kept, pieces_with, spare_grown, spare_begun}
use Rattle.dirty_region.proofs.dirty.Dirty.add_segment.Goals as goal

none_of : (o : Option ℕ) → is_some o ≡ false → o ≡ None
none_of None e = refl
none_of (Some n) e = absurd (let clash : true ≡ false = e in cc)

pub invariant_of-self : goal.invariant_of-self
invariant_of-self c =
    let s = c.self.inside in let a = c.add_segment.ensures in let n = c.next_active.ensures in let i = c.self.invariant.0 in
    let none = sym c.active.ensures.active ∙ none_of c.active.result (c.is_none.ensures ∙ ap not c.if-is_none.true) in
    let spare = spare_begun s.region c.add_segment.new.self c.next_active.new.self a.added.0 n.activated.0 c.args.piece i.stored.spare a.added.2 a.held a.free none n.activated.2 n.held n.free in (
      record {
        stored = stored_kept s.ring s.index s.region c.next_active.new.self i.stored (λ p. n.objects p ∙ a.objects p) (n.live_total ∙ a.live_total) spare;
        out_is = subst (λ ps. IsOut s.out ps) (sym (puts_kept s.ring s.region c.next_active.new.self (λ p. n.objects p ∙ a.objects p))) i.out_is;
      },
      c.self.invariant.1,
    )

pub invariant_of-self-else-is_none : goal.invariant_of-self-else-is_none
invariant_of-self-else-is_none c =
    let s = c.self.inside in let a = c.add_segment.ensures in let i = c.self.invariant.0 in
    let spare = spare_grown s.region c.add_segment.new.self a.added.0 c.args.piece i.stored.spare a.added.2 a.held a.free in (
      record {
        stored = stored_kept s.ring s.index s.region c.add_segment.new.self i.stored a.objects a.live_total spare;
        out_is = subst (λ ps. IsOut s.out ps) (sym (puts_kept s.ring s.region c.add_segment.new.self a.objects)) i.out_is;
      },
      c.self.invariant.1,
    )

pub returns-then-is_none-clause-queue : goal.returns-then-is_none-clause-queue
returns-then-is_none-clause-queue c =
    let s = c.self.inside in
    ap (λ ps. queue_of ps s.out) (puts_kept s.ring s.region c.next_active.new.self (λ p. c.next_active.ensures.objects p ∙ c.add_segment.ensures.objects p)) ∙ ap (λ (x : DirtyState). x.queue) c.self.view_is

pub returns-then-is_none-clause-adds : goal.returns-then-is_none-clause-adds
returns-then-is_none-clause-adds c =
    let s = c.self.inside in let a = c.add_segment.ensures in let n = c.next_active.ensures in let were = c.self.invariant.0.stored.spare in
    let none = sym c.active.ensures.active ∙ none_of c.active.result (c.is_none.ensures ∙ ap not c.if-is_none.true) in
    let spare = spare_begun s.region c.add_segment.new.self c.next_active.new.self a.added.0 n.activated.0 c.args.piece were a.added.2 a.held a.free none n.activated.2 n.held n.free in
    subst (λ (x : DirtyState). AddsSegment x.region c.next_active.new.self c.args.piece) c.self.view_is (record {
      added = (a.added.0, a.added.1, n.pieces ∙ (ap (λ (x : RegionState). pieces x) a.added.2 ∙ pieces_with s.region a.added.0 c.args.piece));
      held = n.held ∙ a.held;
      most = ap (λ (x : Shape). x.most) n.activated.2 ∙ ap (λ (x : RegionState). (shape x).most) a.added.2;
      guards = spare.guards ∙ sym were.guards;
    })

pub returns-else-is_none-clause-queue : goal.returns-else-is_none-clause-queue
returns-else-is_none-clause-queue c =
    let s = c.self.inside in
    ap (λ ps. queue_of ps s.out) (puts_kept s.ring s.region c.add_segment.new.self c.add_segment.ensures.objects) ∙ ap (λ (x : DirtyState). x.queue) c.self.view_is

pub returns-else-is_none-clause-adds : goal.returns-else-is_none-clause-adds
returns-else-is_none-clause-adds c =
    let s = c.self.inside in let a = c.add_segment.ensures in
    subst (λ (x : DirtyState). AddsSegment x.region c.add_segment.new.self c.args.piece) c.self.view_is (record {
      added = (a.added.0, a.added.1, ap (λ (x : RegionState). pieces x) a.added.2 ∙ pieces_with s.region a.added.0 c.args.piece);
      held = a.held;
      most = ap (λ (x : RegionState). (shape x).most) a.added.2;
      guards = ap (λ (x : RegionState). guards_of x 0) a.added.2;
    })
