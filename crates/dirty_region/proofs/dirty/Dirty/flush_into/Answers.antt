use Rattle.std.proofs.Common.{◌≡◌, ◌<◌, ◌≤◌, length, refl, sym, ap, subst, ◌∙◌, arith}
use Rattle.regions.specs.Contents.{live_at}
use Rattle.text_lemmas.proofs.Written.{Writes-nothing, Writes-ok, Writes-same}
use Rattle.segmented_store.specs.Segments.{HoldsSegments}
use Rattle.dirty_region.specs.State.{DirtyState}
use Rattle.dirty_region.specs.inside.Rings.{nth, puts_in}
use Rattle.dirty_region.proofs.Flushed.{out_low, puts_first, puts_none, queue_left, queue_none, rest_line, text_none}
use Rattle.dirty_region.proofs.Stored.{segments_same}
use Rattle.dirty_region.proofs.dirty.Dirty.flush_into.Goals as goal

pub rest_of-requires : goal.rest_of-requires
rest_of-requires g c =
    let s = c.self.inside in let live = live_at s.region in let none = c.if-len-eq0.false in let len = c.len.ensures.count in
    let some : 1 ≤ s.ring.count = omega (arith, none, len) in
    let text = c.as_slice.ensures.value ∙ c.make_oldest_line.ensures.line in
    let low = out_low s.out (puts_in s.ring live) (nth s.ring live 0) _ c.self.invariant.0.out_is (puts_first s.ring live some) in
    let inside : s.out < length c.as_slice.result.now = subst (λ t. s.out < length t) (sym text) low in omega (arith, inside)

pub returns-then-len-eq0-clause-queue : goal.returns-then-len-eq0-clause-queue
returns-then-len-eq0-clause-queue g c =
    let s = c.self.inside in let live = live_at s.region in let test = c.if-len-eq0.true in let len = c.len.ensures.count in
    let none : s.ring.count ≡ 0 = omega (arith, test, len) in
    queue_none c.args.self.now.queue (puts_in s.ring live) s.out (ap (λ (x : DirtyState). x.queue) c.self.view_is) c.self.invariant.0.out_is (puts_none s.ring live none)

pub returns-then-len-eq0-clause-written : goal.returns-then-len-eq0-clause-written
returns-then-len-eq0-clause-written g c =
    let s = c.self.inside in let live = live_at s.region in let test = c.if-len-eq0.true in let len = c.len.ensures.count in
    let none : s.ring.count ≡ 0 = omega (arith, test, len) in
    Writes-same (text_none c.args.self.now.queue (puts_in s.ring live) s.out (ap (λ (x : DirtyState). x.queue) c.self.view_is) (puts_none s.ring live none)) Writes-nothing

pub returns-in-Err-clause-written : goal.returns-in-Err-clause-written
returns-in-Err-clause-written g c =
    let s = c.self.inside in let live = live_at s.region in let none = c.if-len-eq0.false in let len = c.len.ensures.count in
    let some : 1 ≤ s.ring.count = omega (arith, none, len) in
    let text = c.as_slice.ensures.value ∙ c.make_oldest_line.ensures.line in
    Writes-same (rest_line c.args.self.now.queue (puts_in s.ring live) s.out (nth s.ring live 0) _ c.as_slice.result.now _ (ap (λ (x : DirtyState). x.queue) c.self.view_is)
    (puts_first s.ring live some) text c.rest_of.ensures) c.in-Err.ensures

pub returns-in-Err-clause-stays : goal.returns-in-Err-clause-stays
returns-in-Err-clause-stays g c = ap (λ (x : DirtyState). x.queue) c.self.view_is

pub returns-clause-written : goal.returns-clause-written
returns-clause-written g c =
    let s = c.self.inside in let live = live_at s.region in let none = c.if-len-eq0.false in let len = c.len.ensures.count in
    let some : 1 ≤ s.ring.count = omega (arith, none, len) in
    let text = c.as_slice.ensures.value ∙ c.make_oldest_line.ensures.line in
    Writes-ok (Writes-same (rest_line c.args.self.now.queue (puts_in s.ring live) s.out (nth s.ring live 0) _ c.as_slice.result.now _ (ap (λ (x : DirtyState). x.queue) c.self.view_is)
    (puts_first s.ring live some) text c.rest_of.ensures) c.in_default.ensures)

pub returns-clause-queue : goal.returns-clause-queue
returns-clause-queue g c =
    let s = c.self.inside in let live = live_at s.region in
    queue_left c.args.self.now.queue (puts_in s.ring live) (puts_in c.take_out.new.ring (live_at c.take_out.new.region)) s.out c.take_out.new.out (nth s.ring live 0)
    (ap (λ (x : DirtyState). x.queue) c.self.view_is) c.take_out.ensures.puts c.take_out.ensures.begun

pub returns-then-len-eq0-clause-kept : goal.returns-then-len-eq0-clause-kept
returns-then-len-eq0-clause-kept g c = (let r = c.args.self.now.region in record { room = refl; segments = segments_same r r refl })

pub returns-in-Err-clause-kept : goal.returns-in-Err-clause-kept
returns-in-Err-clause-kept g c =
    let r = c.self.inside.region in record {
      room = ap (λ (x : DirtyState). x.room) c.self.view_is;
      segments = subst (λ (x : DirtyState). HoldsSegments x.region r) c.self.view_is (segments_same r r refl);
    }

pub returns-clause-kept : goal.returns-clause-kept
returns-clause-kept g c =
    let r = c.self.inside.region in record {
      room = c.take_out.ensures.room ∙ ap (λ (x : DirtyState). x.room) c.self.view_is;
      segments = subst (λ (x : DirtyState). HoldsSegments x.region c.take_out.new.region) c.self.view_is (segments_same r c.take_out.new.region c.take_out.ensures.shape);
    }
