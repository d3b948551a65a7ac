use Rattle.std.proofs.Common.{◌+◌, ◌%◌, ◌^◌, ◌<◌, ◌≤◌, length, refl, sym, ap, subst, ◌∙◌, arith}
use Rattle.regions.specs.Contents.{live_at}
use Rattle.segmented_store.specs.Segments.{HoldsSegments}
use Rattle.dirty_region.specs.State.{DirtyState}
use Rattle.dirty_region.specs.inside.Rings.{nth, puts_in}
use Rattle.dirty_region.proofs.Flushed.{out_low, out_kept, puts_first, broken_off, flushed}
use Rattle.dirty_region.proofs.Stored.{segments_same}
use Rattle.dirty_region.proofs.dirty.Dirty.flush_one.Goals as goal

pub write_rest-requires : goal.write_rest-requires
write_rest-requires g c =
    let s = c.self.inside in let live = live_at s.region in let none = c.if-len-eq0.false in let len = c.len.ensures.count in
    let some : 1 ≤ s.ring.count = omega (arith, none, len) in
    let text = c.as_slice.ensures.value ∙ c.make_oldest_line-number.ensures.line in
    let low = out_low s.out (puts_in s.ring live) (nth s.ring live 0) _ c.self.invariant.0.out_is (puts_first s.ring live some) in
    let inside : s.out < length c.as_slice.result.now = subst (λ t. s.out < length t) (sym text) low in omega (arith, inside)

pub invariant_of-self : goal.invariant_of-self
invariant_of-self g c =
    let s = c.self.inside in let live = live_at s.region in let none = c.if-len-eq0.false in let len = c.len.ensures.count in let i = c.self.invariant.0 in
    let some : 1 ≤ s.ring.count = omega (arith, none, len) in
    let text = c.as_slice.ensures.value ∙ c.make_oldest_line-number.ensures.line in
    let low = subst (λ t. c.write_rest.new.out < length t) text c.in-Err.ensures.unfinished in (
      record { stored = i.stored; out_is = out_kept c.write_rest.new.out (puts_in s.ring live) (nth s.ring live 0) _ (puts_first s.ring live some) low },
      c.make_oldest_line-number.ensures.capacity,
    )

pub returns-in-Err-clause-stopped : goal.returns-in-Err-clause-stopped
returns-in-Err-clause-stopped g c =
    let s = c.self.inside in let live = live_at s.region in let none = c.if-len-eq0.false in let len = c.len.ensures.count in let w = c.in-Err.ensures in
    let some : 1 ≤ s.ring.count = omega (arith, none, len) in
    let text = c.as_slice.ensures.value ∙ c.make_oldest_line-number.ensures.line in
    (broken_off c.args.self.now.queue (puts_in s.ring live) s.out c.write_rest.new.out (nth s.ring live 0) _ c.as_slice.result.now (g.K.Sink.written c.args.sink.now)
    (g.K.Sink.written c.write_rest.new.sink) (ap (λ (x : DirtyState). x.queue) c.self.view_is) (puts_first s.ring live some) text w.more.0 w.unfinished w.appended).0

pub returns-in-Err-clause-rest : goal.returns-in-Err-clause-rest
returns-in-Err-clause-rest g c =
    let s = c.self.inside in let live = live_at s.region in let none = c.if-len-eq0.false in let len = c.len.ensures.count in let w = c.in-Err.ensures in
    let some : 1 ≤ s.ring.count = omega (arith, none, len) in
    let text = c.as_slice.ensures.value ∙ c.make_oldest_line-number.ensures.line in
    (broken_off c.args.self.now.queue (puts_in s.ring live) s.out c.write_rest.new.out (nth s.ring live 0) _ c.as_slice.result.now (g.K.Sink.written c.args.sink.now)
    (g.K.Sink.written c.write_rest.new.sink) (ap (λ (x : DirtyState). x.queue) c.self.view_is) (puts_first s.ring live some) text w.more.0 w.unfinished w.appended).1

pub returns-clause-flushed : goal.returns-clause-flushed
returns-clause-flushed g c =
    let s = c.self.inside in let live = live_at s.region in let none = c.if-len-eq0.false in let len = c.len.ensures.count in let w = c.in_default.ensures in
    let some : 1 ≤ s.ring.count = omega (arith, none, len) in
    let text = c.as_slice.ensures.value ∙ c.make_oldest_line-number.ensures.line in
    let low = out_low s.out (puts_in s.ring live) (nth s.ring live 0) _ c.self.invariant.0.out_is (puts_first s.ring live some) in
    let inside : s.out < length c.as_slice.result.now = subst (λ t. s.out < length t) (sym text) low in
    (flushed c.args.self.now.queue (puts_in s.ring live) s.out c.write_rest.new.out c.take_out.new.out c.make_oldest_line-number.result (nth s.ring live 0) (puts_in c.take_out.new.ring (live_at c.take_out.new.region))
    c.as_slice.result.now (g.K.Sink.written c.args.sink.now) (g.K.Sink.written c.write_rest.new.sink) (ap (λ (x : DirtyState). x.queue) c.self.view_is) c.take_out.ensures.puts text
    c.make_oldest_line-number.ensures.number inside w.whole c.take_out.ensures.begun w.appended).0

pub returns-clause-rest : goal.returns-clause-rest
returns-clause-rest g c =
    let s = c.self.inside in let live = live_at s.region in let none = c.if-len-eq0.false in let len = c.len.ensures.count in let w = c.in_default.ensures in
    let some : 1 ≤ s.ring.count = omega (arith, none, len) in
    let text = c.as_slice.ensures.value ∙ c.make_oldest_line-number.ensures.line in
    let low = out_low s.out (puts_in s.ring live) (nth s.ring live 0) _ c.self.invariant.0.out_is (puts_first s.ring live some) in
    let inside : s.out < length c.as_slice.result.now = subst (λ t. s.out < length t) (sym text) low in
    (flushed c.args.self.now.queue (puts_in s.ring live) s.out c.write_rest.new.out c.take_out.new.out c.make_oldest_line-number.result (nth s.ring live 0) (puts_in c.take_out.new.ring (live_at c.take_out.new.region))
    c.as_slice.result.now (g.K.Sink.written c.args.sink.now) (g.K.Sink.written c.write_rest.new.sink) (ap (λ (x : DirtyState). x.queue) c.self.view_is) c.take_out.ensures.puts text
    c.make_oldest_line-number.ensures.number inside w.whole c.take_out.ensures.begun w.appended).1

pub returns-clause-next : goal.returns-clause-next
returns-clause-next g c = c.take_out.ensures.first ∙ ap (λ (x : DirtyState). (x.first + 1) % 2 ^ 32) c.self.view_is

pub returns-then-len-eq0-clause-kept : goal.returns-then-len-eq0-clause-kept
returns-then-len-eq0-clause-kept g c = (let r = c.args.self.now.region in record { room = refl; segments = segments_same r r refl })

pub returns-in-Err-clause-kept : goal.returns-in-Err-clause-kept
returns-in-Err-clause-kept g c =
    let r = c.self.inside.region in record {
      room = ap (λ (x : DirtyState). x.room) c.self.view_is;
      segments = subst (λ (x : DirtyState). HoldsSegments x.region r) c.self.view_is (segments_same r r refl);
    }

pub returns-clause-kept : goal.returns-clause-kept
returns-clause-kept g c =
    let r = c.self.inside.region in record {
      room = c.take_out.ensures.room ∙ ap (λ (x : DirtyState). x.room) c.self.view_is;
      segments = subst (λ (x : DirtyState). HoldsSegments x.region c.take_out.new.region) c.self.view_is (segments_same r c.take_out.new.region c.take_out.ensures.shape);
    }
