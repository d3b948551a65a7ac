use Rattle.std.proofs.Common.{inl, inr, ap, refl, sym, subst, arith, ◌∙◌}
use Rattle.std.proofs.lemmas.Bool.{cases_eq}
use Rattle.segmented_store.specs.Room.{room}
use Rattle.segmented_store.specs.Segments.{HoldsSegments}
use Rattle.dirty_region.specs.State.{DirtyState}
use Rattle.dirty_region.specs.inside.Rings.{RingState}
use Rattle.dirty_region.proofs.Stored.{bytes_small, seen, segments_grown, segments_same}
use Rattle.dirty_region.proofs.dirty.Dirty.put.Goals as goal

pub returns-then-len-room-clause-too_many : goal.returns-then-len-room-clause-too_many
returns-then-len-room-clause-too_many c =
    let s = c.self.inside in let v = seen s.ring s.index s.region s.out c.args.self.now c.self.invariant.0 c.self.view_is in
    let count = v.count_is in let room = v.room_is in let len = c.len.ensures.count in let top = c.room.ensures in let full = c.if-len-room.true in
    (λ _. omega (arith, count, room, len, top, full), λ _. refl)

pub returns-then-len-room-clause-no_room : goal.returns-then-len-room-clause-no_room
returns-then-len-room-clause-no_room c =
    let s = c.self.inside in let v = seen s.ring s.index s.region s.out c.args.self.now c.self.invariant.0 c.self.view_is in
    let count = v.count_is in let room = v.room_is in let len = c.len.ensures.count in let top = c.room.ensures in let full = c.if-len-room.true in
    (λ e. absurd (cc), λ h. absurd (let low = h.0 in omega (arith, count, room, len, top, full, low)))

pub exceeds-requires : goal.exceeds-requires
exceeds-requires c =
    let s = c.self.inside in let small = bytes_small s.ring s.index s.region c.self.invariant.0.stored in let size = c.row_size-size.type_inv in let told = c.live.ensures in
    omega (arith, small, size, told)

pub returns-then-exceeds-clause-too_many : goal.returns-then-exceeds-clause-too_many
returns-then-exceeds-clause-too_many c =
    let s = c.self.inside in let v = seen s.ring s.index s.region s.out c.args.self.now c.self.invariant.0 c.self.view_is in
    let count = v.count_is in let room = v.room_is in let len = c.len.ensures.count in let top = c.room.ensures in
    (λ e. absurd (cc), λ full. absurd (c.if-len-room.false (omega (arith, count, room, len, top, full))))

pub returns-then-exceeds-clause-no_room : goal.returns-then-exceeds-clause-no_room
returns-then-exceeds-clause-no_room c =
    let s = c.self.inside in let v = seen s.ring s.index s.region s.out c.args.self.now c.self.invariant.0 c.self.view_is in
    let count = v.count_is in let most = v.room_is in let len = c.len.ensures.count in let top = c.room.ensures in let few = c.len.ensures.few in
    let held = ap room (v.held_is ∙ sym c.held_segments.ensures) in let live = v.live_is in let told = c.live.ensures in let size = c.row_size-size.ensures in let over = c.exceeds.ensures.0 c.if-exceeds.true in (
      λ _. (
        (elim (cases_eq s.ring.count s.ring.room) [
          | inl e ↦ absurd (c.if-len-room.false (omega (arith, len, top, e)))
          | inr other ↦ omega (arith, count, most, len, few, other)
        ]),
        omega (arith, held, live, told, size, over),
      ),
      λ _. refl,
    )

pub returns-clause-too_many : goal.returns-clause-too_many
returns-clause-too_many c =
    let s = c.self.inside in let v = seen s.ring s.index s.region s.out c.args.self.now c.self.invariant.0 c.self.view_is in
    let count = v.count_is in let room = v.room_is in let len = c.len.ensures.count in let top = c.room.ensures in
    (λ e. absurd (cc), λ full. absurd (c.if-len-room.false (omega (arith, count, room, len, top, full))))

pub returns-clause-first : goal.returns-clause-first
returns-clause-first c =
    c.add_put.ensures.first ∙ (ap (λ (x : RingState). x.first) c.make_way.ensures.places ∙ ap (λ (x : DirtyState). x.first) c.self.view_is)

pub returns-clause-kept : goal.returns-clause-kept
returns-clause-kept c = record {
  room = c.add_put.ensures.room ∙ (ap (λ (x : RingState). x.room) c.make_way.ensures.places ∙ ap (λ (x : DirtyState). x.room) c.self.view_is);
  segments = subst (λ (x : DirtyState). HoldsSegments x.region c.add_put.new.region) c.self.view_is
      (segments_grown c.self.inside.region c.make_way.new.region c.add_put.new.region c.make_way.ensures.holds c.add_put.ensures.shape);
}

pub returns-then-len-room-clause-kept : goal.returns-then-len-room-clause-kept
returns-then-len-room-clause-kept c = (let r = c.args.self.now.region in record { room = refl; segments = segments_same r r refl })

pub returns-then-exceeds-clause-kept : goal.returns-then-exceeds-clause-kept
returns-then-exceeds-clause-kept c = (let r = c.args.self.now.region in record { room = refl; segments = segments_same r r refl })
