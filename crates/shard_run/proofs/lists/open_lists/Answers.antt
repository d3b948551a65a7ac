use Rattle.std.proofs.Common.{◌≡◌, ◌∷◌, [], ◌++◌, length, length-append, arith, sym, ap, subst, ◌∙◌}
use Rattle.shard_run.specs.Opening.{AreAtRest}
use Rattle.shard_run.proofs.Seated.{one_more}
use Rattle.shard_run.proofs.lists.open_lists.Goals as goal

pub loop-alloc-preserved : goal.loop-alloc-preserved
loop-alloc-preserved c =
    let homes = c.loop-alloc.homes.items in
    let seats = c.loop-alloc.seats.items in
    let more_homes = c.push_reserved.ensures.items in
    let more_seats = c.push_reserved-in-loop-alloc.ensures.items in
    let inv = c.loop-alloc.invariant in
    let place = c.len-in-loop-alloc.ensures in
    let size = c.loop-alloc.homes.ok.0 in
    let owner : c.in-Ok.home.owner ≡ length homes = c.in-Ok.ensures.owner ∙ place ∙ size in
    let all = one_more homes seats c.in-Ok.home c.in-Ok.seat inv.0 owner c.in-Ok.ensures.rest in
    let test = c.loop-alloc-test.true in
    let looked = c.len.ensures in
    let one = length-append homes (c.in-Ok.home ∷ []) in
    let long = ap length more_homes in
    let room = inv.2 in
    let seat_room = inv.3 in
    let grown = c.push_reserved.ensures.capacity in
    let seats_grown = c.push_reserved-in-loop-alloc.ensures.capacity in (
      subst (λ h. AreAtRest (length h) h c.push_reserved-in-loop-alloc.new.self.items) (sym more_homes) (subst (AreAtRest (length (homes ++ c.in-Ok.home ∷ [])) (homes ++ c.in-Ok.home ∷ [])) (sym more_seats) all),
      omega (arith, long, one, test, looked, size),
      omega (arith, room, grown),
      omega (arith, seat_room, seats_grown),
    )
