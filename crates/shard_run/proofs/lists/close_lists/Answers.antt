use Rattle.std.proofs.Common.{◌≡◌, ◌∷◌, [], ◌++◌, length, subst}
use Rattle.std.specs.Option.{option_to_list}
use Rattle.foreign_list.specs.OwnerSeats.{IsAtRest}
use Rattle.shard_run.specs.Opening.{AreAtRest}
use Rattle.shard_run.proofs.Seated.{one_less}
use Rattle.shard_run.proofs.lists.close_lists.Goals as goal
use Rattle.shard_run.proofs.lists.close_lists.Goals.{After-unwrap}

-- the last list, with its seat, and the others
abbrev last : (c : After-unwrap) → IsAtRest c.in-Some.home c.unwrap.result × AreAtRest (length c.pop.new.self.items) c.pop.new.self.items c.pop-in-Some.new.self.items
last c =
    let n = length c.loop-home.homes.items in
    let fewer = c.pop-in-Some.new.self.items in
    let seats : c.loop-home.seats.items ≡ fewer ++ c.unwrap.result ∷ [] =
    subst (λ r. c.loop-home.seats.items ≡ fewer ++ option_to_list r) c.unwrap.ensures c.pop-in-Some.ensures.items in
    one_less c.pop.new.self.items fewer c.in-Some.home c.unwrap.result n
    (subst (λ h. AreAtRest n h (fewer ++ c.unwrap.result ∷ [])) c.in-Some.ensures.items (subst (AreAtRest n c.loop-home.homes.items) seats c.loop-home.invariant))

pub close-requires : goal.close-requires
close-requires c = let rest = (last c).0 in record { seat = rest.seat_of; idle = rest.idle }

pub loop-home-preserved : goal.loop-home-preserved
loop-home-preserved c = (last (goal.at.loop-home-preserved c).After-unwrap).1
