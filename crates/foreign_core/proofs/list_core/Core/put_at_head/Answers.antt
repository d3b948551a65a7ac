-- There is room on the list for one ticket more, since the ticket wasn't on it.
use Rattle.std.proofs.Common.{refl, ◌≡◌, ◌<◌, [], ◌∷◌, ◌++◌, reverse, arith, ◌∙◌, length-set, vec_len}
use Rattle.std.proofs.lemmas.List.{reverse-append, length-reverse}
use Rattle.std.specs.Vec.{vec_capacity}
use Rattle.foreign_core.specs.Tickets.{Tickets}
use Rattle.foreign_core.proofs.PlaceLemmas.{listed_place, room_for}
use Rattle.foreign_core.proofs.list_core.Core.put_at_head.Goals as goal

-- the push went well
pushed : (c : goal.After-push) → c.push.new.self.items ≡ c.self.inside.list.items ++ c.args.ticket ∷ []
pushed c =
    let s : Tickets = record { states = c.self.inside.states.items; listed = reverse c.self.inside.list.items; walk = reverse c.self.inside.walk.items } in
    let room : vec_len c.self.inside.list < vec_capacity c.self.inside.list =
    omega (arith, room_for s c.args.ticket (vec_capacity c.self.inside.list) c.self.invariant.place (rw (← c.self.view_is) at c.requires) c.self.invariant.list_room, length-reverse c.self.inside.list.items, c.self.inside.list.ok.0) in
    c.push.ensures.items ∙ (rw (c.push.ensures.succeeds room) refl)

pub invariant_of-self : goal.invariant_of-self
invariant_of-self c = record {
  place = rw (pushed c, reverse-append c.self.inside.list.items (c.args.ticket ∷ [])) (listed_place _ c.args.ticket c.self.invariant.place (rw (← c.self.view_is) at c.requires));
  list_room = simp length-set (omega (arith, c.self.invariant.list_room, c.push.ensures.capacity));
  walk_room = simp length-set c.self.invariant.walk_room;
}

pub returns : goal.returns
returns c = rw (← c.self.view_is, pushed c, reverse-append c.self.inside.list.items (c.args.ticket ∷ [])) refl
