-- The walk was empty, and has the list now.
use Rattle.std.proofs.Common.{◌≡◌, ◌++◌, [], length, take, drop, map, reverse, sym, ap, ◌∙◌, vec_len}
use Rattle.std.proofs.lemmas.Bool.{eqb-true}
use Rattle.std.proofs.lemmas.List.{take_at, nil_from_length, length-map}
use Rattle.foreign_core.specs.Tickets.{Tickets, taken}
use Rattle.foreign_core.proofs.PlaceLemmas.{take_place}
use Rattle.foreign_core.proofs.list_core.Core.take_whole.Goals as goal

pub invariant_of-self : goal.invariant_of-self
invariant_of-self c =
    let states : take c.self.inside.states.len (c.take_listed.new.states ++ drop (length c.take_listed.new.states) c.self.inside.states.items) ≡ map taken c.self.inside.states.items =
    rw (c.take_listed.ensures, c.deref_mut.ensures.value) (take_at (map taken c.self.inside.states.items) _ c.self.inside.states.len (length-map c.self.inside.states.items taken ∙ sym (c.self.inside.states.ok.0))) in
    let s : Tickets = record { states = c.self.inside.states.items; listed = reverse c.self.inside.list.items; walk = reverse c.self.inside.walk.items } in
    let none : c.self.inside.walk.items ≡ [] = nil_from_length c.self.inside.walk.items (sym (c.self.inside.walk.ok.0) ∙ eqb-true (vec_len c.self.inside.walk) 0 (sym c.if-not-is_empty.ensures)) in
    let place = take_place s c.self.invariant.place (ap reverse none) in
    rw (states, c.move_whole.ensures.walk.0, c.move_whole.ensures.walk.1, c.move_whole.ensures.list.0, c.move_whole.ensures.list.1) (record {
      place = place;
      list_room = simp length-map c.self.invariant.walk_room;
      walk_room = simp length-map c.self.invariant.list_room;
    })
