-- The ticket is the first of the walk, so it is there, and then on no list.
use Rattle.std.proofs.Common.{[], ◌∷◌, reverse, ap, ◌∙◌, length-set}
use Rattle.std.proofs.lemmas.List.{reverse-append}
use Rattle.std.proofs.lemmas.Option.{slice_get_within}
use Rattle.foreign_core.proofs.PlaceLemmas.{back_place, first_walked}
use Rattle.foreign_core.proofs.list_core.Core.back.Goals as goal

pub make_idle-requires : goal.make_idle-requires
make_idle-requires c =
    let items = ap reverse c.in-Some.ensures.items ∙ reverse-append c.pop.new.self.items (c.in-Some.ticket ∷ []) in
    let walked = first_walked (record { states = c.self.inside.states.items; listed = reverse c.self.inside.list.items; walk = reverse c.self.inside.walk.items }) c.in-Some.ticket (reverse c.pop.new.self.items) c.self.invariant.place items in
    slice_get_within c.self.inside.states.items c.in-Some.ticket _ walked

pub invariant_of-self-2 : goal.invariant_of-self-2
invariant_of-self-2 c =
    let items = ap reverse c.in-Some.ensures.items ∙ reverse-append c.pop.new.self.items (c.in-Some.ticket ∷ []) in
    rw c.make_idle.ensures (record {
      place = back_place (record { states = c.self.inside.states.items; listed = reverse c.self.inside.list.items; walk = reverse c.self.inside.walk.items }) c.in-Some.ticket (reverse c.pop.new.self.items) c.self.invariant.place items;
      list_room = simp length-set c.self.invariant.list_room;
      walk_room = simp length-set (rw (c.in-Some.ensures.capacity) c.self.invariant.walk_room);
    })
