-- The ticket was on no list, and is on none.
use Rattle.std.proofs.Common.{length-set}
use Rattle.foreign_core.proofs.PlaceLemmas.{becomes_place}
use Rattle.foreign_core.proofs.list_core.Core.set.Goals as goal

pub invariant_of-self : goal.invariant_of-self
invariant_of-self c =
    let from = rw (← c.self.view_is) at c.requires.from in
    record {
      place = becomes_place _ c.args.ticket c.args.state c.self.invariant.place from c.requires.to;
      list_room = simp length-set c.self.invariant.list_room;
      walk_room = simp length-set c.self.invariant.walk_room;
    }
