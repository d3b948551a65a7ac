use Rattle.std.proofs.Common.{ℕ, ◌%◌, ◌≤◌, ◌∙◌, ap, sym, subst}
use Rattle.rows.specs.Row.{size}
use Rattle.regions.specs.Counts.{left}
use Rattle.shard_store.proofs.storing.put_evicting.Goals as goal

-- the group of the table is the one in which room was made
pub store-requires-clause-fits : goal.store-requires-clause-fits
store-requires-clause-fits g c =
    let same = c.group_of-group.ensures.group ∙ ap (λ (n : ℕ). c.args.table % n) (sym c.make_room_evicting.ensures.consistent.made.groups) in
    subst (λ group. size c.args.key.now c.args.value.now ≤ left c.make_room_evicting.new.cache.region group) same
    (subst (λ bytes. bytes ≤ left c.make_room_evicting.new.cache.region c.group_of-group.result) c.row_size.ensures c.make_room_evicting.ensures.room)

pub returns-clause-consistent : goal.returns-clause-consistent
returns-clause-consistent g c = c.store.ensures.consistent c.args.memory.now.owner c.args.memory.now.pages _ c.make_room_evicting.new.memory c.make_room_evicting.ensures.consistent

pub returns-clause-unguarded : goal.returns-clause-unguarded
returns-clause-unguarded g c = λ k. c.store.ensures.guards k ∙ c.make_room_evicting.ensures.unguarded k
