use Rattle.std.proofs.Common.{ℕ, ap, ◌∙◌, arith}
use Rattle.std.specs.FinMap as map
use Rattle.small_pools.specs.Objects.{Objects, slot_place}
use Rattle.small_pools.proofs.Tables.{are_objects}
use Rattle.small_pools.proofs.Steps.{same_fields, held_at, first_below, written_still, stands_by_mask, pushed}
use Rattle.index_lists.specs.Table.{Table}
use Rattle.small_pools.proofs.held_spans.HeldSpans.release.Goals as goal

pub get_written-before-requires : goal.get_written-before-requires
get_written-before-requires c = first_below c.self.invariant.1.masks_written (held_at c.self.invariant.0 c.self.view_is c.args.first c.args.class c.requires.held)

pub released-requires : goal.released-requires
released-requires c =
    let most = (held_at c.self.invariant.0 c.self.view_is c.args.first c.args.class c.requires.held).class.capacity_most in
    let slot = c.requires.slot in
    omega (arith, most, slot)

pub set_written-requires : goal.set_written-requires
set_written-requires c = first_below c.self.invariant.1.masks_written (held_at c.self.invariant.0 c.self.view_is c.args.first c.args.class c.requires.held)

pub list_for-requires : goal.list_for-requires
list_for-requires c = (held_at c.self.invariant.0 c.self.view_is c.args.first c.args.class c.requires.held).class.within

pub relist-requires-clause-index : goal.relist-requires-clause-index
relist-requires-clause-index c = (held_at c.self.invariant.0 c.self.view_is c.args.first c.args.class c.requires.held).in_lists

pub relist-requires-clause-to : goal.relist-requires-clause-to
relist-requires-clause-to c = (held_at c.self.invariant.0 c.self.view_is c.args.first c.args.class c.requires.held).list

pub relist-requires-clause-stands : goal.relist-requires-clause-stands
relist-requires-clause-stands c =
    let span = held_at c.self.invariant.0 c.self.view_is c.args.first c.args.class c.requires.held in
    stands_by_mask c.self.invariant.0 c.args.first c.args.class c.get_written-before.result c.list_for.result span c.get_written-before.ensures c.list_for.ensures.value

pub invariant_of-self : goal.invariant_of-self
invariant_of-self c =
    let span = held_at c.self.invariant.0 c.self.view_is c.args.first c.args.class c.requires.held in (
      (pushed c.self.invariant.0 c.args.first c.args.class c.get_written-before.result c.args.slot c.released.result c.set_written.new.self.entries c.relist.new.lists
          span c.get_written-before.ensures c.requires.slot c.released.ensures.free c.released.ensures.others (ap (λ (t : Table ℕ). t.entries) c.set_written.ensures)
          (record { stands = c.relist.ensures.stands; others = c.relist.ensures.others; indices = c.relist.ensures.indices; lists = c.relist.ensures.lists })).consistent,
      written_still c.self.invariant.1 (ap (λ (t : Table ℕ). t.written) c.set_written.ensures),
    )

pub returns-clause-moves : goal.returns-clause-moves
returns-clause-moves c =
    let span = held_at c.self.invariant.0 c.self.view_is c.args.first c.args.class c.requires.held in
    let step = pushed c.self.invariant.0 c.args.first c.args.class c.get_written-before.result c.args.slot c.released.result c.set_written.new.self.entries c.relist.new.lists
    span c.get_written-before.ensures c.requires.slot c.released.ensures.free c.released.ensures.others (ap (λ (t : Table ℕ). t.entries) c.set_written.ensures)
    (record { stands = c.relist.ensures.stands; others = c.relist.ensures.others; indices = c.relist.ensures.indices; lists = c.relist.ensures.lists }) in
    same_fields _ _ (ap (λ (s : Objects). s.pages) c.self.view_is) (ap (λ (s : Objects). s.held) c.self.view_is)
    (step.allocated ∙ ap (λ (s : Objects). map.remove s.allocated (slot_place c.args.first c.args.class c.args.slot)) c.self.view_is)

pub returns-clause-objects : goal.returns-clause-objects
returns-clause-objects c = are_objects (invariant_of-self c).0
