use Rattle.std.proofs.Common.{ℕ, ◌+◌, ◌*◌, refl, sym, ap, ◌∙◌, arith}
use Rattle.std.specs.FinMap as map
use Rattle.layout.specs.Sizes.{page}
use Rattle.small_pools.specs.Classes.{size_of}
use Rattle.common_lemmas.proofs.Maps.{get_inserted}
use Rattle.small_pools.specs.Objects.{Objects, slot_place}
use Rattle.small_pools.proofs.Tables.{are_objects}
use Rattle.small_pools.proofs.Steps.{same_fields, held_at, first_below, written_still, has_free, stands_with_room, popped, place_fits}
use Rattle.index_lists.specs.Table.{Table}
use Rattle.small_pools.proofs.held_spans.HeldSpans.pop.Goals as goal

pub get_written-before-requires : goal.get_written-before-requires
get_written-before-requires c = first_below c.self.invariant.1.masks_written (held_at c.self.invariant.0 c.self.view_is c.args.first c.args.class c.requires.held)

pub least_free-slot-requires : goal.least_free-slot-requires
least_free-slot-requires c =
    let span = held_at c.self.invariant.0 c.self.view_is c.args.first c.args.class c.requires.held in
    has_free c.self.invariant.0 c.self.view_is c.args.first c.args.class c.get_written-before.result span c.requires.room c.get_written-before.ensures

pub set_written-requires : goal.set_written-requires
set_written-requires c = first_below c.self.invariant.1.masks_written (held_at c.self.invariant.0 c.self.view_is c.args.first c.args.class c.requires.held)

pub list_for-requires : goal.list_for-requires
list_for-requires c = (held_at c.self.invariant.0 c.self.view_is c.args.first c.args.class c.requires.held).class.within

pub class_size-requires : goal.class_size-requires
class_size-requires c = (held_at c.self.invariant.0 c.self.view_is c.args.first c.args.class c.requires.held).class.within

pub relist-requires-clause-index : goal.relist-requires-clause-index
relist-requires-clause-index c = (held_at c.self.invariant.0 c.self.view_is c.args.first c.args.class c.requires.held).in_lists

pub relist-requires-clause-from : goal.relist-requires-clause-from
relist-requires-clause-from c = (held_at c.self.invariant.0 c.self.view_is c.args.first c.args.class c.requires.held).list

pub relist-requires-clause-stands : goal.relist-requires-clause-stands
relist-requires-clause-stands c =
    let span = held_at c.self.invariant.0 c.self.view_is c.args.first c.args.class c.requires.held in
    stands_with_room c.self.invariant.0 c.args.first c.args.class c.get_written-before.result span c.get_written-before.ensures
    (has_free c.self.invariant.0 c.self.view_is c.args.first c.args.class c.get_written-before.result span c.requires.room c.get_written-before.ensures)

pub overflow_mul-result : goal.overflow_mul-result
overflow_mul-result c =
    let below = (held_at c.self.invariant.0 c.self.view_is c.args.first c.args.class c.requires.held).below in
    let small = c.self.invariant.0.small in
    omega arith

pub overflow_add-result : goal.overflow_add-result
overflow_add-result c =
    let span = held_at c.self.invariant.0 c.self.view_is c.args.first c.args.class c.requires.held in
    let step = popped c.self.invariant.0 c.args.first c.args.class c.get_written-before.result c.least_free-slot.result c.occupied-mask.result c.list_for.result c.set_written.new.self.entries c.relist.new.lists
    span c.get_written-before.ensures c.least_free-slot.ensures.free c.occupied-mask.ensures.taken c.occupied-mask.ensures.others c.list_for.ensures.value (ap (λ (t : Table ℕ). t.entries) c.set_written.ensures)
    (record { stands = c.relist.ensures.stands; others = c.relist.ensures.others; indices = c.relist.ensures.indices; lists = c.relist.ensures.lists }) in
    let fits = place_fits c.self.invariant.0 c.args.first c.args.class c.least_free-slot.result c.class_size.result span step.in_slot c.class_size.ensures.value in
    omega (arith, fits)

pub invariant_of-self : goal.invariant_of-self
invariant_of-self c =
    let span = held_at c.self.invariant.0 c.self.view_is c.args.first c.args.class c.requires.held in (
      (popped c.self.invariant.0 c.args.first c.args.class c.get_written-before.result c.least_free-slot.result c.occupied-mask.result c.list_for.result c.set_written.new.self.entries c.relist.new.lists
          span c.get_written-before.ensures c.least_free-slot.ensures.free c.occupied-mask.ensures.taken c.occupied-mask.ensures.others c.list_for.ensures.value (ap (λ (t : Table ℕ). t.entries) c.set_written.ensures)
          (record { stands = c.relist.ensures.stands; others = c.relist.ensures.others; indices = c.relist.ensures.indices; lists = c.relist.ensures.lists })).consistent,
      written_still c.self.invariant.1 (ap (λ (t : Table ℕ). t.written) c.set_written.ensures),
    )

pub returns : goal.returns
returns c =
    let span = held_at c.self.invariant.0 c.self.view_is c.args.first c.args.class c.requires.held in
    let step = popped c.self.invariant.0 c.args.first c.args.class c.get_written-before.result c.least_free-slot.result c.occupied-mask.result c.list_for.result c.set_written.new.self.entries c.relist.new.lists
    span c.get_written-before.ensures c.least_free-slot.ensures.free c.occupied-mask.ensures.taken c.occupied-mask.ensures.others c.list_for.ensures.value (ap (λ (t : Table ℕ). t.entries) c.set_written.ensures)
    (record { stands = c.relist.ensures.stands; others = c.relist.ensures.others; indices = c.relist.ensures.indices; lists = c.relist.ensures.lists }) in
    let place = slot_place c.args.first c.args.class c.least_free-slot.result in
    record {
      was_free = ap (λ n. map.get c.args.self.now.allocated (page * c.args.first + c.least_free-slot.result * n)) c.class_size.ensures.value
          ∙ ap (λ (s : Objects). map.get s.allocated place) (sym c.self.view_is) ∙ step.was_free;
      moves = same_fields _ _ (ap (λ (s : Objects). s.pages) c.self.view_is) (ap (λ (s : Objects). s.held) c.self.view_is)
          (step.allocated ∙ ap (λ (s : Objects). map.insert s.allocated place (size_of c.args.class)) c.self.view_is
          ∙ ap (λ n. map.insert c.args.self.now.allocated (page * c.args.first + c.least_free-slot.result * n) (size_of c.args.class)) (sym c.class_size.ensures.value));
      has = (c.least_free-slot.result, step.in_slot, ap (λ m. map.get m place) step.allocated ∙ get_inserted _ place (size_of c.args.class) place refl);
      objects = are_objects (invariant_of-self c).0;
    }
