use Rattle.std.proofs.Common.{ℕ, Option, ap, ◌∙◌}
use Rattle.std.specs.FinMap as map
use Rattle.small_pools.specs.Objects.{Objects}
use Rattle.small_pools.proofs.Tables.{are_objects}
use Rattle.small_pools.proofs.Steps.{same_fields, held_at, first_below, written_without, stands_by_mask, dropped}
use Rattle.index_lists.specs.Table.{Table}
use Rattle.small_pools.proofs.held_spans.HeldSpans.remove.Goals as goal

pub get_written-mask-requires : goal.get_written-mask-requires
get_written-mask-requires c = first_below c.self.invariant.1.masks_written (held_at c.self.invariant.0 c.self.view_is c.args.first c.args.class c.requires.held)

pub list_for-requires : goal.list_for-requires
list_for-requires c = (held_at c.self.invariant.0 c.self.view_is c.args.first c.args.class c.requires.held).class.within

pub relist-requires-clause-index : goal.relist-requires-clause-index
relist-requires-clause-index c = (held_at c.self.invariant.0 c.self.view_is c.args.first c.args.class c.requires.held).in_lists

pub relist-requires-clause-stands : goal.relist-requires-clause-stands
relist-requires-clause-stands c =
    let span = held_at c.self.invariant.0 c.self.view_is c.args.first c.args.class c.requires.held in
    stands_by_mask c.self.invariant.0 c.args.first c.args.class c.get_written-mask.result c.list_for.result span c.get_written-mask.ensures c.list_for.ensures.value

pub set_written-requires : goal.set_written-requires
set_written-requires c = first_below c.self.invariant.1.classes_written (held_at c.self.invariant.0 c.self.view_is c.args.first c.args.class c.requires.held)

pub invariant_of-self : goal.invariant_of-self
invariant_of-self c =
    let span = held_at c.self.invariant.0 c.self.view_is c.args.first c.args.class c.requires.held in (
      (dropped c.self.invariant.0 c.self.view_is c.args.first c.args.class c.set_written.new.self.entries c.relist.new.lists span c.requires.unused (ap (λ (t : Table (Option ℕ)). t.entries) c.set_written.ensures)
          (record { stands = c.relist.ensures.stands; others = c.relist.ensures.others; indices = c.relist.ensures.indices; lists = c.relist.ensures.lists })).consistent,
      written_without c.self.invariant.1 c.args.first (ap (λ (t : Table (Option ℕ)). t.entries) c.set_written.ensures) span.in_classes (ap (λ (t : Table (Option ℕ)). t.written) c.set_written.ensures),
    )

pub returns-clause-moves : goal.returns-clause-moves
returns-clause-moves c =
    let span = held_at c.self.invariant.0 c.self.view_is c.args.first c.args.class c.requires.held in
    let step = dropped c.self.invariant.0 c.self.view_is c.args.first c.args.class c.set_written.new.self.entries c.relist.new.lists span c.requires.unused (ap (λ (t : Table (Option ℕ)). t.entries) c.set_written.ensures)
    (record { stands = c.relist.ensures.stands; others = c.relist.ensures.others; indices = c.relist.ensures.indices; lists = c.relist.ensures.lists }) in
    same_fields _ _ (ap (λ (s : Objects). s.pages) c.self.view_is) (step.held ∙ ap (λ (s : Objects). map.remove s.held c.args.first) c.self.view_is) (step.allocated ∙ ap (λ (s : Objects). s.allocated) c.self.view_is)

pub returns-clause-objects : goal.returns-clause-objects
returns-clause-objects c = are_objects (invariant_of-self c).0
