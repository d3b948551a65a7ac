use Rattle.std.proofs.Common.{ap, ◌∙◌}
use Rattle.regions.specs.Segments.{RegionState}
use Rattle.regions.specs.Shapes.{held_count}
use Rattle.dirty_region.proofs.Stored.{consistent_new, none_held}
use Rattle.dirty_region.proofs.dirty.Dirty.new.Goals as goal

pub invariant_of-result : goal.invariant_of-result
invariant_of-result c =
    let i = c.in_ok-new_index.ensures in let w = c.in_ok-with_capacity.ensures.capacity in (
      consistent_new c.in_ok-new-2.field-0 c.in_ok-new_index.field-0 c.in_ok-new.field-0 c.args.rows c.args.segments c.in_ok-new-2.ensures c.ranges.rows.fits c.in_ok-new.ensures c.requires.segments i.room i.none i.keyed,
      w,
    )

pub returns-clause-held : goal.returns-clause-held
returns-clause-held c = ap (λ (x : RegionState). held_count x) c.in_ok-new.ensures ∙ none_held c.args.segments
