use Rattle.std.proofs.Common.{sym, ap, ◌∙◌}
use Rattle.std.specs.Prelude.{slice_set}
use Rattle.std.proofs.lemmas.List.Edits.{map_over_more}
use Rattle.regions.specs.inside.Consistent.{cleared}
use Rattle.regions.proofs.group.clear_groups.Goals as goal

pub loop-group-preserved : goal.loop-group-preserved
loop-group-preserved c =
    ap (λ f. slice_set c.loop-group.groups c.loop-group.group f) (c.clear.ensures ∙ ap cleared (sym c.index-groups-group.is))
    ∙ map_over_more cleared c.args.groups.now c.loop-group.groups c.loop-group.group c.index-groups-group.result c.loop-group-test.true c.loop-group.invariant c.index-groups-group.is
