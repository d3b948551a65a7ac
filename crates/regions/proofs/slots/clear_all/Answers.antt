use Rattle.std.proofs.Common.{sym, ap, ◌∙◌}
use Rattle.std.specs.Prelude.{slice_set, option_map}
use Rattle.std.proofs.lemmas.List.Edits.{map_over_more}
use Rattle.regions.specs.Segments.{emptied}
use Rattle.regions.proofs.slots.clear_all.Goals as goal

pub loop-number-preserved : goal.loop-number-preserved
loop-number-preserved c =
    ap (λ s. slice_set c.loop-number.slots c.loop-number.number s) (c.clear.ensures.cleared ∙ ap (λ s. option_map emptied s) (sym c.index-slots-number.is))
    ∙ map_over_more (λ s. option_map emptied s) c.args.slots.now c.loop-number.slots c.loop-number.number c.index-slots-number.result c.loop-number-test.true c.loop-number.invariant c.index-slots-number.is
