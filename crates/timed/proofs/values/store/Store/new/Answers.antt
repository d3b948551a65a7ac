use Rattle.std.proofs.Common.{ap, ◌∙◌}
use Rattle.regions.specs.Shapes.{held_count}
use Rattle.timed.proofs.Held.{none_held}
use Rattle.timed.proofs.values.store.Store.new.Goals as goal

pub add_segments-requires-clause-none : goal.add_segments-requires-clause-none
add_segments-requires-clause-none c = ap held_count c.in_ok-fragments.ensures.region ∙ none_held c.args.segments
