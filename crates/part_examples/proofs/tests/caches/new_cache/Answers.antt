use Rattle.std.proofs.Common.{ap, ◌∙◌}
use Rattle.regions.specs.Shapes.{held_count}
use Rattle.part_examples.proofs.Empty.{none_held}
use Rattle.part_examples.proofs.tests.caches.new_cache.Goals as goal

pub add_segments-requires-clause-none : goal.add_segments-requires-clause-none
add_segments-requires-clause-none c = ap held_count c.in_ok-cache.ensures.region ∙ none_held c.args.segments
