use Rattle.std.proofs.Common.{ap, ◌∙◌}
use Rattle.part_examples.proofs.Empty.{none-stands}
use Rattle.part_examples.proofs.tests.new_region.Goals as goal

pub returns : goal.returns
returns c = λ p. c.begin.ensures p ∙ c.in_ok-add_segments.ensures p ∙ none-stands c.in_ok-region.region 5 p (ap (λ r. r.segments) c.in_ok-region.ensures)
