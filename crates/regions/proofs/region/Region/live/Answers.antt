use Rattle.std.proofs.Common.{ap, ◌∙◌}
use Rattle.regions.specs.Counts.{live_total}
use Rattle.regions.proofs.region.Region.live.Goals as goal

pub returns : goal.returns
returns c = (c.self.invariant.1).summed ∙ ap (λ q. live_total q) c.self.view_is
