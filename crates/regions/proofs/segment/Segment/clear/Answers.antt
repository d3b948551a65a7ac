use Rattle.std.proofs.Common.{◌≡◌, Some, None, sym, subst}
use Rattle.regions.specs.Counts.{live_in}
use Rattle.regions.specs.Contents.{item_if_live, standing_in}
use Rattle.regions.proofs.Objects.{dead-segment}
use Rattle.regions.proofs.segment.Segment.clear.Goals as goal

pub returns-clause-dead : goal.returns-clause-dead
returns-clause-dead c z at =
    let i = c.self.inside in let v = c.self.invariant in
    subst (λ h. item_if_live (standing_in (Some h) at) ≡ None) c.self.view_is
    (dead-segment i.piece.bytes i.used i.group v.1 v.2 (subst (λ h. live_in (Some h) ≡ 0) (sym c.self.view_is) z) at)
