use Rattle.std.proofs.Common.{ℕ, subst}
use Rattle.regions.specs.Segments.{RegionState}
use Rattle.regions.specs.Shapes.{HasGroup, IsClosed, IsClosedIn}
use Rattle.regions.proofs.Regions.{closed-in-one}
use Rattle.regions.proofs.region.Region.groups.Goals as goal

pub returns-clause-closed : goal.returns-clause-closed
returns-clause-closed c =
    let i = c.self.inside in
    subst (λ (q : RegionState). (n : ℕ) → IsClosed q n → (g : ℕ) × HasGroup q g × IsClosedIn q g n) c.self.view_is (closed-in-one i.most i.groups.items i.held i.free i.slots.items c.self.invariant.0)
