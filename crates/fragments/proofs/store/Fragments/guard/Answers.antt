use Rattle.std.proofs.Common.{ap, ◌∙◌}
use Rattle.regions.specs.Segments.{RegionState}
use Rattle.fragments.specs.Store.{StoreState, values_of}
use Rattle.fragments.specs.inside.Consistent.{values_in}
use Rattle.fragments.proofs.States.{consistent_guarded}
use Rattle.fragments.proofs.store.Fragments.guard.Goals as goal

pub invariant_of-self : goal.invariant_of-self
invariant_of-self c = (let f = c.self.inside in consistent_guarded f.tables f.region c.guard.new.self f.lengths.items f.segments 0 _ c.self.invariant c.guard.ensures.guards)

pub returns-clause-values : goal.returns-clause-values
returns-clause-values c = ap (λ (r : RegionState). values_in c.self.inside.tables r) c.guard.ensures.guards ∙ ap (λ (s : StoreState). values_of s) c.self.view_is
