-- The values are none, and there are as many names as were asked for.
use Rattle.std.proofs.Common.{List, Option, length, ap, ◌∙◌}
use Rattle.regions.specs.declared.place.Place.{Place}
use Rattle.fragments.specs.Values.{Values}
use Rattle.values_mode.proofs.store.open_values.Goals as goal

pub invariant_of-result : goal.invariant_of-result
invariant_of-result c = record { many = ap (λ (x : List (Option Place) × Values). length x.0) c.in_ok-ranged.ensures.content ∙ c.in_ok-fragments.ensures.names }

pub returns-clause-empty : goal.returns-clause-empty
returns-clause-empty c = record { values = ap (λ (x : List (Option Place) × Values). x.1) c.in_ok-ranged.ensures.content ∙ c.in_ok-fragments.ensures.values }

pub returns-clause-held : goal.returns-clause-held
returns-clause-held c = c.in_ok-ranged.ensures.held
