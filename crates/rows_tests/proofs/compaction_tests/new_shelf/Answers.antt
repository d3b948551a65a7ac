use Rattle.std.proofs.Common.{◌≡◌, ap, ◌∙◌}
use Rattle.std.specs.Prelude.{None}
use Rattle.slab.specs.Slab.{get}
use Rattle.regions.specs.Contents.{item_if_live, standing_at, live_at}
use Rattle.regions.specs.declared.place.Place.{Place}
use Rattle.rows_tests.proofs.Named.{named-none, none-stands}
use Rattle.rows_tests.proofs.compaction_tests.new_shelf.Goals as goal

pub returns : goal.returns
returns c =
    let none : (p : Place) → standing_at c.add_segments.new.region p ≡ None =
    λ p. c.in_ok-add_segments.ensures p ∙ none-stands c.in_ok-region.region 5 p (ap (λ r. r.segments) c.in_ok-region.ensures) in
    named-none (get c.new-2.result.places) (live_at c.add_segments.new.region) c.new-2.ensures (λ p. ap item_if_live (none p))
