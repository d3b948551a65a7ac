use Rattle.std.proofs.Common.{◌/◌, ap, ◌∙◌}
use Rattle.layout.specs.Sizes.{segment_pages}
use Rattle.regions.specs.Segments.{RegionState}
use Rattle.regions.specs.Shapes.{guards_of, held_count}
use Rattle.place_lemmas.proofs.Ranges.{none_held}
use Rattle.segmented_store.proofs.Unheld.{none_counted}
use Rattle.segmented_store.proofs.ranged.Ranged.open.Goals as goal

pub add_segments-requires-clause-none : goal.add_segments-requires-clause-none
add_segments-requires-clause-none g c =
    none_held c.in_ok-range.range (g.S.Segmented.region c.args.store) _ c.requires.none (ap held_count c.requires.none ∙ none_counted (c.args.pages / segment_pages))
    c.in_ok-range.ensures.none_allocated

pub invariant_of-result : goal.invariant_of-result
invariant_of-result g c = record {
  are = c.requires.pages;
  first = c.add_segments.ensures.added;
  unguarded = c.add_segments.ensures.guards ∙ ap (λ (r : RegionState). guards_of r 0) c.requires.none;
}

pub returns-clause-held : goal.returns-clause-held
returns-clause-held g c = c.add_segments.ensures.added.held
