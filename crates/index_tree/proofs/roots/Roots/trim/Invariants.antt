-- It is the same tree, and fewer nodes are spare.
use Rattle.std.proofs.Common.{◌≡◌, ◌*◌, length}
use Rattle.regions.specs.Shapes.{shape}
use Rattle.regions.specs.Counts.{live_total}
use Rattle.regions.specs.Contents.{live_at}
use Rattle.index_tree.specs.Sizes.{node_object}
use Rattle.index_tree.specs.inside.Rosters.{IsRosterOf, IsSameTree, Remain}
use Rattle.index_tree.proofs.roots.Roots.trim.Given as goal

abbrev pub invariant-loop-self : goal.invariant-loop-self
invariant-loop-self l = record {
  roster : IsRosterOf l.self (live_at l.region);
  same : IsSameTree l.initial.self l.self;
  counted : live_total l.initial.region ≡ node_object * length l.initial.self.known.places → live_total l.region ≡ node_object * length l.self.known.places;
  remain : Remain (live_at l.initial.region) (live_at l.region);
  shape : shape l.region ≡ shape l.initial.region;
}

abbrev pub decreases-loop-self : goal.decreases-loop-self
decreases-loop-self l = length l.self.tree.spares
