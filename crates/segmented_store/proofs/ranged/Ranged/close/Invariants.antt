-- The first segments are held still.
use Rattle.regions.specs.Shapes.{guards_of, held_count}
use Rattle.std.proofs.Common.{◌≡◌}
use Rattle.place_lemmas.specs.Ranges.{HoldsFirst}
use Rattle.segmented_store.proofs.ranged.Ranged.close.Given as goal

abbrev pub invariant-loop-piece : goal.invariant-loop-piece
invariant-loop-piece g l = record {
  first : HoldsFirst l.range (g.S.Segmented.region l.store) (held_count (g.S.Segmented.region l.store));
  unguarded : guards_of (g.S.Segmented.region l.store) 0 ≡ 0;
}

abbrev pub decreases-loop-piece : goal.decreases-loop-piece
decreases-loop-piece g l = held_count (g.S.Segmented.region l.store)
