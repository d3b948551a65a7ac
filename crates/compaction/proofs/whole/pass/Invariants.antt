use Rattle.std.proofs.Common.{◌≡◌, ◌≤◌, ℕ, List}
use Rattle.regions.specs.Segments.{RegionState}
use Rattle.regions.specs.Shapes.{free_count, IsUnguarded}
use Rattle.regions.specs.Counts.{used_total}
use Rattle.regions.specs.Contents.{live_at}
use Rattle.regions.specs.Stores.{store_of}
use Rattle.compaction.specs.Emptied.{HoldsTheSame}
use Rattle.compaction.specs.Passes.{Passes}
use Rattle.compaction.proofs.whole.pass.Given as goal

abbrev pub invariant-loop-region : goal.invariant-loop-region
invariant-loop-region g l = record {
  guards : IsUnguarded l.region;
  free : 1 ≤ free_count l.region;
  fits : g.M.Movers.fits l.movers (live_at l.region);
  store : (n : ℕ) → store_of g.M.Movers.bare (g.M.Movers.place_of l.movers) (live_at l.region) n ≡ store_of g.M.Movers.bare (g.M.Movers.place_of l.fn.movers) (live_at l.fn.region) n;
  rest : g.M.Movers.rest l.movers ≡ g.M.Movers.rest l.fn.movers;
  holds : HoldsTheSame l.fn.region l.region;
  enough : 2 ≤ free_count l.fn.region → (l.region ≡ l.fn.region) × (l.movers ≡ l.fn.movers);
  steps : (states : List RegionState) × Passes g.M.Movers.bare l.fn.region states l.region;
}

-- dead bytes are used no more
abbrev pub decreases-loop-region : goal.decreases-loop-region
decreases-loop-region g l = used_total l.region
