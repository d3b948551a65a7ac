use Rattle.std.proofs.Common.{◌≡◌, ◌⊎◌, ℕ}
use Rattle.regions.specs.Counts.{live_bytes_at}
use Rattle.regions.specs.Contents.{live_at, IsStart, NoneLives}
use Rattle.regions.specs.Stores.{store_of}
use Rattle.compaction.specs.Sparse.{IsSparse}
use Rattle.compaction.specs.inside.Drained.{IsDrained, Took}
use Rattle.compaction.proofs.draining.drain.Given as goal

-- what stands before the offset is moved
abbrev pub invariant-loop-found : goal.invariant-loop-found
invariant-loop-found g l = record {
  fits : g.M.Movers.fits l.movers (live_at l.region);
  store : (n : ℕ) → store_of g.M.Movers.bare (g.M.Movers.place_of l.movers) (live_at l.region) n ≡ store_of g.M.Movers.bare (g.M.Movers.place_of l.fn.movers) (live_at l.fn.region) n;
  rest : g.M.Movers.rest l.movers ≡ g.M.Movers.rest l.fn.movers;
  drained : IsDrained g.M.Movers.bare l.source l.fn.region l.region;
  sparse : IsSparse l.region l.source;
  took : Took l.group l.source l.fn.region l.region;
  start : (l.from ≡ 0) ⊎ IsStart l.region l.source l.from;
  none : NoneLives l.region l.source 0 l.from;
}

abbrev pub decreases-loop-found : goal.decreases-loop-found
decreases-loop-found g l = live_bytes_at l.region l.source
