use Rattle.std.proofs.Common.{take}
use Rattle.regions.specs.Contents.{live_at}
use Rattle.index_tree.specs.Splits.{Adopts, child_places}
use Rattle.index_tree.specs.Store.{nodes_of}
use Rattle.index_tree.proofs.adopting.adopt.Given as goal

abbrev pub invariant-loop-j : goal.invariant-loop-j
invariant-loop-j l = Adopts (take l.j (child_places l.n (nodes_of (live_at l.fn.region) l.at))) (child_places l.n (nodes_of (live_at l.fn.region) l.at)) l.link l.fn.region l.region
