use Rattle.std.proofs.Common.{◌-◌, Some}
use Rattle.regions.specs.Contents.{live_at}
use Rattle.index_tree.specs.Indexes.{from}
use Rattle.index_tree.specs.Store.{nodes_of}
use Rattle.index_tree.specs.Trees.{held_below}
use Rattle.index_tree.proofs.SearchScan.{IsAlong}
use Rattle.index_tree.proofs.scanning.range_in.Given as goal

abbrev pub invariant-loop-scanned : goal.invariant-loop-scanned
invariant-loop-scanned l =
    IsAlong (nodes_of (live_at l.region)) (from l.lo (held_below (nodes_of (live_at l.region)) l.level (Some l.fn.root))) l.count l.at l.scanned.keys l.scanned.bytes l.fn.into l.into

abbrev pub decreases-loop-scanned : goal.decreases-loop-scanned
decreases-loop-scanned l = l.count - l.scanned.keys
