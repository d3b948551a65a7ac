use Rattle.std.proofs.Common.{◌≡◌, ◌+◌, ◌≤◌, take, drop}
use Rattle.std.specs.Prelude.{IfSome}
use Rattle.regions.specs.Contents.{live_at}
use Rattle.index_tree.specs.Scans.{IsWritten}
use Rattle.index_tree.specs.Store.{nodes_of}
use Rattle.index_tree.proofs.scanning.write_entries.Given as goal

abbrev pub invariant-loop-i : goal.invariant-loop-i
invariant-loop-i l = record {
  few : l.scanned.keys ≤ l.most;
  so_far : l.i ≡ l.from + l.scanned.keys;
  written : IfSome (nodes_of (live_at l.region) l.leaf) (λ node. IsWritten (take l.scanned.keys (drop l.from node.entries)) l.scanned.keys l.scanned.bytes l.fn.into l.into);
}
