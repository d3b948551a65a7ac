use Rattle.std.proofs.Common.{◌≡◌, ◌+◌, ◌-◌, ◌<◌, ℕ, List, ◌++◌, length, take, drop, ap, ◌∙◌, arith}
use Rattle.byteorder.specs.Endian.{little_bytes}
use Rattle.regions.specs.Contents.{live_at}
use borrow.Rule.Slice.PartMut.{put_mid}
use Rattle.tree_nodes.specs.Nodes.{TreeNode, entry_at, node_in}
use Rattle.index_tree.specs.Scans.{IsWritten}
use Rattle.index_tree.specs.Store.{nodes_of}
use Rattle.index_tree.proofs.SearchNode.{node_there}
use Rattle.index_tree.proofs.SearchScan.{entry_more}
use Rattle.index_tree.proofs.scanning.write_entries.Goals as goal
use Rattle.index_tree.proofs.Touches.{if_value, value_of}

pub loop-i-preserved : goal.loop-i-preserved
loop-i-preserved c =
    let live = live_at c.args.region.now in let p = c.args.leaf in let h = c.requires.node in
    let node : TreeNode = node_in h.0.content in
    let o = nodes_of live p in
    let is = node_there live p h in
    let l = c.loop-i in let keys = l.scanned.keys in let bytes = l.scanned.bytes in
    let key = value_of (λ node. c.key_at.result.now ≡ (entry_at node l.i).key) o node is c.key_at.ensures in
    let count = value_of (λ node. c.count_at-i-end.result ≡ length node.entries) o node is c.count_at-i-end.ensures in
    let test = c.loop-i-test.true in
    let within : l.i < length node.entries = omega (arith, count, test) in
    record {
      few = (let few = l.invariant.few in let other = c.if-scanned-most.false in omega (arith, few, other));
      so_far = (let so = l.invariant.so_far in omega (arith, so));
      written =
          if_value (λ node. IsWritten (take (keys + 1) (drop c.args.from node.entries)) (keys + 1) (bytes + c.write_key.result) c.args.into.now (put_mid bytes (length l.into - bytes) l.into c.write_key.new.into)) o node is
          (entry_more node h.2.node c.args.from l.i keys bytes c.write_key.result c.args.into.now l.into c.write_key.new.into l.invariant.so_far within
          (c.write_key.ensures.bytes ∙ ap (λ (k : List ℕ). 2 + length k) key)
          (c.write_key.ensures.written ∙ ap (λ (k : List ℕ). (little_bytes 2 (length k) ++ k) ++ drop c.write_key.result (take (length l.into - bytes) (drop bytes l.into))) key)
          (value_of (λ node. IsWritten (take keys (drop c.args.from node.entries)) keys bytes c.args.into.now l.into) o node is l.invariant.written));
    }
