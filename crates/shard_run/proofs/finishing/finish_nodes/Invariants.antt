-- So many nodes are left.
use Rattle.std.specs.Prelude.{◌≡◌, length}
use Rattle.std.specs.Vec.Iter.{into_iter_items, into_iter_len}
use Rattle.shard_run.proofs.Finishings.{AreFinished}
use Rattle.shard_run.proofs.finishing.finish_nodes.Given as goal

abbrev pub invariant-loop-node : goal.invariant-loop-node
invariant-loop-node g l =
    AreFinished l.fn.into.ran.trace l.fn.into.ran.pages l.fn.nodes.items (into_iter_items l.node-iterator) l.into × (into_iter_len l.node-iterator ≡ length (into_iter_items l.node-iterator))
