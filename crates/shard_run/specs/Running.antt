-- Nodes that were driven.
use Rattle.std.specs.Prelude.{◌≡◌, ℕ, List, length, All, Some, slice_get}
use Rattle.trace_text.specs.Trace.{Trace}
use Rattle.foreign_list.specs.Lists.{OwnedList}
use Rattle.shard_rings.specs.Links.{LinkState, end_of, traffic_of}
use Rattle.shard_node.specs.Nodes.{NodeState}
use Rattle.shard_node.specs.Standing.{InStanding}
use Rattle.shard_node.specs.Turns.{IsDone, IsSameNode}
use Rattle.shard_run.specs.Opening.{AreOpened}

-- The nodes were opened for this run, and turns alone changed them since: each is the node that was opened in its place. Now they
-- are in standing, and done.
pub record WereDriven {G : Type 0} (holds : G → ℕ) (trace : Trace) (n pages : ℕ) (homes : List OwnedList) (nodes : List (NodeState LinkState G)) : Type 0 where
  pub opened : List (NodeState LinkState G)
  pub are_opened : AreOpened trace n pages homes opened
  pub count : length nodes ≡ length opened
  pub same : (s : ℕ) (old new : NodeState LinkState G) → slice_get opened s ≡ Some old → slice_get nodes s ≡ Some new → IsSameNode end_of old new
  pub standing : All (InStanding traffic_of) nodes
  pub done : All (IsDone traffic_of holds) nodes
