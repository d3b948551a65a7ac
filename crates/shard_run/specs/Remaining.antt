-- What the nodes of a run leave as they finish.
use Rattle.std.specs.Prelude.{◌≡◌, ℕ, ◌^◌, ◌<◌, ◌≤◌, List, [], length, map, vec_capacity, Some, slice_get}
use Rattle.trace_text.specs.Trace.{Trace}
use Rattle.foreign_list.specs.OwnerSeats.{OwnerState, IsAtRest}
use Rattle.shard_rings.specs.Links.{LinkState, traffic_of}
use Rattle.shard_node.specs.Nodes.{NodeState, others}
use Rattle.run_log.specs.Runs.{IsOfRun}
use Rattle.shard_node.specs.Lines.{line_of}
use Rattle.shard_node.specs.Turns.{IsDone}
use Rattle.shard_run.specs.Opening.{links_of}
use Rattle.shard_run.specs.declared.remains.Remains.{Remains}

-- nothing was left yet of a run of this trace on n shards of so many pages each, and there is room for what its nodes will leave
pub record IsRoomFor (trace : Trace) (n pages : ℕ) (remains : Remains) : Type 0 where
  pub run : IsOfRun trace n pages remains.ran
  pub journals : remains.ran.journals ≡ []
  pub logs : remains.ran.logs ≡ []
  pub lines : remains.ran.lines ≡ []
  pub links : remains.links.items ≡ []
  pub seats : remains.seats.items ≡ []
  pub link_room : n ≤ vec_capacity remains.links
  pub seat_room : n ≤ vec_capacity remains.seats

module _ {G : Type 0} where
  -- node s is that of shard s of n with so many pages, at work on this trace, and it is done
  pub record CanFinish (holds : G → ℕ) (trace : Trace) (n pages s : ℕ) (node : NodeState LinkState G) : Type 0 where
    pub number : node.shard ≡ s
    pub shards : node.shards ≡ n
    pub room : node.pages ≡ pages
    pub work : node.trace ≡ trace
    pub done : IsDone traffic_of holds node

  -- so each of them, of as many shards as there are nodes
  abbrev pub AllCanFinish : (G → ℕ) → Trace → ℕ → List (NodeState LinkState G) → Type 0
  AllCanFinish holds trace pages nodes = (s : ℕ) (node : NodeState LinkState G) → slice_get nodes s ≡ Some node
      → CanFinish holds trace (length nodes) pages s node

  -- What holds of a node at each time: its peers are the other shards, in rising order, and its count of the blocks that came back
  -- is a u64.
  pub record HasFacts (node : NodeState LinkState G) : Type 0 where
    pub peers : map (λ peer. peer.shard) node.peers ≡ others node.shards node.shard
    pub counted : node.store.backs < 2 ^ 64

  abbrev pub AllHaveFacts : List (NodeState LinkState G) → Type 0
  AllHaveFacts nodes = (s : ℕ) (node : NodeState LinkState G) → slice_get nodes s ≡ Some node → HasFacts node

  -- What these nodes left: of each its journal, its log and the line of its store, its links in the order of its peers, and
  -- the seat at its list, at rest.
  pub record AreLeftBy (nodes : List (NodeState LinkState G)) (remains : Remains) : Type 0 where
    pub journals : remains.ran.journals ≡ map (λ node. node.journal) nodes
    pub logs : remains.ran.logs ≡ map (λ node. node.log) nodes
    pub lines : remains.ran.lines ≡ map (λ node. line_of node.store) nodes
    pub links : map (λ row. row.items) remains.links.items ≡ map links_of nodes
    pub one_seat_each : length remains.seats.items ≡ length nodes
    pub seats : (s : ℕ) (node : NodeState LinkState G) (seat : OwnerState) → slice_get nodes s ≡ Some node → slice_get remains.seats.items s ≡ Some seat
        → IsAtRest node.store.list seat
