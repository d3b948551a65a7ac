-- The nodes of a run, as they are opened.
use Rattle.std.specs.Prelude.{◌≡◌, ℕ, ◌+◌, ◌≤◌, List, length, map, Some, slice_get}
use Rattle.trace_text.specs.Trace.{Trace}
use Rattle.foreign_list.specs.Lists.{OwnedList}
use Rattle.foreign_list.specs.OwnerSeats.{OwnerState, IsAtRest}
use Rattle.shard_rings.specs.Lanes.{ArePair}
use Rattle.shard_rings.specs.Links.{LinkState, end_of, traffic_of}
use Rattle.shard_node.specs.Nodes.{NodeState, others}
use Rattle.shard_node.specs.Standing.{InStanding}

-- there are n lists, and list s is that of shard s
pub record AreLists (n : ℕ) (homes : List OwnedList) : Type 0 where
  pub count : length homes ≡ n
  pub owners : (s : ℕ) (home : OwnedList) → slice_get homes s ≡ Some home → home.owner ≡ s

-- each of these seats is that of the list in its place, at rest
abbrev pub AreSeatsOf : List OwnedList → List OwnerState → Type 0
AreSeatsOf homes seats = (s : ℕ) (home : OwnedList) (seat : OwnerState) → slice_get homes s ≡ Some home → slice_get seats s ≡ Some seat → IsAtRest home seat

-- there is one for each list of n shards
pub record AreAtRest (n : ℕ) (homes : List OwnedList) (seats : List OwnerState) : Type 0 where
  pub lists : AreLists n homes
  pub one_each : length seats ≡ n
  pub at_rest : AreSeatsOf homes seats

module _ {G : Type 0} where
  -- the links of a node, in the order of its peers
  abbrev pub links_of : NodeState LinkState G → List LinkState
  links_of node = map (λ peer. peer.link) node.peers

  -- it is the k-th link of the node a
  pub record IsLinkOf (nodes : List (NodeState LinkState G)) (a k : ℕ) (link : LinkState) : Type 0 where
    pub node : NodeState LinkState G
    pub node_at : slice_get nodes a ≡ Some node
    pub link_at : slice_get (links_of node) k ≡ Some link

  -- each two nodes have the two ends of a pair toward each other
  abbrev pub AreJoined : List (NodeState LinkState G) → Type 0
  AreJoined nodes = (a c : ℕ) (x y : LinkState) → a ≤ c → IsLinkOf nodes a c x → IsLinkOf nodes (c + 1) a y → ArePair (end_of x) (end_of y)

  module _ (trace : Trace) (n pages : ℕ) where
    -- the node of shard s, which has made no turn
    pub record IsOpened (s : ℕ) (home : OwnedList) (node : NodeState LinkState G) : Type 0 where
      pub number : node.shard ≡ s
      pub shards : node.shards ≡ n
      pub room : node.pages ≡ pages
      pub work : node.trace ≡ trace
      pub list : node.store.list ≡ home
      -- its peers are the other shards, in rising order
      pub peers : map (λ peer. peer.shard) node.peers ≡ others n s
      pub standing : InStanding traffic_of node
      pub unturned : node.turns ≡ 0

    -- node s is that of shard s, and its blocks come home over list s
    pub record AreOpened (homes : List OwnedList) (nodes : List (NodeState LinkState G)) : Type 0 where
      pub lists : AreLists n homes
      pub count : length nodes ≡ n
      pub each : (s : ℕ) (home : OwnedList) (node : NodeState LinkState G) → slice_get homes s ≡ Some home → slice_get nodes s ≡ Some node → IsOpened s home node
      pub joined : AreJoined nodes
