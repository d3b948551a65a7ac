-- Nodes are opened from the last shard to the first, and abandoned where there is no memory for one.
use Rattle.std.specs.Prelude.{◌≡◌, ℕ, ◌+◌, List, ◌∷◌, [], ◌++◌, length, Some, slice_get}
use Rattle.trace_text.specs.Trace.{Trace}
use Rattle.foreign_list.specs.Lists.{OwnedList}
use Rattle.foreign_list.specs.OwnerSeats.{OwnerState, IsAtRest}
use Rattle.shard_rings.specs.Links.{LinkState, IsUnused}
use Rattle.shard_node.specs.Nodes.{NodeState}
use Rattle.shard_run.specs.Opening.{AreSeatsOf, IsOpened, links_of}

-- nothing was sent or received on these links
abbrev pub AreUnused : List LinkState → Type 0
AreUnused links = (k : ℕ) (link : LinkState) → slice_get links k ≡ Some link → IsUnused link

module _ {G : Type 0} where
  -- these nodes made no turn
  abbrev pub AreUnturned : List (NodeState LinkState G) → Type 0
  AreUnturned nodes = (k : ℕ) (node : NodeState LinkState G) → slice_get nodes k ≡ Some node → node.turns ≡ 0

  -- The seats that are left are those of the first shards, and the nodes are those of the shards behind them.
  pub record AreLeft (n : ℕ) (homes : List OwnedList) (seats : List OwnerState) (nodes : List (NodeState LinkState G)) : Type 0 where
    pub count : length seats + length nodes ≡ n
    pub seated : AreSeatsOf homes seats
    pub lists : (k : ℕ) (home : OwnedList) (node : NodeState LinkState G) → slice_get homes (length seats + k) ≡ Some home → slice_get nodes k ≡ Some node → node.store.list ≡ home
    pub unturned : AreUnturned nodes

  -- the seats of these nodes stand behind those that were there
  pub record GivesBack (nodes : List (NodeState LinkState G)) (old new : List OwnerState) : Type 0 where
    pub count : length new ≡ length old + length nodes
    pub kept : (s : ℕ) (seat : OwnerState) → slice_get old s ≡ Some seat → slice_get new s ≡ Some seat
    pub back : (k : ℕ) (node : NodeState LinkState G) (seat : OwnerState) → slice_get nodes k ≡ Some node → slice_get new (length old + k) ≡ Some seat
        → IsAtRest node.store.list seat

  -- The node of the last shard whose seat was left stands before the others, with these links.
  pub record OpensLast (trace : Trace) (n pages : ℕ) (homes : List OwnedList) (links : List LinkState) (seats later_seats : List OwnerState)
      (nodes later_nodes : List (NodeState LinkState G)) : Type 0 where
    pub seat : OwnerState
    pub fewer : seats ≡ later_seats ++ seat ∷ []
    pub node : NodeState LinkState G
    pub more : later_nodes ≡ node ∷ nodes
    pub links_here : links_of node ≡ links
    pub opened : (home : OwnedList) → slice_get homes (length later_seats) ≡ Some home → IsOpened trace n pages (length later_seats) home node
