-- A node finishes behind others.
use Rattle.std.specs.Prelude.{◌≡◌, ℕ, ◌≤◌, [], ◌∷◌, ◌++◌, Vec, length, vec_capacity}
use Rattle.std.specs.declared.alloc.Global.{Global}
use Rattle.trace_text.specs.Trace.{Trace}
use Rattle.foreign_list.specs.OwnerSeats.{OwnerState, IsAtRest}
use Rattle.shard_rings.specs.Links.{LinkState}
use Rattle.shard_node.specs.Nodes.{NodeState}
use Rattle.run_log.specs.Runs.{IsOfRun}
use Rattle.shard_node.specs.Lines.{line_of}
use Rattle.shard_run.specs.Opening.{links_of}
use Rattle.shard_run.specs.declared.remains.Remains.{Remains}

-- k nodes of a run have finished, and there is room for those that are left of n
pub record HasFinished (trace : Trace) (n pages k : ℕ) (remains : Remains) : Type 0 where
  pub run : IsOfRun trace n pages remains.ran
  pub journals : length remains.ran.journals ≡ k
  pub links : length remains.links.items ≡ k
  pub seats : length remains.seats.items ≡ k
  pub link_room : n ≤ vec_capacity remains.links
  pub seat_room : n ≤ vec_capacity remains.seats

-- what the node left stands behind what was there
pub record Leaves {G : Type 0} (node : NodeState LinkState G) (old new : Remains) : Type 0 where
  pub journals : new.ran.journals ≡ old.ran.journals ++ node.journal ∷ []
  pub logs : new.ran.logs ≡ old.ran.logs ++ node.log ∷ []
  pub lines : new.ran.lines ≡ old.ran.lines ++ line_of node.store ∷ []
  pub row : Vec LinkState Global
  pub links : new.links.items ≡ old.links.items ++ row ∷ []
  pub row_is : row.items ≡ links_of node
  pub seat : OwnerState
  pub seats : new.seats.items ≡ old.seats.items ++ seat ∷ []
  pub at_rest : IsAtRest node.store.list seat
