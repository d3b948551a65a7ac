-- What no turn of a node changes, as one value. Only the private parts cite it.
use Rattle.std.specs.Prelude.{ℕ, List, map}
use Rattle.trace_text.specs.Trace.{Trace}
use Rattle.foreign_list.specs.Lists.{OwnedList}
use Rattle.shard_rings.specs.Lanes.{LinkEnd}
use Rattle.shard_node.specs.Nodes.{NodeState}

pub record Lasting : Type 0 where
  pub shard : ℕ
  pub shards : ℕ
  pub pages : ℕ
  pub trace : Trace
  -- the list over which its blocks come home
  pub list : OwnedList
  -- which ends its links are
  pub ends : List LinkEnd

abbrev pub lasting_of : {L G : Type 0} → (L → LinkEnd) → NodeState L G → Lasting
lasting_of end node = record {
  shard = node.shard;
  shards = node.shards;
  pages = node.pages;
  trace = node.trace;
  list = node.store.list;
  ends = map (λ peer. end peer.link) node.peers;
}
