-- What lasts is what makes a node the same.
use Rattle.std.proofs.Common.{◌≡◌, List, get_or, ap}
use Rattle.shard_rings.specs.Lanes.{LinkEnd}
use Rattle.shard_node.specs.Nodes.{NodeState}
use Rattle.shard_node.specs.Turns.{IsSameNode}
use Rattle.shard_drive.specs.Drives.{AtEach}
use Rattle.shard_drive.specs.Lasting.{Lasting, lasting_of}

same-node : {L G : Type 0} (end : L → LinkEnd) (a b : NodeState L G) → lasting_of end b ≡ lasting_of end a → IsSameNode end a b
same-node end a b lasts = record {
  shard = ap (λ (l : Lasting). l.shard) lasts;
  shards = ap (λ (l : Lasting). l.shards) lasts;
  pages = ap (λ (l : Lasting). l.pages) lasts;
  trace = ap (λ (l : Lasting). l.trace) lasts;
  home = ap (λ (l : Lasting). l.list) lasts;
  ends = ap (λ (l : Lasting). l.ends) lasts;
}

pub same-nodes : {L G : Type 0} (end : L → LinkEnd) (old new : List (NodeState L G)) → AtEach (λ _ a b. lasting_of end b ≡ lasting_of end a) old new
    → AtEach (λ _. IsSameNode end) old new
same-nodes end old new lasts k d below = same-node end (get_or old k d) (get_or new k d) (lasts k d below)
