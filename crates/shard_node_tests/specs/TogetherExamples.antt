-- A worked run of two shards, once both are done: one put, whose key shard 1 owns.
use Rattle.std.specs.Prelude.{true, List, [], ◌∷◌, replicate, Some, None}
use Rattle.layout.specs.Sizes.{tickets}
use Rattle.cache_model.specs.declared.entry.Entry.{Entry}
use Rattle.cache_model.specs.declared.entry.Entry.TheVariants.{Done}
use Rattle.rows.specs.Apply.{Stored}
use Rattle.cache_model.specs.Examples.{put_b}
use Rattle.rows.specs.Spelled.{spelled}
use Rattle.foreign_list.specs.Blocks.{Block}
use Rattle.shard_store.specs.Stores.{StoreState}
use Rattle.shard_rings.specs.Lanes.{each_lane, Traffic}
use Rattle.shard_rings.specs.declared.link.Packet.{Packet}
use Rattle.shard_rings.specs.declared.link.Packet.TheVariants.{Bye}
use Rattle.shard_node_tests.specs.Examples.{at_owner, packet, put_reply, put_request}
use Rattle.shard_node.specs.Nodes.{NodeState, PeerState}
use Rattle.shard_node.specs.Together.{Agree, AreTogether}

-- what shard 0 keeps of shard 1 at the end: the put was asked of it, it replied, and both said Bye
abbrev pub peer_owner : Block → List Packet → PeerState Traffic
peer_owner block replies = record {
  shard = 1;
  link = record {
    sent = record { requests = packet block put_request ∷ Bye ∷ []; replies = [] };
    received = record { requests = Bye ∷ []; replies = replies };
    full = each_lane 0;
    empty = each_lane 2;
  };
  held = each_lane None;
  reply = None;
  keeps = record { asks = []; has_heard_bye = true; answers = []; owed = 0; has_sent_bye = true };
}

-- Shard 0 at the end: the reply is in its log.
abbrev pub at_origin : Block → StoreState → List Packet → NodeState Traffic (Unit {0})
at_origin block store replies = record {
  shard = 0;
  shards = 2;
  pages = 8192;
  trace = put_b;
  store = record store { rows = []; lent = replicate tickets None; lends = 1; backs = 1 };
  journal = record { entries = []; spare = 0 };
  log = record { replies = Some (spelled Stored) ∷ []; room = 0 };
  peers = peer_owner block replies ∷ [];
  begun = 1;
  request = None;
  gate = tt;
  tally = 1;
  turns = 4;
}

-- both shards, with what shard 0 received of the replies, and what shard 1 did
abbrev pub both : Block → StoreState → List Packet → List Entry → List (NodeState Traffic (Unit {0}))
both block store replies entries = at_origin block store replies ∷ at_owner block store (packet block put_request ∷ Bye ∷ []) entries ∷ []

-- They are together. They are not where shard 0 received a second reply, which shard 1 did not send; and where the put is not
-- in the journal of shard 1 they do not agree.
pub record TogetherIsRight (block : Block) (store : StoreState) : Type 0 where
  pub together : AreTogether (λ link. link) (λ gate. 0) put_b 2 8192 (both block store (packet block put_reply ∷ []) (Done 1 ∷ []))
  pub not_sent : AreTogether (λ link. link) (λ gate. 0) put_b 2 8192 (both block store (packet block put_reply ∷ packet block put_reply ∷ []) (Done 1 ∷ [])) → ⊥
  pub not_done : Agree (λ link. link) put_b 2 8192 (both block store (packet block put_reply ∷ []) []) → ⊥
