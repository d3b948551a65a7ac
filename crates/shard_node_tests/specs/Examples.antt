-- A worked run on which the definitions are checked: two shards, and one put whose key the other shard owns.
use Rattle.std.specs.Prelude.{◌≡◌, ℕ, true, false, List, [], ◌∷◌, replicate, codes, Option, Some, None}
use Rattle.std.specs.List.{slice_get}
use Rattle.layout.specs.Sizes.{tickets}
use Rattle.cache_model.specs.declared.entry.Entry.{Entry}
use Rattle.cache_model.specs.declared.entry.Entry.TheVariants.{Done}
use Rattle.cache_model.specs.Examples.{asks_in, put_b}
use Rattle.rows.specs.declared.kind.Kind.TheVariants.{Put}
use Rattle.rows.specs.Key.{in_table}
use Rattle.foreign_list.specs.Blocks.{Block}
use Rattle.shard_store.specs.Stores.{StoreState}
use Rattle.shard_rings.specs.Lanes.{each_lane, Traffic}
use Rattle.shard_rings.specs.Request.{request}
use Rattle.shard_rings.specs.declared.link.Packet.{Packet}
use Rattle.shard_rings.specs.declared.link.Packet.TheVariants.{Block as InBlock, Bye}
use Rattle.shard_node.specs.Nodes.{NodeState}
use Rattle.shard_node.specs.Due.{due, is_next, number_in, requests_taken}
use Rattle.shard_node.specs.Standing.{InStanding}
use Rattle.shard_node.specs.Turns.{IsAnswer, IsDone, expected_said}
use Rattle.shard_node.specs.declared.turn.Turn.TheVariants.{Moved, Stray}

-- the request of the put, byte for byte, and its reply
abbrev pub put_request : List ℕ
put_request = 1 ∷ 0 ∷ 1 ∷ 0 ∷ 1 ∷ 0 ∷ 0 ∷ 0 ∷ 1 ∷ 0 ∷ 0 ∷ 0 ∷ 0 ∷ 0 ∷ 0 ∷ 0 ∷ 98 ∷ 49 ∷ []

abbrev pub put_reply : List ℕ
put_reply = 17 ∷ 0 ∷ 0 ∷ 0 ∷ 1 ∷ 0 ∷ 0 ∷ 0 ∷ 0 ∷ 0 ∷ 0 ∷ 0 ∷ 0 ∷ 0 ∷ 0 ∷ 0 ∷ []

-- the same request with the number 3, with the value 2, and of table 3
abbrev pub of_number_3 : List ℕ
of_number_3 = 1 ∷ 0 ∷ 1 ∷ 0 ∷ 3 ∷ 0 ∷ 0 ∷ 0 ∷ 1 ∷ 0 ∷ 0 ∷ 0 ∷ 0 ∷ 0 ∷ 0 ∷ 0 ∷ 98 ∷ 49 ∷ []

abbrev pub of_value_2 : List ℕ
of_value_2 = 1 ∷ 0 ∷ 1 ∷ 0 ∷ 1 ∷ 0 ∷ 0 ∷ 0 ∷ 1 ∷ 0 ∷ 0 ∷ 0 ∷ 0 ∷ 0 ∷ 0 ∷ 0 ∷ 98 ∷ 50 ∷ []

abbrev pub of_table_3 : List ℕ
of_table_3 = 1 ∷ 3 ∷ 1 ∷ 0 ∷ 1 ∷ 0 ∷ 0 ∷ 0 ∷ 1 ∷ 0 ∷ 0 ∷ 0 ∷ 0 ∷ 0 ∷ 0 ∷ 0 ∷ 98 ∷ 49 ∷ []

-- a packet with these bytes, in some block
abbrev pub packet : Block → List ℕ → Packet
packet block bytes = InBlock (record block { piece = record block.piece { bytes = bytes } })

-- what shard 1 is told by shard 0
abbrev pub to_the_owner : List (Option (List ℕ))
to_the_owner = due put_b 2 0 1

-- Which packets are taken, and the numbers of those that are not.
pub record PacketsAreRight (block : Block) : Type 0 where
  pub asked : to_the_owner ≡ Some put_request ∷ None ∷ []
  pub asked_back : due put_b 2 1 0 ≡ None ∷ []
  -- the right request, and then Bye
  pub taken : requests_taken to_the_owner (packet block put_request ∷ Bye ∷ []) ≡ 2
  -- a request of another number is set aside, and the right one behind it is taken
  pub other_number : is_next to_the_owner 0 (packet block of_number_3) ≡ false
  pub expects : expected_said (slice_get to_the_owner 0) ≡ 1
  pub found : number_in (packet block of_number_3) ≡ 3
  pub behind : requests_taken to_the_owner (packet block of_number_3 ∷ packet block put_request ∷ []) ≡ 1
  -- so is one of the right number that differs elsewhere
  pub other_value : is_next to_the_owner 0 (packet block of_value_2) ≡ false
  pub other_value_found : number_in (packet block of_value_2) ≡ 1
  -- and of another table, whose request this is
  pub other_table : is_next to_the_owner 0 (packet block of_table_3) ≡ false
  pub of_table : request (asks_in 3 1 Put (codes "b") (codes "1") 0) ≡ of_table_3
  -- Bye before its time, and five bytes
  pub early_bye : is_next to_the_owner 0 Bye ≡ false
  pub bye_found : number_in Bye ≡ 0
  pub short : is_next to_the_owner 0 (packet block (1 ∷ 0 ∷ 1 ∷ 0 ∷ 1 ∷ [])) ≡ false
  pub short_found : number_in (packet block (1 ∷ 0 ∷ 1 ∷ 0 ∷ 1 ∷ [])) ≡ 0
  -- the right request a second time, where Bye is expected
  pub twice : is_next to_the_owner 1 (packet block put_request) ≡ false
  pub twice_expected : expected_said (slice_get to_the_owner 1) ≡ 0
  pub twice_found : number_in (packet block put_request) ≡ 1
  pub counted_once : requests_taken to_the_owner (packet block put_request ∷ packet block put_request ∷ Bye ∷ []) ≡ 2

-- Shard 1 at the end: the put was asked of it, done and answered, and both said Bye. Its links are seen as what went over them.
abbrev pub at_owner : Block → StoreState → List Packet → List Entry → NodeState Traffic (Unit {0})
at_owner block store requests entries = record {
  shard = 1;
  shards = 2;
  pages = 8192;
  trace = put_b;
  store = record store { rows = record { key = in_table 0 (codes "b"); value = codes "1"; number = 1 } ∷ []; lent = replicate tickets None; lends = 1; backs = 1 };
  journal = record { entries = entries; spare = 1 };
  log = record { replies = []; room = 0 };
  peers = record {
    shard = 0;
    link = record {
      sent = record { requests = Bye ∷ []; replies = packet block put_reply ∷ [] };
      received = record { requests = requests; replies = [] };
      full = each_lane 0;
      empty = each_lane 2;
    };
    held = each_lane None;
    reply = None;
    keeps = record { asks = []; has_heard_bye = true; answers = []; owed = 0; has_sent_bye = true };
  } ∷ [];
  begun = 0;
  request = None;
  gate = tt;
  tally = 1;
  turns = 4;
}

-- It is in standing, and done. It is neither where the journal has the put twice, nor where it has not heard the request.
pub record StandingIsRight (block : Block) (store : StoreState) : Type 0 where
  pub stands : InStanding (λ link. link) (at_owner block store (packet block put_request ∷ Bye ∷ []) (Done 1 ∷ []))
  pub is_done : IsDone (λ link. link) (λ gate. 0) (at_owner block store (packet block put_request ∷ Bye ∷ []) (Done 1 ∷ []))
  pub twice : InStanding (λ link. link) (at_owner block store (packet block put_request ∷ Bye ∷ []) (Done 1 ∷ Done 1 ∷ [])) → ⊥
  pub unasked : InStanding (λ link. link) (at_owner block store (packet block of_number_3 ∷ Bye ∷ []) (Done 1 ∷ [])) → ⊥
  pub not_heard : IsDone (λ link. link) (λ gate. 0) (at_owner block store (packet block put_request ∷ []) (Done 1 ∷ [])) → ⊥

-- Shard 1 before it has done anything, with what came on its lane of requests.
abbrev pub at_start : StoreState → List Packet → NodeState Traffic (Unit {0})
at_start store requests = record {
  shard = 1;
  shards = 2;
  pages = 8192;
  trace = put_b;
  store = record store { rows = []; lent = replicate tickets None; lends = 0; backs = 0 };
  journal = record { entries = []; spare = 2 };
  log = record { replies = []; room = 0 };
  peers = record {
    shard = 0;
    link = record { sent = each_lane []; received = record { requests = requests; replies = [] }; full = each_lane 0; empty = each_lane 0 };
    held = each_lane None;
    reply = None;
    keeps = record { asks = put_b.operations; has_heard_bye = false; answers = []; owed = 0; has_sent_bye = false };
  } ∷ [];
  begun = 0;
  request = None;
  gate = tt;
  tally = 0;
  turns = 1;
}

-- Offered a request whose number is 3: of peer 0, expected 1, found 3. No other answer is right, and none where nothing came.
-- Where it came in one turn with the right one before it, Bye was expected, and the turn may not hide it.
pub record StrayIsRight (block : Block) (store : StoreState) : Type 0 where
  pub stray : IsAnswer (λ link. link) (λ gate. 0) (Stray 0 1 3) (at_start store []) (at_start store (packet block of_number_3 ∷ []))
  pub other_number : IsAnswer (λ link. link) (λ gate. 0) (Stray 0 1 2) (at_start store []) (at_start store (packet block of_number_3 ∷ [])) → ⊥
  pub moved : IsAnswer (λ link. link) (λ gate. 0) Moved (at_start store []) (at_start store (packet block of_number_3 ∷ [])) → ⊥
  pub nothing : IsAnswer (λ link. link) (λ gate. 0) (Stray 0 1 3) (at_start store []) (at_start store []) → ⊥
  pub expected : IsAnswer (λ link. link) (λ gate. 0) (Stray 0 1 1) (at_start store []) (at_start store (packet block put_request ∷ [])) → ⊥
  pub behind : IsAnswer (λ link. link) (λ gate. 0) (Stray 0 0 3) (at_start store []) (at_start store (packet block put_request ∷ packet block of_number_3 ∷ []))
  pub hidden : IsAnswer (λ link. link) (λ gate. 0) Moved (at_start store []) (at_start store (packet block put_request ∷ packet block of_number_3 ∷ [])) → ⊥
