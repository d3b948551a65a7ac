-- A node stays in standing as it begins a part that another shard does: the request is made, and waits.
use mathlib.Core.List.{IsPrefix}
use Rattle.std.proofs.Common.{◌≡◌, ◌≢◌, ◌==◌, ℕ, zero, suc, ◌+◌, ◌<◌, ◌≤◌, not, cond, List, [], ◌∷◌, ◌++◌, length, map, filter, take, get_or, slice_get, inl, inr, arith, refl, sym, ap, subst, ◌∙◌, Option, Some, None}
use Rattle.std.specs.List.{count_by}
use Rattle.std.specs.Option.{option_map}
use Rattle.std.proofs.lemmas.Bool.{cases_eq}
use Rattle.std.proofs.lemmas.List.{length-map, length_push}
use Rattle.std.proofs.lemmas.List.Sums.{length-filter, sum_by-cons}
use Rattle.std.proofs.lemmas.Option.{slice_get-map, slice_get_within}
use Rattle.layout.specs.Sizes.{tickets}
use Rattle.rows.specs.Operation.{Operation}
use Rattle.trace_text.specs.Parts.{parts}
use Rattle.trace_text.specs.Trace.{regions}
use Rattle.cache_model.specs.declared.entry.Entry.{Entry}
use Rattle.cache_model.specs.Legal.{cache_after, reply_at}
use Rattle.cache_model.specs.OwnParts.{issued_parts}
use Rattle.rows.specs.Row.{floor}
use Rattle.run_log.specs.JournalState.{JournalState}
use Rattle.layout.specs.Counts.{raised}
use Rattle.shard_memory.specs.Tickets.{tickets_out}
use Rattle.foreign_list.specs.Blocks.{Block}
use Rattle.shard_rings.specs.Request.{request}
use Rattle.shard_rings.specs.declared.link.Packet.{Packet}
use Rattle.shard_rings.specs.declared.link.Packet.TheVariants.{Block as InBlock, Bye}
use Rattle.shard_rings.specs.Lanes.{Traffic}
use Rattle.shard_store.specs.Stores.{StoreState}
use Rattle.shard_store.specs.Works.{floor_of}
use Rattle.shard_node.specs.inside.Did.{EvictsForBlock}
use Rattle.shard_node.specs.declared.waiting.Waiting.{Waiting}
use Rattle.shard_node.specs.Nodes.{NodeState, PeerState}
use Rattle.shard_node.specs.Due.{due, operations_for, said}
use Rattle.shard_node.specs.Standing.{InStanding, blocks, done_for, is_block, waiting_request}
use Rattle.part_lemmas.proofs.OwnParts.BegunParts.{asked-more, begun-more, begun-other}
use Rattle.part_lemmas.proofs.OwnParts.Growth.{Laws, done_for-evicted, evictions, floor-low, leads-evicted, of_others, of_others-evicted, reply-evicted}
use Rattle.part_lemmas.proofs.OwnParts.LogPlaces.{own-stays, place_at}
use Rattle.part_lemmas.proofs.OwnParts.NextPart.{front-taken, taken-front, taken-more}
use Rattle.shard_node.proofs.Standing.Peerwise.{StandsItself, StandsWith, all_stand, each_stands, itself_stands, later, stays}
use Rattle.shard_node.proofs.Requests.SendsRequest.{waits-for, waits-not}

-- What was sent.

first-block : (block : Block) (packets : List Packet) → blocks (InBlock block ∷ packets) ≡ 1 + blocks packets
first-block block packets = sum_by-cons (λ p. cond (is_block p) 1 0) (InBlock block) packets

abbrev requests_of : List Operation → List (Option (List ℕ))
requests_of operations = map (λ (o : Operation). Some (request o)) operations

-- packets that say the first of what is due, but not the last of it, are all blocks
all-blocks : (packets : List Packet) (operations : List Operation) → IsPrefix (map said packets) (requests_of operations ++ None ∷ []) → blocks packets < length operations
    → length packets ≡ blocks packets
all-blocks [] operations front few = refl
all-blocks (InBlock block ∷ packets) [] front few = absurd (omega (arith, few))
all-blocks (InBlock block ∷ packets) (first ∷ operations) front few =
    let e : ◌≡◌ {A = List (Option (List ℕ))} (Some block.piece.bytes ∷ (map said packets ++ front.0)) (Some (request first) ∷ (requests_of operations ++ None ∷ [])) = front.1 in
    let rest : map said packets ++ front.0 ≡ requests_of operations ++ None ∷ [] = cc in
    let one = first-block block packets in
    let more = all-blocks packets operations (front.0, rest) (omega (arith, few, one)) in
    omega (arith, one, more)
all-blocks (Bye ∷ packets) [] front few = absurd (omega (arith, few))
all-blocks (Bye ∷ packets) (first ∷ operations) front few =
    let e : ◌≡◌ {A = List (Option (List ℕ))} (None ∷ (map said packets ++ front.0)) (Some (request first) ∷ (requests_of operations ++ None ∷ [])) = front.1 in
    absurd (cc)

in-front : {X : Type 0} (xs ys : List X) (k : ℕ) (x : X) → slice_get xs k ≡ Some x → slice_get (xs ++ ys) k ≡ Some x
in-front [] ys k x here = absurd (let e : None ≡ Some x = here in cc)
in-front (y ∷ xs) ys zero x here = here
in-front (y ∷ xs) ys (suc k) x here = in-front xs ys k x here

-- and then the request of the next operation is the next thing that is due
next-due : (packets : List Packet) (operations : List Operation) (operation : Operation) → IsPrefix (map said packets) (requests_of operations ++ None ∷ [])
    → slice_get operations (blocks packets) ≡ Some operation → IsPrefix (map said packets ++ Some (request operation) ∷ []) (requests_of operations ++ None ∷ [])
next-due packets operations operation front there =
    let dues = requests_of operations ++ None ∷ [] in
    let k = blocks packets in
    let many : length (map said packets) ≡ k = length-map packets said ∙ all-blocks packets operations front (slice_get_within operations k operation there) in
    let here : slice_get dues k ≡ Some (Some (request operation)) =
    in-front (requests_of operations) (None ∷ []) k (Some (request operation))
    (slice_get-map (λ (o : Operation). Some (request o)) operations k ∙ ap (option_map (λ (o : Operation). Some (request o))) there) in
    let said_is : map said packets ++ Some (request operation) ∷ [] ≡ take (k + 1) dues =
    ap (λ ss. ss ++ Some (request operation) ∷ []) (front-taken (map said packets) dues front ∙ ap (λ n. take n dues) many)
    ∙ sym (taken-more dues k (Some (request operation)) here) in
    subst (λ ss. IsPrefix ss dues) (sym said_is) (taken-front (k + 1) dues)

-- The next own part, of an operation that another shard does, was begun: its request was made, behind evictions.
pub record Begins {L G : Type 0} (node : NodeState L G) (store : StoreState) (journal : JournalState) (begun : ℕ) (waiting : Waiting) (operation : Operation) : Type 0 where
  pub below : node.shard < node.shards
  pub doer_below : waiting.peer < node.shards
  pub other : waiting.peer ≢ node.shard
  pub idle : node.request ≡ None
  pub few : tickets_out node.store.lent ≤ tickets
  pub pages : node.store.pages ≡ node.pages
  pub of_regions : node.store.regions ≡ regions node.trace
  pub next : slice_get (issued_parts node.trace node.shards node.shard) node.begun ≡ Some (operation.number, waiting.peer)
  pub there : slice_get (operations_for node.trace node.shards node.shard waiting.peer) (place_at waiting.peer (issued_parts node.trace node.shards node.shard) node.begun) ≡ Some operation
  pub asks : waiting.block.piece.bytes ≡ request operation
  pub evicts : EvictsForBlock node.store store node.journal journal
  pub lends : store.lends ≡ raised node.store.lends 1
  pub out : store.lends ≡ raised store.backs (tickets_out store.lent)
  pub one_more : begun ≡ node.begun + 1

module _ {L G : Type 0} (traffic : L → Traffic) (laws : Laws) (node : NodeState L G) (store : StoreState) (journal : JournalState) (begun : ℕ) (waiting : Waiting) (operation : Operation)
    (x : Begins node store journal begun waiting operation) where
  abbrev n : ℕ
  n = node.shards

  abbrev s : ℕ
  s = node.shard

  abbrev q : ℕ
  q = waiting.peer

  abbrev issued : List (ℕ × ℕ)
  issued = issued_parts node.trace n s

  abbrev entries : List Entry
  entries = node.journal.entries

  abbrev puts : List ℕ
  puts = x.evicts.evicted

  abbrev bound : ℕ
  bound = floor_of node.store.pages node.store.lent node.store.regions

  abbrev after : NodeState L G
  after = later traffic node store journal node.log node.peers begun (Some waiting) node.gate node.tally

  grown : journal.entries ≡ entries ++ evictions puts
  grown = x.evicts.recorded.entries

  low : floor node.pages (regions node.trace) ≤ bound
  low =
      subst (λ count. floor node.pages count ≤ bound) x.of_regions
      (subst (λ p. floor p node.store.regions ≤ bound) x.pages (floor-low node.store.pages (tickets_out node.store.lent) node.store.regions x.few))

  still : (k : ℕ) → reply_at node.trace node.pages journal.entries k ≡ reply_at node.trace node.pages entries k
  still k = ap (λ es. reply_at node.trace node.pages es k) grown ∙ reply-evicted node.trace node.pages entries puts k

  done_same : (o : ℕ) → done_for n o journal.entries ≡ done_for n o entries
  done_same o = ap (done_for n o) grown ∙ done_for-evicted n o entries puts

  begun_other : (r : ℕ) → r ≢ q → filter (λ (part : ℕ × ℕ). part.1 == r) (take begun issued) ≡ filter (λ (part : ℕ × ℕ). part.1 == r) (take node.begun issued)
  begun_other r other = ap (λ b. filter (λ (part : ℕ × ℕ). part.1 == r) (take b issued)) x.one_more ∙ begun-other q r issued node.begun operation.number x.next other

  module _ (itself : StandsItself traffic node) where
    leads : cache_after node.trace node.pages journal.entries ≡ Some store.rows
    leads =
        ap (cache_after node.trace node.pages) grown
        ∙ leads-evicted laws node.trace node.pages bound entries node.store.rows store.rows puts itself.journal.legal x.evicts.evicts low

    lent_more : store.lends ≡ raised 0 (count_by (λ part. not (part.1 == s)) (take begun issued) + of_others n s journal.entries)
    lent_more =
        let asked : count_by (λ part. not (part.1 == s)) (take begun issued) ≡ count_by (λ part. not (part.1 == s)) (take node.begun issued) + 1 =
        ap (λ b. count_by (λ part. not (part.1 == s)) (take b issued)) x.one_more ∙ asked-more q s issued node.begun operation.number x.next x.other in
        let did : of_others n s journal.entries ≡ of_others n s entries = ap (of_others n s) grown ∙ of_others-evicted n s entries puts in
        let more = x.lends in
        let before = itself.lent.lends in
        omega (arith, asked, did, more, before)

    itself_stays : StandsItself traffic after
    itself_stays = record {
      journal = record {
        legal = leads;
        pressure = λ one. (let below = x.below in let doer = x.doer_below in let other = x.other in absurd (omega (arith, one, below, doer, other)));
      };
      own = done_same s ∙ itself.own ∙ ap (λ parts_begun. take (length parts_begun) (parts node.trace n s s)) (sym (begun_other s (λ e. x.other (sym e))));
      one_each = itself.one_each;
      logged = own-stays node.trace n s node.log.replies (reply_at node.trace node.pages entries) (reply_at node.trace node.pages journal.entries) (λ k e. still k) itself.logged;
      lent = record { lends = lent_more; out = x.out };
      received = record { released = itself.received.released; all = itself.received.all; counted = itself.received.counted };
    }

  abbrev evicted : NodeState L G
  evicted = later traffic node store journal node.log node.peers node.begun node.request node.gate node.tally

  -- rows went
  peer_evicts : (peer : PeerState L) → StandsWith traffic node peer → StandsWith traffic evicted peer
  peer_evicts peer =
      stays traffic node store journal node.log node.peers node.begun node.request node.gate node.tally peer (λ j reply e. still j ∙ e)
      (record { done = done_same peer.shard; logged = refl; begun = refl; waiting = refl })

  -- nothing was begun for this peer
  other_stays : (peer : PeerState L) → peer.shard ≢ q → StandsWith traffic evicted peer → StandsWith traffic after peer
  other_stays peer other =
      stays traffic evicted store journal node.log node.peers begun (Some waiting) node.gate node.tally peer (λ j reply e. e)
      (record {
        done = refl;
        logged = refl;
        begun = begun_other peer.shard other;
        waiting = waits-not (Some waiting) waiting peer.shard refl (λ e. other (sym e)) ∙ ap (λ r. waiting_request r peer.shard) (sym x.idle);
      })

  -- a part was begun for this one
  asked_stays : (peer : PeerState L) → peer.shard ≡ q → StandsWith traffic evicted peer → StandsWith traffic after peer
  asked_stays peer is stands =
      let sent = (traffic peer.link).sent.requests in
      let operations = operations_for node.trace n s peer.shard in
      let dues = due node.trace n s peer.shard in
      let next : slice_get issued node.begun ≡ Some (operation.number, peer.shard) = x.next ∙ ap (λ r. Some (operation.number, r)) (sym is) in
      let waits : waiting_request (Some waiting) peer.shard ≡ Some waiting.block.piece.bytes ∷ [] = waits-for (Some waiting) waiting peer.shard refl (sym is) in
      let none : waiting_request node.request peer.shard ≡ [] = ap (λ r. waiting_request r peer.shard) x.idle in
      let more : filter (λ (part : ℕ × ℕ). part.1 == peer.shard) (take begun issued) ≡ filter (λ (part : ℕ × ℕ). part.1 == peer.shard) (take node.begun issued) ++ (operation.number, peer.shard) ∷ [] =
      ap (λ b. filter (λ (part : ℕ × ℕ). part.1 == peer.shard) (take b issued)) x.one_more ∙ begun-more peer.shard issued node.begun operation.number next in
      let longer = ap length more in
      let push = length_push (filter (λ (part : ℕ × ℕ). part.1 == peer.shard) (take node.begun issued)) (operation.number, peer.shard) in
      let count = stands.requests.count in
      let nothing = ap length none in
      let one = ap length waits in
      let so_many : place_at peer.shard issued node.begun ≡ blocks sent =
      (let e = length-filter (λ (part : ℕ × ℕ). part.1 == peer.shard) (take node.begun issued) in omega (arith, e, count, nothing)) in
      let there : slice_get operations (blocks sent) ≡ Some operation =
      subst (λ k. slice_get operations k ≡ Some operation) so_many
      (subst (λ r. slice_get (operations_for node.trace n s r) (place_at r issued node.begun) ≡ Some operation) (sym is) x.there) in
      record {
        asked = stands.asked;
        served = stands.served;
        replied = stands.replied;
        logged = record { replies = stands.logged.replies; taken = stands.logged.taken; logged = stands.logged.logged; answers = stands.logged.answers; owed = stands.logged.owed };
        requests = record {
          count = omega (arith, longer, push, count, nothing, one);
          next = subst (λ ws. IsPrefix (map said sent ++ ws) dues) (sym (waits ∙ ap (λ bytes. Some bytes ∷ []) x.asks)) (next-due sent operations operation stands.asked there);
        };
        replies = record { count = stands.replies.count; next = stands.replies.next };
        placed = record { asks = stands.placed.asks; heard = stands.placed.heard; told = stands.placed.told };
      }

  pub begins : InStanding traffic node → InStanding traffic after
  begins stands =
      all_stand traffic after (itself_stays (itself_stands traffic node stands))
      (λ k d below.
      let peer = get_or node.peers k d in
      let one = peer_evicts peer (each_stands traffic node stands k d below) in
      elim (cases_eq peer.shard q) [
        | inl same ↦ asked_stays peer same one
        | inr other ↦ other_stays peer other one
      ])
