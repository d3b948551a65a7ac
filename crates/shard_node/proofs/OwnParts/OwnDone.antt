-- A part of its own that a shard did: it is as consistent as it was, and in standing where it was.
use Rattle.std.proofs.Common.{◌≡◌, ◌≢◌, ℕ, zero, suc, ◌+◌, ◌≤◌, ◌==◌, cond, Vec, List, [], ◌∷◌, length, filter, take, drop, get_or, slice_get, slice_set, vec_len, Some, arith, refl, sym, ap, subst, ◌∙◌}
use Rattle.std.specs.List.{All, Contains, count_by}
use Rattle.std.specs.declared.alloc.Global.{Global}
use Rattle.std.proofs.lemmas.List.{drop-drop, length-append, length-map, length-set}
use Rattle.std.proofs.lemmas.List.Elements.{All-map}
use Rattle.std.proofs.lemmas.Option.{same_Some, slice_get_within}
use Rattle.layout.specs.Sizes.{tickets}
use Rattle.rows.specs.Operation.{Operation, is_put}
use Rattle.trace_text.specs.Parsed.{AreNumbered, IsWellFormed, trace_in}
use Rattle.trace_text.specs.Parts.{longest_value}
use Rattle.trace_text.specs.Trace.{Trace}
use Rattle.cache_model.specs.declared.entry.Entry.TheVariants.{Done, Evicted}
use Rattle.rows.specs.Apply.{apply}
use Rattle.rows.specs.Evictions.{Evicts}
use Rattle.rows.specs.Holds.{PutHolds}
use Rattle.rows.specs.Row.{Row}
use Rattle.rows.specs.Spelled.{spelled}
use Rattle.run_log.specs.JournalState.{JournalState}
use Rattle.run_log.specs.Replies.{Replies}
use Rattle.shard_memory.specs.Tickets.{tickets_out}
use Rattle.shard_rings.specs.Lanes.{LinkEnd, Traffic}
use Rattle.shard_store.specs.Stores.{StoreState}
use Rattle.shard_store.specs.Works.{pressure}
use Rattle.shard_parts.specs.declared.peer.Peer.{Peer}
use Rattle.shard_node.specs.declared.shard.Shard.{Shard}
use Rattle.shard_node.specs.Nodes.{PeerState}
use Rattle.shard_node.specs.Due.{operations_for}
use Rattle.shard_parts.specs.Own.{OwnState}
use Rattle.shard_node.specs.inside.Parts.{DoesPart}
use Rattle.shard_parts.specs.Peers.{peer_state}
use Rattle.part_lemmas.specs.Rest.{RestState}
use Rattle.shard_node.specs.inside.Shards.{node_state, issued_by, bodies_left, parts_left, puts_left, HasAsked, HasRoom, IsConsistent, IsCounted}
use Rattle.shard_node.specs.inside.Steps.{IsStep}
use Rattle.part_lemmas.specs.Work.{bodies, puts_among}
use Rattle.part_lemmas.proofs.OwnParts.BegunParts.{begun-other, operation-of, place-more}
use Rattle.part_lemmas.proofs.OwnParts.Growth.{Laws, evictions}
use Rattle.part_lemmas.proofs.OwnParts.IssuedParts.{AreOfPeers}
use Rattle.part_lemmas.proofs.OwnParts.LogPlaces.{place_at}
use Rattle.part_lemmas.proofs.OwnParts.NextPart.{TellsNumbers}
use Rattle.part_lemmas.proofs.Cursors.OtherPlaces.{all-other}
use Rattle.shard_node.proofs.OwnParts.OwnStands.{DoesOwn, KeepsReplied, own_stands}
use Rattle.part_lemmas.proofs.Cursors.Places.{numbered}
use Rattle.part_lemmas.proofs.Cursors.Rests.{first-dropped}
use Rattle.part_lemmas.proofs.OwnParts.ShortRows.{AreShort, KeepsRows, body-left, few-after, is_short_key, is_short_value, short-after, short-body, short-put}
use Rattle.part_lemmas.proofs.OwnParts.WorkLeft.{bodies-left, puts-left}

pub get-other : {A : Type 0} (xs : List A) (j k : ℕ) (v : A) → k ≢ j → slice_get (slice_set xs j v) k ≡ slice_get xs k
get-other [] j k v other = refl
get-other (x ∷ xs) zero zero v other = absurd (other refl)
get-other (x ∷ xs) zero (suc k) v other = refl
get-other (x ∷ xs) (suc j) zero v other = refl
get-other (x ∷ xs) (suc j) (suc k) v other = get-other xs j k v (λ e. other (ap suc e))

-- How many rows evictions leave is a law.
abbrev pub CountsRows : Type 0
CountsRows = (bound : ℕ) (cache rest : List Row) (puts : List ℕ) → Evicts bound cache puts rest → length puts + length rest ≡ length cache

-- the log of the reply to the first part that is left has room
pub own_fits : {L G : Type 0} → KeepsRows → (shard : Shard L G) (operation : Operation) → IsConsistent shard → All IsWellFormed (trace_in shard.trace.now).operations
    → Contains (trace_in shard.trace.now).operations operation → shard.here.left ≡ operation ∷ drop 1 shard.here.left
    → length (spelled (apply operation shard.store.rows).1).1 ≤ shard.log.room
own_fits keeps shard operation x formed there first =
    let trace = trace_in shard.trace.now in
    let short : AreShort (longest_value trace) shard.store.rows = subst (λ m. AreShort m shard.store.rows) x.longest x.short in
    let holds = (keeps is_short_key (is_short_value (longest_value trace)) operation shard.store.rows (short-put trace operation formed there) short).1 in
    let body = short-body (longest_value trace) operation shard.store.rows holds in
    let all = bodies-left trace operation shard.here.left first in
    let before = x.room.bodies in
    omega (arith, body, all, before)

-- The next own part, of command i, was done on the store: what is left of the shard's parts is one less.
pub record DoesHere {L G : Type 0} (shard : Shard L G) (store : StoreState) (journal : JournalState) (log : Replies) (keys : Vec ℕ Global) (own : OwnState) (here : RestState)
    (i : ℕ) (operation : Operation) : Type 0 where
  pub are_formed : All IsWellFormed (trace_in shard.trace.now).operations
  pub are_numbered : AreNumbered shard.trace.now.commands
  pub of_trace : Contains (trace_in shard.trace.now).operations operation
  pub next : slice_get (issued_by shard) shard.own.begun ≡ Some (i, shard.shard)
  pub first : shard.here.left ≡ operation ∷ drop 1 shard.here.left
  pub few : tickets_out shard.store.lent ≤ tickets
  pub does : DoesPart shard.own.begun operation shard.store store shard.journal journal shard.log log
  pub counted : IsCounted store
  pub buffer : vec_len keys ≡ vec_len shard.keys
  pub own_trace : own.trace ≡ shard.own.trace
  pub own_shard : own.shard ≡ shard.own.shard
  pub own_begun : own.begun ≡ shard.own.begun + 1
  pub here_trace : here.trace ≡ shard.here.trace
  pub here_origin : here.origin ≡ shard.here.origin
  pub here_shard : here.shard ≡ shard.here.shard
  pub here_left : here.left ≡ drop 1 shard.here.left

module _ {L G : Type 0} (traffic : L → Traffic) (end : L → LinkEnd) (laws : Laws) (kept : KeepsReplied) (tells : TellsNumbers) (peers : AreOfPeers)
    (keeps : KeepsRows) (counts : CountsRows) (shard : Shard L G) (store : StoreState) (journal : JournalState) (log : Replies) (keys : Vec ℕ Global)
    (own : OwnState) (here : RestState) (i : ℕ) (operation : Operation) (x : IsConsistent shard) (did : DoesHere shard store journal log keys own here i operation) where
  abbrev now : Shard L G
  now = record shard { store = store; journal = journal; log = log; keys = keys; own = own; here = here }

  abbrev trace : Trace
  trace = trace_in shard.trace.now

  abbrev n : ℕ
  n = shard.shards

  abbrev s : ℕ
  s = shard.shard

  abbrev place : ℕ
  place = place_at s (issued_by shard) shard.own.begun

  abbrev evicted : List ℕ
  evicted = did.does.works.evicted

  abbrev rest : List Row
  rest = did.does.works.rest

  there : slice_get (operations_for trace n s s) place ≡ Some operation
  there = first-dropped (operations_for trace n s s) place operation (drop 1 shard.here.left) (sym x.own.here ∙ did.first)

  number : operation.number ≡ i
  number =
      let of = operation-of peers trace n s s shard.own.begun i x.within did.next in
      let same : operation ≡ of.0 = same_Some _ _ (sym there ∙ of.1) in
      ap (λ (o : Operation). o.number) same ∙ of.2

  next : slice_get (issued_by shard) shard.own.begun ≡ Some (operation.number, s)
  next = did.next ∙ ap (λ k. Some (k, s)) (sym number)

  apart : All (λ (peer : Peer L). peer.shard ≢ s) shard.peers.items
  apart = all-other (λ (peer : Peer L). peer.shard) shard.peers.items n s x.peers

  put : PutHolds is_short_key (is_short_value (longest_value trace)) operation
  put = short-put trace operation did.are_formed did.of_trace

  short : AreShort (longest_value trace) shard.store.rows
  short = subst (λ m. AreShort m shard.store.rows) x.longest x.short

  -- an eviction takes a row, and a put adds one at most
  rows_now : length store.rows + length evicted ≤ length shard.store.rows + cond (is_put operation.kind) 1 0
  rows_now =
      let most = few-after operation rest in
      let count = counts (pressure shard.store.pages shard.store.lent shard.store.regions) shard.store.rows rest evicted did.does.works.evicts in
      let rows = ap length did.does.works.rows in
      omega (arith, most, count, rows)

  puts_now : puts_left now + cond (is_put operation.kind) 1 0 ≡ puts_left shard
  puts_now =
      let all = puts-left operation shard.here.left did.first in
      let left = ap puts_among did.here_left in
      omega (arith, all, left)

  parts_now : parts_left now + 1 ≡ parts_left shard
  parts_now =
      let all = ap length did.first in
      let left = ap length did.here_left in
      omega (arith, all, left)

  spare_now : journal.spare + length evicted + 1 ≡ shard.journal.spare
  spare_now =
      let spare = did.does.works.recorded.spare in
      let entries = length-append (evictions evicted) (Done operation.number ∷ []) in
      let those = length-map evicted (λ put. Evicted put) in
      omega (arith, spare, entries, those)

  bodies_now : bodies_left now ≤ log.room
  bodies_now =
      let all = bodies-left trace operation shard.here.left did.first in
      let left = ap (bodies trace) did.here_left in
      let body = body-left keeps (longest_value trace) (pressure shard.store.pages shard.store.lent shard.store.regions) operation shard.store.rows rest evicted put did.does.works.evicts short in
      let reply = ap (λ r. length (spelled r).1) did.does.works.reply in
      let logged = did.does.logs.room in
      let before = x.room.bodies in
      omega (arith, all, left, body, reply, logged, before)

  room_now : HasRoom now
  room_now =
      let rows = rows_now in
      let puts = puts_now in
      let parts = parts_now in
      let spare = spare_now in
      let most = did.does.works.same.room in
      let before = x.room.rows in
      let spared = x.room.spare in
      record {
        rows = omega (arith, rows, puts, most, before);
        spare = omega (arith, rows, puts, parts, spare, spared);
        bodies = bodies_now;
        keys = did.buffer ∙ x.room.keys;
      }

  short_now : AreShort shard.longest store.rows
  short_now =
      subst (λ m. AreShort m store.rows) (sym x.longest)
      (subst (AreShort (longest_value trace)) (sym did.does.works.rows)
      (short-after keeps (longest_value trace) (pressure shard.store.pages shard.store.lent shard.store.regions) operation shard.store.rows rest evicted put did.does.works.evicts short))

  here_now : here.left ≡ drop (count_by (λ part. part.1 == s) (take own.begun (issued_by shard))) (operations_for trace n s s)
  here_now =
      did.here_left
      ∙ ap (drop 1) x.own.here
      ∙ drop-drop 1 place (operations_for trace n s s)
      ∙ ap (λ k. drop k (operations_for trace n s s)) (sym (place-more s (issued_by shard) shard.own.begun operation.number next))
      ∙ ap (λ b. drop (place_at s (issued_by shard) b) (operations_for trace n s s)) (sym did.own_begun)

  asked_now : (peer : Peer L) → peer.shard ≢ s → HasAsked shard peer → HasAsked now peer
  asked_now peer other asked =
      let same : length (filter (λ (part : ℕ × ℕ). part.1 == peer.shard) (take own.begun (issued_by shard)))
      ≡ length (filter (λ (part : ℕ × ℕ). part.1 == peer.shard) (take shard.own.begun (issued_by shard))) =
      ap (λ b. length (filter (λ (part : ℕ × ℕ). part.1 == peer.shard) (take b (issued_by shard)))) did.own_begun
      ∙ ap length (begun-other s peer.shard (issued_by shard) shard.own.begun operation.number next other) in
      omega (arith, same, asked)

  consistent : IsConsistent now
  consistent = record {
    read = x.read;
    formed = x.formed;
    parsed_for = x.parsed_for;
    within = x.within;
    of_shard = did.does.works.same.shard ∙ x.of_shard;
    pages = did.does.works.same.pages ∙ x.pages;
    of_regions = did.does.works.same.regions ∙ x.of_regions;
    unguarded = λ g. did.does.works.same.guards g ∙ x.unguarded g;
    counted = did.counted;
    longest = x.longest;
    peers = x.peers;
    cursors = λ k d below. let c = x.cursors k d below in record {
      asks_trace = c.asks_trace;
      asks_origin = c.asks_origin;
      asks_shard = c.asks_shard;
      answers_trace = c.answers_trace;
      answers_origin = c.answers_origin;
      answers_shard = c.answers_shard;
    };
    own = record {
      own_trace = did.own_trace ∙ x.own.own_trace;
      own_shard = did.own_shard ∙ x.own.own_shard;
      here_trace = did.here_trace ∙ x.own.here_trace;
      here_origin = did.here_origin ∙ x.own.here_origin;
      here_shard = did.here_shard ∙ x.own.here_shard;
      here = here_now;
    };
    begun = let more = did.own_begun in let below = slice_get_within (issued_by shard) shard.own.begun (i, s) did.next in omega (arith, more, below);
    waits = x.waits;
    asked = λ k d below. asked_now (get_or shard.peers.items k d) (apart k d below) (x.asked k d below);
    room = room_now;
    short = short_now;
    one_each = ap length did.does.logs.replies ∙ length-set shard.log.replies shard.own.begun (Some (spelled did.does.reply)) ∙ x.one_each;
    own_unanswered = λ k j from there.
        let more = did.own_begun in
        ap (λ rs. slice_get rs k) did.does.logs.replies
        ∙ get-other shard.log.replies shard.own.begun k (Some (spelled did.does.reply)) (λ e. omega (arith, e, more, from))
        ∙ x.own_unanswered k j (omega (arith, more, from)) there;
    unanswered = λ p d below k j from there.
        let peer : Peer L = get_or shard.peers.items p d in
        let other : k ≢ shard.own.begun = λ e.
        let both : Some (j, peer.shard) ≡ Some (operation.number, s) = sym there ∙ ap (slice_get (issued_by shard)) e ∙ next in
        apart p d below (ap (λ (part : ℕ × ℕ). part.1) (same_Some _ _ both)) in
        ap (λ rs. slice_get rs k) did.does.logs.replies
        ∙ get-other shard.log.replies shard.own.begun k (Some (spelled did.does.reply)) other
        ∙ x.unanswered p d below k j from there;
  }

  owns : DoesOwn (node_state shard) store journal log own.begun operation
  owns = record {
    numbered = numbered shard.trace.now.bytes shard.trace.now.commands did.are_numbered;
    below = x.within;
    apart = All-map (λ (peer : PeerState L). peer.shard ≢ s) peer_state shard.peers.items apart;
    few = did.few;
    pages = x.pages;
    of_regions = x.of_regions;
    next = next;
    there = there;
    does = did.does;
    out = did.counted.lends;
    one_more = did.own_begun;
  }

  pub own_done : IsStep traffic end shard now
  own_done = record {
    consistent = consistent;
    standing = own_stands traffic laws kept tells peers (node_state shard) store journal log own.begun operation owns;
    same = record { shard = refl; shards = refl; pages = refl; trace = refl; home = did.does.works.same.list; ends = refl };
    turns = refl;
  }
