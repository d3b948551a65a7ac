-- A part that another shard does was begun: the shard is as consistent as it was, and in standing where it was.
use Rattle.std.proofs.Common.{◌≡◌, ◌≢◌, ◌==◌, ℕ, ◌+◌, ◌<◌, ◌≤◌, Bool, List, length, filter, take, drop, get_or, slice_get, inl, inr, Some, None, arith, refl, sym, ap, subst, ◌∙◌}
use Rattle.std.specs.List.{Contains, count_by}
use Rattle.std.proofs.lemmas.Bool.{cases_eq}
use Rattle.std.proofs.lemmas.List.{length-map, length_push}
use Rattle.std.proofs.lemmas.Option.{same_Some, slice_get_within}
use Rattle.layout.specs.Sizes.{tickets}
use Rattle.trace_text.specs.declared.command.Command.{Command}
use Rattle.trace_text.specs.Operation.{operation}
use Rattle.trace_text.specs.Parsed.{AreNumbered, trace_in}
use Rattle.cache_model.specs.declared.entry.Entry.TheVariants.{Evicted}
use Rattle.run_log.specs.JournalState.{JournalState}
use Rattle.layout.specs.Counts.{raised}
use Rattle.shard_memory.specs.Tickets.{tickets_out}
use Rattle.shard_rings.specs.Lanes.{LinkEnd, Traffic}
use Rattle.shard_rings.specs.Request.{request}
use Rattle.shard_store.specs.Stores.{StoreState}
use Rattle.shard_store.specs.Works.{floor_of}
use Rattle.shard_node.specs.inside.Did.{EvictsForBlock}
use Rattle.shard_parts.specs.declared.peer.Peer.{Peer}
use Rattle.shard_node.specs.declared.shard.Shard.{Shard}
use Rattle.shard_node.specs.declared.waiting.Waiting.{Waiting}
use Rattle.shard_node.specs.Nodes.{others}
use Rattle.shard_node.specs.Due.{operations_for}
use Rattle.shard_node.specs.Standing.{waiting_request}
use Rattle.shard_parts.specs.Own.{OwnState}
use Rattle.shard_node.specs.inside.Shards.{node_state, issued_by, HasAsked, HasRoom, IsConsistent, IsCounted}
use Rattle.shard_node.specs.inside.Steps.{IsStep}
use Rattle.shard_node.proofs.Requests.BeginsRequest.{begins}
use Rattle.part_lemmas.proofs.OwnParts.BegunParts.{begun-more, begun-other, next-command, place-other}
use Rattle.part_lemmas.proofs.OwnParts.Growth.{Laws}
use Rattle.part_lemmas.proofs.OwnParts.IssuedParts.{AreOfPeers}
use Rattle.part_lemmas.proofs.OwnParts.LogPlaces.{place_at}
use Rattle.part_lemmas.proofs.Cursors.OtherPlaces.{other-there}
use Rattle.shard_node.proofs.OwnParts.OwnDone.{CountsRows}
use Rattle.shard_node.proofs.Requests.SendsRequest.{waits-for, waits-not}
use Rattle.part_lemmas.proofs.OwnParts.ShortRows.{short-left}

-- The request of the next own part, of this command, was made, and waits: the part is begun.
pub record MakesRequest {L G : Type 0} (shard : Shard L G) (store : StoreState) (journal : JournalState) (own : OwnState) (waiting : Waiting) (command : Command) : Type 0 where
  pub are_numbered : AreNumbered shard.trace.now.commands
  pub of_trace : Contains shard.trace.now.commands command
  pub idle : shard.request ≡ None
  pub next : slice_get (issued_by shard) shard.own.begun ≡ Some (command.number, waiting.peer)
  pub other : waiting.peer ≢ shard.shard
  pub below : waiting.peer < shard.shards
  pub few : tickets_out shard.store.lent ≤ tickets
  pub asks : waiting.block.piece.bytes ≡ request (operation shard.trace.now.bytes command)
  pub evicts : EvictsForBlock shard.store store shard.journal journal
  pub lends : store.lends ≡ raised shard.store.lends 1
  pub counted : IsCounted store
  pub own_trace : own.trace ≡ shard.own.trace
  pub own_shard : own.shard ≡ shard.own.shard
  pub own_begun : own.begun ≡ shard.own.begun + 1

module _ {L G : Type 0} (traffic : L → Traffic) (end : L → LinkEnd) (laws : Laws) (peers : AreOfPeers) (counts : CountsRows) (shard : Shard L G) (store : StoreState) (journal : JournalState)
    (own : OwnState) (waiting : Waiting) (command : Command) (x : IsConsistent shard) (did : MakesRequest shard store journal own waiting command) where
  abbrev now : Shard L G
  now = record shard { store = store; journal = journal; own = own; request = Some waiting }

  abbrev n : ℕ
  n = shard.shards

  abbrev s : ℕ
  s = shard.shard

  abbrev q : ℕ
  q = waiting.peer

  abbrev issued : List (ℕ × ℕ)
  issued = issued_by shard

  room_now : HasRoom now
  room_now =
      let count = counts (floor_of shard.store.pages shard.store.lent shard.store.regions) shard.store.rows store.rows did.evicts.evicted did.evicts.evicts in
      let spare = did.evicts.recorded.spare in
      let entries = length-map did.evicts.evicted (λ put. Evicted put) in
      let most = did.evicts.same.room in
      let rows = x.room.rows in
      let spared = x.room.spare in
      record {
        rows = omega (arith, count, most, rows);
        spare = omega (arith, count, spare, entries, spared);
        bodies = x.room.bodies;
        keys = x.room.keys;
      }

  here_now : shard.here.left ≡ drop (count_by (λ part. part.1 == s) (take own.begun issued)) (operations_for (trace_in shard.trace.now) n s s)
  here_now =
      x.own.here
      ∙ ap (λ k. drop k (operations_for (trace_in shard.trace.now) n s s)) (sym (place-other q s issued shard.own.begun command.number did.next (λ e. did.other (sym e))))
      ∙ ap (λ b. drop (place_at s issued b) (operations_for (trace_in shard.trace.now) n s s)) (sym did.own_begun)

  asked_now : (peer : Peer L) → HasAsked shard peer → HasAsked now peer
  asked_now peer asked =
      let p : ℕ × ℕ → Bool = λ part. part.1 == peer.shard in
      let later : length (filter p (take own.begun issued)) ≡ length (filter p (take (shard.own.begun + 1) issued)) = ap (λ b. length (filter p (take b issued))) did.own_begun in
      let none = ap (λ r. length (waiting_request r peer.shard)) did.idle in
      elim (cases_eq peer.shard q) [
        | inl same ↦
            let next : slice_get issued shard.own.begun ≡ Some (command.number, peer.shard) = did.next ∙ ap (λ r. Some (command.number, r)) (sym same) in
            let more = ap length (begun-more peer.shard issued shard.own.begun command.number next) in
            let push = length_push (filter p (take shard.own.begun issued)) (command.number, peer.shard) in
            let one = ap length (waits-for (Some waiting) waiting peer.shard refl (sym same)) in
            omega (arith, later, none, more, push, one, asked)
        | inr other ↦
            let more = ap length (begun-other q peer.shard issued shard.own.begun command.number did.next other) in
            let one = ap length (waits-not (Some waiting) waiting peer.shard refl (λ e. other (sym e))) in
            omega (arith, later, none, more, one, asked)
      ]

  consistent : IsConsistent now
  consistent = record {
    read = x.read;
    formed = x.formed;
    parsed_for = x.parsed_for;
    within = x.within;
    of_shard = did.evicts.same.shard ∙ x.of_shard;
    pages = did.evicts.same.pages ∙ x.pages;
    of_regions = did.evicts.same.regions ∙ x.of_regions;
    unguarded = λ g. did.evicts.same.guards g ∙ x.unguarded g;
    counted = did.counted;
    longest = x.longest;
    peers = x.peers;
    cursors = λ k d below. let c = x.cursors k d below in record {
      asks_trace = c.asks_trace;
      asks_origin = c.asks_origin;
      asks_shard = c.asks_shard;
      answers_trace = c.answers_trace;
      answers_origin = c.answers_origin;
      answers_shard = c.answers_shard;
    };
    own = record {
      own_trace = did.own_trace ∙ x.own.own_trace;
      own_shard = did.own_shard ∙ x.own.own_shard;
      here_trace = x.own.here_trace;
      here_origin = x.own.here_origin;
      here_shard = x.own.here_shard;
      here = here_now;
    };
    begun = let more = did.own_begun in let below = slice_get_within issued shard.own.begun (command.number, q) did.next in omega (arith, more, below);
    waits = λ w is. subst (λ (v : Waiting). Contains (others n s) v.peer) (same_Some waiting w is) (other-there n s q did.below did.other);
    asked = λ k d below. asked_now (get_or shard.peers.items k d) (x.asked k d below);
    room = room_now;
    short = short-left shard.longest (floor_of shard.store.pages shard.store.lent shard.store.regions) shard.store.rows store.rows did.evicts.evicted did.evicts.evicts x.short;
    one_each = x.one_each;
    own_unanswered = λ k i from there. let more = did.own_begun in x.own_unanswered k i (omega (arith, more, from)) there;
    unanswered = x.unanswered;
  }

  pub request_begun : IsStep traffic end shard now
  request_begun = record {
    consistent = consistent;
    standing = begins traffic laws (node_state shard) store journal own.begun waiting (operation shard.trace.now.bytes command)
        (record {
          below = x.within;
          doer_below = did.below;
          other = did.other;
          idle = did.idle;
          few = did.few;
          pages = x.pages;
          of_regions = x.of_regions;
          next = did.next;
          there = next-command peers shard.trace.now n s q shard.own.begun command did.are_numbered did.of_trace did.below did.next;
          asks = did.asks;
          evicts = did.evicts;
          lends = did.lends;
          out = did.counted.lends;
          one_more = did.own_begun;
        });
    same = record { shard = refl; shards = refl; pages = refl; trace = refl; home = did.evicts.same.list; ends = refl };
    turns = refl;
  }
