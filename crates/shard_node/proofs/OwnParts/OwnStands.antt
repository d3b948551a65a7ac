-- A node stays in standing as it does a part of its own.
use Rattle.std.proofs.Common.{◌≡◌, ◌≢◌, ℕ, ◌+◌, ◌<◌, ◌≤◌, ◌==◌, List, ◌++◌, length, map, filter, take, get_or, slice_get, Some, arith, refl, sym, ap, subst, ◌∙◌, false, not}
use Rattle.std.specs.List.{All, count_by, list_any}
use Rattle.std.specs.Option.{option_map}
use Rattle.std.proofs.lemmas.List.{length-set}
use Rattle.std.proofs.lemmas.List.Sums.{length-filter}
use Rattle.layout.specs.Sizes.{dense, tickets}
use Rattle.rows.specs.Operation.{Operation}
use Rattle.trace_text.specs.Parts.{origin, parts}
use Rattle.trace_text.specs.Trace.{Trace, regions}
use Rattle.cache_model.specs.declared.entry.Entry.{Entry}
use Rattle.rows.specs.Apply.{Reply}
use Rattle.cache_model.specs.Legal.{EvictsAbove, cache_after, command_of, is_done, reply_at}
use Rattle.cache_model.specs.OwnParts.{issued_parts}
use Rattle.rows.specs.Row.{floor, tight_floor}
use Rattle.rows.specs.Spelled.{spelled}
use Rattle.run_log.specs.JournalState.{JournalState}
use Rattle.run_log.specs.Replies.{Replies}
use Rattle.layout.specs.Counts.{raised}
use Rattle.shard_memory.specs.Tickets.{tickets_out}
use Rattle.shard_rings.specs.Lanes.{Traffic}
use Rattle.shard_store.specs.Stores.{StoreState}
use Rattle.shard_store.specs.Works.{pressure}
use Rattle.shard_node.specs.Nodes.{NodeState, PeerState}
use Rattle.shard_node.specs.Due.{operations_for}
use Rattle.shard_node.specs.Standing.{InStanding, done_for}
use Rattle.shard_node.specs.inside.Parts.{DoesPart}
use Rattle.part_lemmas.proofs.OwnParts.Alone.{none-out}
use Rattle.part_lemmas.proofs.OwnParts.BegunParts.{asked-same, begun-other, place-more}
use Rattle.part_lemmas.proofs.OwnParts.Growth.{Laws, above-more, done_for-other, leads-more, of_others, of_others-own, pressure-low, reply-of, reply-other, then_done}
use Rattle.part_lemmas.proofs.OwnParts.IssuedParts.{AreOfPeers}
use Rattle.part_lemmas.proofs.OwnParts.LogPlaces.{at_shard, own-logged, place_at, set-other}
use Rattle.part_lemmas.proofs.OwnParts.NextPart.{TellsNumbers, command-at, not-done, origin-at, then-served}
use Rattle.shard_node.proofs.Standing.Peerwise.{StandsItself, StandsWith, all_stand, each_stands, itself_stands, later, stays}
use Rattle.part_lemmas.proofs.Cursors.Places.{IsNumbered}

-- That a journal keeps what it replied is a law.
abbrev pub KeepsReplied : Type 0
KeepsReplied = (trace : Trace) (pages : ℕ) (journal entries : List Entry) (i : ℕ) (reply : Reply)
    → reply_at trace pages journal i ≡ Some reply → reply_at trace pages (journal ++ entries) i ≡ Some reply

-- The next own part, which the shard does itself, was done.
pub record DoesOwn {L G : Type 0} (node : NodeState L G) (store : StoreState) (journal : JournalState) (log : Replies) (begun : ℕ) (operation : Operation) : Type 0 where
  pub numbered : IsNumbered node.trace.operations
  pub below : node.shard < node.shards
  pub apart : All (λ peer. peer.shard ≢ node.shard) node.peers
  pub few : tickets_out node.store.lent ≤ tickets
  pub pages : node.store.pages ≡ node.pages
  pub of_regions : node.store.regions ≡ regions node.trace
  pub next : slice_get (issued_parts node.trace node.shards node.shard) node.begun ≡ Some (operation.number, node.shard)
  pub there : slice_get (operations_for node.trace node.shards node.shard node.shard) (place_at node.shard (issued_parts node.trace node.shards node.shard) node.begun) ≡ Some operation
  pub does : DoesPart node.begun operation node.store store node.journal journal node.log log
  pub out : store.lends ≡ raised store.backs (tickets_out store.lent)
  pub one_more : begun ≡ node.begun + 1

module _ {L G : Type 0} (traffic : L → Traffic) (laws : Laws) (kept : KeepsReplied) (tells : TellsNumbers) (peers : AreOfPeers)
    (node : NodeState L G) (store : StoreState) (journal : JournalState) (log : Replies) (begun : ℕ) (operation : Operation)
    (x : DoesOwn node store journal log begun operation) where
  abbrev n : ℕ
  n = node.shards

  abbrev s : ℕ
  s = node.shard

  abbrev i : ℕ
  i = operation.number

  abbrev issued : List (ℕ × ℕ)
  issued = issued_parts node.trace n s

  abbrev entries : List Entry
  entries = node.journal.entries

  abbrev puts : List ℕ
  puts = x.does.works.evicted

  abbrev place : ℕ
  place = place_at s issued node.begun

  abbrev bound : ℕ
  bound = pressure node.store.pages node.store.lent node.store.regions

  abbrev after : NodeState L G
  after = later traffic node store journal log node.peers begun node.request node.gate node.tally

  grown : journal.entries ≡ entries ++ then_done puts i
  grown = x.does.works.recorded.entries

  low : floor node.pages (regions node.trace) ≤ bound
  low =
      subst (λ count. floor node.pages count ≤ bound) x.of_regions
      (subst (λ p. floor p node.store.regions ≤ bound) x.pages (pressure-low node.store.pages (tickets_out node.store.lent) node.store.regions x.few))

  command : command_of node.trace i ≡ Some operation
  command = command-at node.trace n s s place operation x.numbered x.there

  mine : origin i n ≡ s
  mine = origin-at node.trace n s s place operation x.there

  module _ (itself : StandsItself traffic node) where
    so_far : done_for n s entries ≡ take place (parts node.trace n s s)
    so_far = itself.own ∙ ap (λ k. take k (parts node.trace n s s)) (length-filter (λ (part : ℕ × ℕ). part.1 == s) (take node.begun issued))

    unseen : list_any (is_done i) entries ≡ false
    unseen = not-done tells node.trace n s s place entries operation x.numbered so_far x.there

    alone : n ≡ 1 → tickets_out node.store.lent ≡ 0
    alone one = none-out node.trace n s node.begun entries node.store.lends node.store.backs (tickets_out node.store.lent) one x.below itself.lent.lends itself.lent.out

    leads : cache_after node.trace node.pages journal.entries ≡ Some store.rows
    leads =
        ap (cache_after node.trace node.pages) grown
        ∙ leads-more laws node.trace node.pages bound i entries node.store.rows x.does.works.rest puts operation command itself.journal.legal x.does.works.evicts low
        ∙ ap Some (sym x.does.works.rows)

    above : n ≡ 1 → EvictsAbove node.trace node.pages (tight_floor node.pages 0 (regions node.trace) + dense) journal.entries
    above one =
        let count = regions node.trace in
        let least : ℕ = tight_floor node.pages 0 count + dense in
        let same : bound ≡ tight_floor node.pages 0 count + dense =
        ap (λ t. tight_floor node.store.pages t node.store.regions + dense) (alone one)
        ∙ ap (λ p. tight_floor p 0 node.store.regions + dense) x.pages
        ∙ ap (λ r. tight_floor node.pages 0 r + dense) x.of_regions in
        subst (EvictsAbove node.trace node.pages (tight_floor node.pages 0 count + dense)) (sym grown)
        (above-more laws node.trace node.pages (tight_floor node.pages 0 count + dense) bound i entries node.store.rows x.does.works.rest puts
        itself.journal.legal (itself.journal.pressure one) x.does.works.evicts (omega (arith, same)) (pressure-low node.pages 0 count (omega arith)))

    replied : reply_at node.trace node.pages journal.entries i ≡ Some x.does.reply
    replied =
        ap (λ es. reply_at node.trace node.pages es i) grown
        ∙ reply-of laws node.trace node.pages bound i entries node.store.rows x.does.works.rest puts operation unseen command itself.journal.legal x.does.works.evicts low
        ∙ ap Some (sym x.does.works.reply)

    others_still : (k : ℕ) → k ≢ i → reply_at node.trace node.pages journal.entries k ≡ reply_at node.trace node.pages entries k
    others_still k other = ap (λ es. reply_at node.trace node.pages es k) grown ∙ reply-other node.trace node.pages entries puts i k other

    done_more : done_for n s journal.entries ≡ take (length (filter (λ (part : ℕ × ℕ). part.1 == s) (take begun issued))) (parts node.trace n s s)
    done_more =
        let more : length (filter (λ (part : ℕ × ℕ). part.1 == s) (take begun issued)) ≡ place + 1 =
        length-filter (λ (part : ℕ × ℕ). part.1 == s) (take begun issued) ∙ ap (place_at s issued) x.one_more ∙ place-more s issued node.begun i x.next in
        ap (done_for n s) grown
        ∙ then-served node.trace n s s place entries puts operation so_far x.there
        ∙ ap (λ k. take k (parts node.trace n s s)) (sym more)

    logged_more : at_shard s issued log.replies ≡ map (λ k. option_map spelled (reply_at node.trace node.pages journal.entries k)) (parts node.trace n s s)
    logged_more =
        ap (at_shard s issued) x.does.logs.replies
        ∙ own-logged node.trace n s node.begun i node.log.replies (reply_at node.trace node.pages entries) (reply_at node.trace node.pages journal.entries) x.does.reply
        x.numbered (peers node.trace n s s x.below) itself.one_each x.next replied others_still itself.logged

    lent_same : store.lends ≡ raised 0 (count_by (λ part. not (part.1 == s)) (take begun issued) + of_others n s journal.entries)
    lent_same =
        let asked : count_by (λ part. not (part.1 == s)) (take begun issued) ≡ count_by (λ part. not (part.1 == s)) (take node.begun issued) =
        ap (λ b. count_by (λ part. not (part.1 == s)) (take b issued)) x.one_more ∙ asked-same s issued node.begun i x.next in
        let did : of_others n s journal.entries ≡ of_others n s entries = ap (of_others n s) grown ∙ of_others-own n s entries puts i mine in
        x.does.came.lends
        ∙ itself.lent.lends
        ∙ ap (λ k. raised 0 (k + of_others n s entries)) (sym asked)
        ∙ ap (λ k. raised 0 (count_by (λ part. not (part.1 == s)) (take begun issued) + k)) (sym did)

    itself_stays : StandsItself traffic after
    itself_stays = record {
      journal = record { legal = leads; pressure = above };
      own = done_more;
      one_each = ap length x.does.logs.replies ∙ length-set node.log.replies node.begun (Some (spelled x.does.reply)) ∙ itself.one_each;
      logged = logged_more;
      lent = record { lends = lent_same; out = x.out };
      received = record { released = itself.received.released; all = itself.received.all; counted = itself.received.counted };
    }

  peer_stays : (peer : PeerState L) → peer.shard ≢ s → StandsWith traffic node peer → StandsWith traffic after peer
  peer_stays peer other =
      stays traffic node store journal log node.peers begun node.request node.gate node.tally peer
      (λ j reply e. ap (λ es. reply_at node.trace node.pages es j) grown ∙ kept node.trace node.pages entries (then_done puts i) j reply e)
      (record {
        done = ap (done_for n peer.shard) grown ∙ done_for-other n peer.shard entries puts i (λ e. other (sym e ∙ mine));
        logged = ap (at_shard peer.shard issued) x.does.logs.replies ∙ set-other s peer.shard issued node.log.replies node.begun i (Some (spelled x.does.reply)) x.next other;
        begun = ap (λ b. filter (λ (part : ℕ × ℕ). part.1 == peer.shard) (take b issued)) x.one_more ∙ begun-other s peer.shard issued node.begun i x.next other;
        waiting = refl;
      })

  pub own_stands : InStanding traffic node → InStanding traffic after
  own_stands stands =
      all_stand traffic after (itself_stays (itself_stands traffic node stands))
      (λ k d below. peer_stays (get_or node.peers k d) (x.apart k d below) (each_stands traffic node stands k d below))
