-- What one node says that is done, whatever its links brought.
use Rattle.std.proofs.Common.{◌≡◌, ◌≢◌, ℕ, ◌+◌, ◌<◌, ◌==◌, not, List, length, map, take, get_or, inl, inr, arith, refl, sym, ap, ap₂, subst, ◌∙◌}
use Rattle.std.proofs.Common.{Option, Some, None, is_some, IsSome, true≢false}
use Rattle.std.specs.List.{All, Contains, count_by, filter}
use Rattle.std.specs.Option.{option_map}
use Rattle.std.proofs.lemmas.Bool.{cases_eq}
use Rattle.std.proofs.lemmas.List.{length-map}
use Rattle.std.proofs.lemmas.List.Elements.{All-contains, Contains-get_or}
use Rattle.rows.specs.Operation.{Operation}
use Rattle.trace_text.specs.Parts.{origin, parts}
use Rattle.trace_text.specs.Trace.{Trace}
use Rattle.cache_model.specs.declared.entry.Entry.{Entry}
use Rattle.rows.specs.declared.reply_kind.ReplyKind.{ReplyKind}
use Rattle.rows.specs.Apply.{Reply}
use Rattle.cache_model.specs.Legal.{cache_after, done, reply_at}
use Rattle.cache_model.specs.OwnParts.{issued_parts}
use Rattle.rows.specs.Spelled.{spelled}
use Rattle.layout.specs.Counts.{raised}
use Rattle.shard_rings.specs.Lanes.{Lanes, Traffic}
use Rattle.shard_rings.specs.declared.link.Packet.{Packet}
use Rattle.shard_node.specs.Nodes.{NodeState, PeerState}
use Rattle.shard_node.specs.Due.{Takes, due, operations_for, requests_taken, said}
use Rattle.shard_node.specs.Standing.{AreReplies, InStanding, begun_at, done_for, logged_at, one_if, waiting_request}
use Rattle.shard_node.specs.Together.{IsCompleteNode, IsDoneNode}
use Rattle.shard_node.specs.Turns.{HasParted, IsDone}
use Rattle.part_lemmas.proofs.OwnParts.BegunParts.{count-issued}
use Rattle.part_lemmas.proofs.OwnParts.IssuedParts.{AreOfPeers}
use Rattle.part_lemmas.proofs.OwnParts.LogPlaces.{at-length, at_shard}
use Rattle.part_lemmas.proofs.OwnParts.NextPart.{TellsNumbers}
use Rattle.part_lemmas.proofs.Cursors.OtherPlaces.{other-below, other-there}
use Rattle.shard_node.proofs.Standing.Peerwise.{StandsWith, each_stands}
use Rattle.part_lemmas.proofs.Cursors.Places.{IsNumbered}
use Rattle.part_lemmas.proofs.Together.Lists.{all-unmapped, contains-mapped, contains-unmapped}
use Rattle.part_lemmas.proofs.Together.Logs.{all-at-shard}
use Rattle.part_lemmas.proofs.Together.Replies.{all-taken, replies-there}
use Rattle.part_lemmas.proofs.Together.Requests.{all-served, blocks-told, own-all}

-- What node a, done, tells of its parts of a trace: of those that it did itself, and of the blocks that it lent.
pub record Itself (trace : Trace) (n pages a : ℕ) (entries : List Entry) (log : List (Option (ReplyKind × List ℕ))) (begun lends : ℕ) : Type 0 where
  pub own : done_for n a entries ≡ parts trace n a a
  pub replied : All (λ i. IsSome (reply_at trace pages entries i)) (parts trace n a a)
  pub one_each : length log ≡ length (issued_parts trace n a)
  pub logged : at_shard a (issued_parts trace n a) log ≡ map (λ i. option_map spelled (reply_at trace pages entries i)) (parts trace n a a)
  pub lent_each : lends ≡ raised 0 (count_by (λ part. not (part.1 == a)) (take begun (issued_parts trace n a)) + count_by (λ i. not (origin i n == a)) (done entries))

-- and what it tells of its peer b
pub record Toward (trace : Trace) (n pages a b : ℕ) (entries : List Entry) (log : List (Option (ReplyKind × List ℕ))) (begun : ℕ) (sent received : Lanes (List Packet)) : Type 0 where
  pub told : map said sent.requests ≡ due trace n a b
  pub heard : requests_taken (due trace n b a) received.requests ≡ length (due trace n b a)
  pub served : done_for n b entries ≡ parts trace n b a
  pub replied : AreReplies (reply_at trace pages entries) sent.replies (parts trace n b a)
  pub count : length sent.replies ≡ length (parts trace n b a)
  pub replies : List Reply
  pub taken : Takes trace (operations_for trace n a b) received.replies replies
  pub logged : at_shard b (issued_parts trace n a) log ≡ map (λ reply. Some (spelled reply)) replies
  pub many : length replies ≡ length (parts trace n a b)
  pub asked : length (filter (λ part. part.1 == b) (take begun (issued_parts trace n a))) ≡ length (parts trace n a b)

some-unspelled : (reply : Option Reply) → IsSome (option_map spelled reply) → IsSome reply
some-unspelled None is = absurd (true≢false (sym is))
some-unspelled (Some reply) is = refl

module _ {L G : Type 0} (traffic : L → Traffic) (holds : G → ℕ) (peers : AreOfPeers) (tells : TellsNumbers) where
  itself-done : (node : NodeState L G) → IsNumbered node.trace.operations → InStanding traffic node → IsDone traffic holds node
      → Itself node.trace node.shards node.pages node.shard node.journal.entries node.log.replies node.begun node.store.lends
  itself-done node are stands is =
      let entries = node.journal.entries in
      let own = parts node.trace node.shards node.shard node.shard in
      let answered : All IsSome (map (λ i. option_map spelled (reply_at node.trace node.pages entries i)) own) =
      subst (All IsSome) stands.logged.own (all-at-shard IsSome node.shard (issued_parts node.trace node.shards node.shard) node.log.replies is.answered) in
      record {
        own = own-all tells node.trace node.shards node.shard node.pages (length (begun_at node node.shard)) entries are stands.own answered;
        replied = λ k d below. some-unspelled _ (all-unmapped IsSome (λ i. option_map spelled (reply_at node.trace node.pages entries i)) own answered k d below);
        one_each = stands.logged.one_each;
        logged = stands.logged.own;
        lent_each = stands.lent.lends;
      }

  toward-done : (node : NodeState L G) (peer : PeerState L) → InStanding traffic node → IsDone traffic holds node → Contains node.peers peer → peer.shard < node.shards
      → Toward node.trace node.shards node.pages node.shard peer.shard node.journal.entries node.log.replies node.begun (traffic peer.link).sent (traffic peer.link).received
  toward-done node peer stands is among below =
      let trace = node.trace in
      let n = node.shards in
      let a = node.shard in
      let b = peer.shard in
      let issued = issued_parts trace n a in
      let x = All-contains (StandsWith traffic node) node.peers peer (each_stands traffic node stands) among in
      let left = All-contains (HasParted traffic holds node) node.peers peer is.parted among in
      let served = all-served trace n b a _ (done_for n b node.journal.entries) x.served left.heard in
      let numbers = length-map (operations_for trace n a b) (λ (o : Operation). o.number) in
      let issued-there = count-issued peers trace n a b below in
      let long = at-length b issued node.log.replies stands.logged.one_each in
      let came = all-taken x.logged.replies (length (parts trace n a b)) (logged_at node b) (all-at-shard IsSome b issued node.log.replies is.answered)
      (omega (arith, long, issued-there, numbers)) x.logged.logged in
      record {
        told = left.told;
        heard = left.heard;
        served = served;
        replied = subst (AreReplies (reply_at trace node.pages node.journal.entries) (traffic peer.link).sent.replies) served x.replied;
        count = let all = x.replies.count in let none = ap one_if left.replied in let those = ap length served in omega (arith, all, none, those);
        replies = x.logged.replies;
        taken = x.logged.taken;
        logged = came.0;
        many = came.1;
        asked =
            let all = x.requests.count in
            let none = ap (λ r. length (waiting_request r b)) is.asked in
            let those = blocks-told trace n a b (traffic peer.link).sent.requests left.told in
            omega (arith, all, none, those);
      }

-- Node s of n, done.
module _ {L G : Type 0} (traffic : L → Traffic) (holds : G → ℕ) (peers : AreOfPeers) (tells : TellsNumbers) (trace : Trace) (n pages : ℕ) (are : IsNumbered trace.operations) (s : ℕ)
    (node : NodeState L G) (d : IsDoneNode traffic holds trace n pages s node) where
  pub itself : Itself trace n pages s node.journal.entries node.log.replies node.begun node.store.lends
  itself =
      let entries = node.journal.entries in
      let log = node.log.replies in
      subst (λ t. Itself t n pages s entries log node.begun node.store.lends) d.of_trace
      (subst (λ m. Itself node.trace m pages s entries log node.begun node.store.lends) d.of_shards
      (subst (λ r. Itself node.trace node.shards r s entries log node.begun node.store.lends) d.of_pages
      (subst (λ a. Itself node.trace node.shards node.pages a entries log node.begun node.store.lends) d.number
      (itself-done traffic holds peers tells node (subst (λ (t : Trace). IsNumbered t.operations) (sym d.of_trace) are) d.standing d.done))))

  pub toward : (b : ℕ) (peer : PeerState L) → Contains node.peers peer → peer.shard ≡ b
      → Toward trace n pages s b node.journal.entries node.log.replies node.begun (traffic peer.link).sent (traffic peer.link).received
  toward b peer among number =
      let entries = node.journal.entries in
      let log = node.log.replies in
      let sent = (traffic peer.link).sent in
      let received = (traffic peer.link).received in
      let below : peer.shard < n = other-below n s peer.shard (subst (λ qs. Contains qs peer.shard) d.peers (contains-mapped (λ (p : PeerState L). p.shard) node.peers peer among)) in
      let shards = d.of_shards in
      subst (λ t. Toward t n pages s b entries log node.begun sent received) d.of_trace
      (subst (λ m. Toward node.trace m pages s b entries log node.begun sent received) d.of_shards
      (subst (λ r. Toward node.trace node.shards r s b entries log node.begun sent received) d.of_pages
      (subst (λ a. Toward node.trace node.shards node.pages a b entries log node.begun sent received) d.number
      (subst (λ q. Toward node.trace node.shards node.pages node.shard q entries log node.begun sent received) number
      (toward-done traffic holds peers tells node peer d.standing d.done among (omega (arith, below, shards)))))))

  -- it keeps something of each other shard
  pub peer-of : (b : ℕ) → b < n → b ≢ s → (peer : PeerState L) × Contains node.peers peer × (peer.shard ≡ b)
  peer-of b below other = contains-unmapped (λ (p : PeerState L). p.shard) node.peers b (subst (λ qs. Contains qs b) (sym d.peers) (other-there n s b below other))

  pub leads : cache_after trace pages node.journal.entries ≡ Some node.store.rows
  leads = ap₂ (λ t r. cache_after t r node.journal.entries) (sym d.of_trace) (sym d.of_pages) ∙ d.standing.journal.legal

  -- all that it did for shard o
  served : (o : ℕ) → o < n → done_for n o node.journal.entries ≡ parts trace n o s
  served o below = elim (cases_eq o s) [
    | inl same ↦ subst (λ q. done_for n q node.journal.entries ≡ parts trace n q s) (sym same) itself.own
    | inr other ↦ (let peer = peer-of o below other in (toward o peer.0 peer.1 peer.2).served)
  ]

  pub complete-node : IsCompleteNode traffic trace n pages s node
  complete-node = record {
    legal = ap is_some leads;
    complete = λ o below. served o below;
    replied = λ k e below.
        let peer = get_or node.peers k e in
        let t = toward peer.shard peer (Contains-get_or node.peers k e below) refl in
        record { count = t.count; replies = t.replied };
  }

  -- each part that it did has a reply
  pub replied-at : (o : ℕ) → o < n → All (λ i. IsSome (reply_at trace pages node.journal.entries i)) (parts trace n o s)
  replied-at o below = elim (cases_eq o s) [
    | inl same ↦ subst (λ q. All (λ i. IsSome (reply_at trace pages node.journal.entries i)) (parts trace n q s)) (sym same) itself.replied
    | inr other ↦
        let peer = peer-of o below other in
        let t = toward o peer.0 peer.1 peer.2 in
        replies-there (reply_at trace pages node.journal.entries) (traffic peer.0.link).sent.replies (parts trace n o s) t.replied t.count
  ]
