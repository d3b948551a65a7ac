-- The standing of a node by its peers: what holds of each peer, and what holds of the node itself.
use mathlib.Core.List.{IsPrefix}
use Rattle.std.proofs.Common.{◌≡◌, ◌≢◌, ℕ, ◌+◌, ◌<◌, List, [], ◌∷◌, ◌++◌, length, map, get_or, slice_set, arith, sym, ap, subst, ◌∙◌, sum_by, Option, Some, inl, inr}
use Rattle.std.specs.List.{All}
use Rattle.std.proofs.lemmas.Bool.{cases_order}
use Rattle.std.proofs.lemmas.List.{get_or-set_same, get_or-set_other, length-set}
use Rattle.std.proofs.lemmas.List.Sums.{sum_by-set}
use Rattle.rows.specs.Apply.{Reply}
use Rattle.cache_model.specs.Legal.{reply_at}
use Rattle.cache_model.specs.OwnParts.{issued_parts}
use Rattle.run_log.specs.JournalState.{JournalState}
use Rattle.run_log.specs.Replies.{Replies}
use Rattle.shard_rings.specs.Lanes.{Traffic}
use Rattle.shard_store.specs.Stores.{StoreState}
use Rattle.shard_rings.specs.declared.link.Packet.{Packet}
use Rattle.shard_rings.specs.declared.link.Packet.TheVariants.{Block as InBlock, Bye}
use Rattle.shard_node.specs.Nodes.{NodeState, PeerState}
use Rattle.shard_node.specs.declared.waiting.Waiting.{Waiting}
use Rattle.part_lemmas.specs.Releases.{Releases}
use Rattle.shard_node.specs.Due.{due, said}
use Rattle.shard_node.specs.Standing.{InStanding, LeadsToItsRows, DoesItsOwnInOrder, LogsItsOwn, LendsOneEach, ReleasesAll}
use Rattle.shard_node.specs.Standing.{AsksInOrder, ServesInOrder, RepliesInOrder, LogsWhatCame, SendsEachRequest, SendsEachReply, KnowsItsPlace, AreReplies, begun_at, blocks, done_for, held_of, logged_at, received_from, waiting_reply, waiting_request}

-- replies stay the replies where each of them stays
pub are_kept : (reply kept : ℕ → Option Reply) (packets : List Packet) (numbers : List ℕ) → ((i : ℕ) (answer : Reply) → reply i ≡ Some answer → kept i ≡ Some answer)
    → AreReplies reply packets numbers → AreReplies kept packets numbers
are_kept reply kept [] numbers on are = tt
are_kept reply kept (InBlock block ∷ packets) (i ∷ numbers) on are = ((are.0.0, on i are.0.0 are.0.1, are.0.2), are_kept reply kept packets numbers on are.1)
are_kept reply kept (InBlock block ∷ packets) [] on are = are
are_kept reply kept (Bye ∷ packets) numbers on are = are

module _ {L G : Type 0} (traffic : L → Traffic) where
  -- what holds of one peer
  pub record StandsWith (node : NodeState L G) (peer : PeerState L) : Type 0 where
    pub asked : AsksInOrder traffic node peer
    pub served : ServesInOrder traffic node peer
    pub replied : RepliesInOrder traffic node peer
    pub logged : LogsWhatCame traffic node peer
    pub requests : SendsEachRequest traffic node peer
    pub replies : SendsEachReply traffic node peer
    pub placed : KnowsItsPlace traffic node peer

  -- what holds of the node itself
  pub record StandsItself (node : NodeState L G) : Type 0 where
    pub journal : LeadsToItsRows traffic node
    pub own : DoesItsOwnInOrder traffic node
    pub one_each : length node.log.replies ≡ length (issued_parts node.trace node.shards node.shard)
    pub logged : LogsItsOwn traffic node
    pub lent : LendsOneEach traffic node
    pub received : ReleasesAll traffic node

  pub each_stands : (node : NodeState L G) → InStanding traffic node → All (StandsWith node) node.peers
  each_stands node stands k d below = record {
    asked = stands.asked k d below;
    served = stands.served k d below;
    replied = stands.replied k d below;
    logged = stands.logged.others k d below;
    requests = stands.kept.requests k d below;
    replies = stands.kept.replies k d below;
    placed = stands.placed k d below;
  }

  pub itself_stands : (node : NodeState L G) → InStanding traffic node → StandsItself node
  itself_stands node stands = record {
    journal = stands.journal;
    own = stands.own;
    one_each = stands.logged.one_each;
    logged = stands.logged.own;
    lent = stands.lent;
    received = stands.kept.received;
  }

  pub all_stand : (node : NodeState L G) → StandsItself node → All (StandsWith node) node.peers → InStanding traffic node
  all_stand node itself each = record {
    journal = itself.journal;
    asked = λ k d below. (each k d below).asked;
    served = λ k d below. (each k d below).served;
    own = itself.own;
    replied = λ k d below. (each k d below).replied;
    logged = record { one_each = itself.one_each; own = itself.logged; others = λ k d below. (each k d below).logged };
    lent = itself.lent;
    kept = record { received = itself.received; requests = λ k d below. (each k d below).requests; replies = λ k d below. (each k d below).replies };
    placed = λ k d below. (each k d below).placed;
  }

  -- the node later in its turn
  abbrev pub later : NodeState L G → StoreState → JournalState → Replies → List (PeerState L) → ℕ → Option Waiting → G → ℕ → NodeState L G
  later node store journal log peers begun request gate tally =
      record node { store = store; journal = journal; log = log; peers = peers; begun = begun; request = request; gate = gate; tally = tally }

  -- what a journal replied to a command it replies still
  abbrev pub Replies_on : NodeState L G → JournalState → Type 0
  Replies_on node journal = (i : ℕ) (reply : Reply)
      → reply_at node.trace node.pages node.journal.entries i ≡ Some reply → reply_at node.trace node.pages journal.entries i ≡ Some reply

  -- what the standing with peer q reads of the node is as it was
  pub record Reads (node now : NodeState L G) (q : ℕ) : Type 0 where
    pub done : done_for node.shards q now.journal.entries ≡ done_for node.shards q node.journal.entries
    pub logged : logged_at now q ≡ logged_at node q
    pub begun : begun_at now q ≡ begun_at node q
    pub waiting : waiting_request now.request q ≡ waiting_request node.request q

  pub stays : (node : NodeState L G) (store : StoreState) (journal : JournalState) (log : Replies) (peers : List (PeerState L)) (begun : ℕ) (request : Option Waiting) (gate : G) (tally : ℕ)
      (peer : PeerState L) → Replies_on node journal → Reads node (later node store journal log peers begun request gate tally) peer.shard
      → StandsWith node peer → StandsWith (later node store journal log peers begun request gate tally) peer
  stays node store journal log peers begun request gate tally peer on reads x =
      let reply = reply_at node.trace node.pages journal.entries in
      record {
        asked = x.asked;
        served = reads.done ∙ x.served;
        replied = subst (AreReplies reply (traffic peer.link).sent.replies) (sym reads.done) (are_kept _ reply _ _ on x.replied);
        logged = record { replies = x.logged.replies; taken = x.logged.taken; logged = reads.logged ∙ x.logged.logged; answers = x.logged.answers; owed = x.logged.owed };
        requests = record {
          count = ap length reads.begun ∙ (x.requests.count ∙ ap (λ (w : List (Option (List ℕ))). blocks (traffic peer.link).sent.requests + length w) (sym reads.waiting));
          next = subst (λ (w : List (Option (List ℕ))). IsPrefix (map said (traffic peer.link).sent.requests ++ w) (due node.trace node.shards node.shard peer.shard)) (sym reads.waiting) x.requests.next;
        };
        replies = record {
          count = ap length reads.done ∙ x.replies.count;
          next = subst (AreReplies reply ((traffic peer.link).sent.replies ++ waiting_reply peer.reply)) (sym reads.done) (are_kept _ reply _ _ on x.replies.next);
        };
        placed = record { asks = x.placed.asks; heard = x.placed.heard; told = x.placed.told };
      }

-- one of a list is another, and the others are as they were
pub all_but : {X : Type 0} (P Q : X → Type 0) (xs : List X) (k : ℕ) (x : X) → k < length xs → All P xs → Q x
    → ((j : ℕ) (d : X) → j < length xs → j ≢ k → P (get_or xs j d) → Q (get_or xs j d)) → All Q (slice_set xs k x)
all_but {X} P Q xs k x within all here others j d below =
    let longer = length-set xs k x in
    let inside : j < length xs = omega (arith, below, longer) in
    elim (cases_order j k) [
      | inl same ↦ subst Q (sym (ap (λ i. get_or (slice_set xs k x) i d) same ∙ get_or-set_same xs k x d within)) here
      | inr (inl less) ↦ subst Q (sym (get_or-set_other xs k j x d (λ e. omega (arith, e, less)))) (others j d inside (λ e. omega (arith, e, less)) (all j d inside))
      | inr (inr more) ↦ subst Q (sym (get_or-set_other xs k j x d (λ e. omega (arith, e, more)))) (others j d inside (λ e. omega (arith, e, more)) (all j d inside))
    ]

module _ {L G : Type 0} (traffic : L → Traffic) where
  -- One peer moved on: a block may have come of it, and may have been released.
  pub receives_one : (node now : NodeState L G) (k : ℕ) (a b : PeerState L) (d : PeerState L) (came : ℕ) (before after : ℕ) → k < length node.peers → get_or node.peers k d ≡ a
      → now.peers ≡ slice_set node.peers k b
      → received_from traffic node b ≡ received_from traffic node a + came
      → held_of traffic node b + before ≡ held_of traffic node a + after
      → Releases (before + came) after node.tally now.tally
      → ReleasesAll traffic node → ReleasesAll traffic now
  receives_one node now k a b d came before after within here peers more held releases x =
      let f = sum_by-set (held_of traffic node) node.peers k b d within in
      let g = sum_by-set (received_from traffic node) node.peers k b d within in
      let fa = ap (held_of traffic node) here in
      let ga = ap (received_from traffic node) here in
      let fb = ap (sum_by (held_of traffic node)) peers in
      let gb = ap (sum_by (received_from traffic node)) peers in
      let all = x.all in
      let freed = releases.all in
      let counted = x.counted in
      record {
        released = x.released + releases.released;
        all = omega (arith, f, g, fa, ga, fb, gb, more, held, all, freed);
        counted = let e = releases.counts (omega (arith, counted)) in omega (arith, e, counted);
      }
