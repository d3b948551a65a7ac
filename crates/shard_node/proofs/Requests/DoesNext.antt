-- A node stays in standing as it does the next request of a peer.
use Rattle.std.proofs.Common.{◌≡◌, ◌≢◌, ℕ, ◌+◌, ◌<◌, ◌≤◌, false, true, List, [], ◌∷◌, ◌++◌, length, drop, get_or, slice_get, slice_set, inl, inr, arith, refl, sym, ap, subst, ◌∙◌, Option, Some, None}
use Rattle.std.specs.List.{list_any}
use Rattle.std.specs.Option.{option_map}
use Rattle.std.proofs.lemmas.Bool.{cases_eq}
use Rattle.layout.specs.Sizes.{tickets}
use Rattle.rows.specs.Operation.{Operation}
use Rattle.trace_text.specs.Parts.{origin}
use Rattle.trace_text.specs.Trace.{regions}
use Rattle.rows.specs.Apply.{Reply}
use Rattle.cache_model.specs.Legal.{cache_after, command_of, is_done, reply_at}
use Rattle.rows.specs.Row.{floor}
use Rattle.foreign_list.specs.Blocks.{Block}
use Rattle.run_log.specs.JournalState.{JournalState}
use Rattle.layout.specs.Counts.{raised}
use Rattle.shard_memory.specs.Tickets.{tickets_out}
use Rattle.shard_rings.specs.Reply.{HoldsReply}
use Rattle.shard_rings.specs.Request.{request}
use Rattle.shard_rings.specs.declared.link.Packet.{Packet}
use Rattle.shard_rings.specs.Lanes.{Traffic}
use Rattle.shard_store.specs.Stores.{StoreState}
use Rattle.shard_store.specs.Works.{floor_of}
use Rattle.shard_node.specs.inside.Did.{DoesAbove}
use Rattle.shard_node.specs.Nodes.{NodeState, PeerState}
use Rattle.shard_node.specs.Due.{due, is_next, is_same, operations_for, requests_taken, said}
use Rattle.shard_node.specs.Standing.{InStanding, done_for, one_if}
use Rattle.shard_parts.specs.Receives.{block_of}
use Rattle.part_lemmas.proofs.OwnParts.Growth.{Laws, done_for-more, done_for-other, floor-low, leads-more, of_others, of_others-more, reply-of, reply-other, then_done}
use Rattle.part_lemmas.proofs.OwnParts.LogPlaces.{own-stays}
use Rattle.part_lemmas.proofs.OwnParts.NextPart.{TellsNumbers, command-at, not-done, origin-at}
use Rattle.shard_node.proofs.Standing.Peerwise.{StandsWith, Replies_on, all_but, all_stand, each_stands, later, receives_one, stays}
use Rattle.part_lemmas.proofs.Cursors.Places.{IsNumbered}
use Rattle.shard_node.proofs.Requests.Served.{served_with}
use Rattle.shard_node.proofs.Requests.Serving.{Receives, blocks-came, blocks-held, is-due, tried}
use Rattle.shard_node.proofs.Replies.Logged.{get_first}

-- the peer with another link, whose next request was done: the reply waits
abbrev pub served : {L : Type 0} → PeerState L → L → Option Block → Block → List Operation → PeerState L
served a link held block asks = record a { link = link; held = record a.held { requests = held }; reply = Some block; keeps = record a.keeps { asks = asks } }

none-some : {X : Type 0} (x : X) → None ≡ Some x → ⊥
none-some {X} x e = let clash : None ≡ Some x = e in cc

-- what was replied, is still, where another command is done behind it
replies-on : (reply reply' : ℕ → Option Reply) (i : ℕ) → reply i ≡ None → ((j : ℕ) → j ≢ i → reply' j ≡ reply j) → (j : ℕ) (answer : Reply) → reply j ≡ Some answer → reply' j ≡ Some answer
replies-on reply reply' i none other j answer is = elim (cases_eq j i) [
  | inl same ↦ absurd (none-some answer (sym none ∙ (ap reply (sym same) ∙ is)))
  | inr apart ↦ other j apart ∙ is
]

module _ {L G : Type 0} (traffic : L → Traffic) where
  -- The next request of a peer was done above the floor, and its reply waits to be sent.
  pub record DoesNext (node : NodeState L G) (a : PeerState L) (store : StoreState) (journal : JournalState) (packet : Packet) (operation : Operation) (block : Block) (answer : Reply) : Type 0 where
    pub unheard : a.keeps.has_heard_bye ≡ false
    pub idle : a.reply ≡ None
    pub first : slice_get a.keeps.asks 0 ≡ Some operation
    pub same : is_same (Some (request operation)) (said packet) ≡ true
    pub does : DoesAbove (floor_of node.store.pages node.store.lent node.store.regions) operation answer node.store store node.journal journal
    pub holds : HoldsReply block.piece.bytes operation.number answer
    pub lends : store.lends ≡ raised node.store.lends 1
    pub out : store.lends ≡ raised store.backs (tickets_out store.lent)

  -- what holds of a node whatever came
  pub record IsApart (node : NodeState L G) (k : ℕ) (a : PeerState L) : Type 0 where
    pub within : k < length node.peers
    pub here : (d : PeerState L) → get_or node.peers k d ≡ a
    -- the peer is neither the node nor another peer
    pub other : a.shard ≢ node.shard
    pub differs : (j : ℕ) (d : PeerState L) → j < length node.peers → j ≢ k → (get_or node.peers j d).shard ≢ a.shard
    pub many : node.shards ≡ 1 → ⊥
    pub numbered : IsNumbered node.trace.operations
    pub pages : node.store.pages ≡ node.pages
    pub of_regions : node.store.regions ≡ regions node.trace
    pub few : tickets_out node.store.lent ≤ tickets

  pub request_done : (laws : Laws) → TellsNumbers → (node : NodeState L G) (k : ℕ) (a : PeerState L) → IsApart node k a
      → (link : L) (held : Option Block) (packet : Packet) (tally : ℕ) → Receives traffic node a link held packet tally
      → (store : StoreState) (journal : JournalState) (asks : List Operation) (operation : Operation) (block : Block) (answer : Reply)
      → DoesNext node a store journal packet operation block answer → asks ≡ drop 1 a.keeps.asks
      → InStanding traffic node → InStanding traffic (record node { store = store; journal = journal; peers = slice_set node.peers k (served a link held block asks); tally = tally })
  request_done laws tells node k a apart link held packet tally r store journal asks operation block answer d left stands =
      let b = served a link held block asks in
      let peers = slice_set node.peers k b in
      let now = later traffic node store journal node.log peers node.begun node.request node.gate tally in
      let i = operation.number in
      let n = node.shards in
      let dues = due node.trace n a.shard node.shard in
      let operations = operations_for node.trace n a.shard node.shard in
      let taken = requests_taken dues (traffic a.link).received.requests in
      let each = each_stands traffic node stands in
      let x : StandsWith traffic node a = subst (StandsWith traffic node) (apart.here a) (each k a apart.within) in
      let here : slice_get operations taken ≡ Some operation = sym (get_first operations taken) ∙ (ap (λ os. slice_get os 0) (sym x.placed.asks) ∙ d.first) in
      let from : origin i n ≡ a.shard = origin-at node.trace n a.shard node.shard taken operation here in
      let command : command_of node.trace i ≡ Some operation = command-at node.trace n a.shard node.shard taken operation apart.numbered here in
      let none : list_any (is_done i) node.journal.entries ≡ false = not-done tells node.trace n a.shard node.shard taken node.journal.entries operation apart.numbered x.served here in
      let puts = d.does.evicted in
      let entries : journal.entries ≡ node.journal.entries ++ then_done puts i = d.does.recorded.entries in
      let bound = floor_of node.store.pages node.store.lent node.store.regions in
      let low : floor node.pages (regions node.trace) ≤ bound =
      subst (λ count. floor node.pages count ≤ bound) apart.of_regions
      (subst (λ p. floor p node.store.regions ≤ bound) apart.pages (floor-low node.store.pages (tickets_out node.store.lent) node.store.regions apart.few)) in
      let legal : cache_after node.trace node.pages journal.entries ≡ Some store.rows =
      ap (cache_after node.trace node.pages) entries
      ∙ (leads-more laws node.trace node.pages bound i node.journal.entries node.store.rows d.does.rest puts operation command stands.journal.legal d.does.evicts low ∙ ap Some (sym d.does.rows)) in
      let reply = reply_at node.trace node.pages node.journal.entries in
      let reply' = reply_at node.trace node.pages journal.entries in
      let others : (j : ℕ) → j ≢ i → reply' j ≡ reply j =
      λ j apart. ap (λ es. reply_at node.trace node.pages es j) entries ∙ reply-other node.trace node.pages node.journal.entries puts i j apart in
      let unanswered : reply i ≡ None = rw none refl in
      let on : Replies_on traffic node journal = replies-on reply reply' i unanswered others in
      let replied : reply' i ≡ Some answer =
      ap (λ es. reply_at node.trace node.pages es i) entries
      ∙ (reply-of laws node.trace node.pages bound i node.journal.entries node.store.rows d.does.rest puts operation none command stands.journal.legal d.does.evicts low ∙ ap Some (sym d.does.reply)) in
      let done : done_for n a.shard journal.entries ≡ done_for n a.shard node.journal.entries ++ i ∷ [] =
      ap (done_for n a.shard) entries ∙ done_for-more n a.shard node.journal.entries puts i from in
      let done_other : (o : ℕ) → a.shard ≢ o → done_for n o journal.entries ≡ done_for n o node.journal.entries =
      λ o other. ap (done_for n o) entries ∙ done_for-other n o node.journal.entries puts i (λ e. other (sym from ∙ e)) in
      let next : is_next dues taken packet ≡ true = is-due traffic node a link held packet tally r d.unheard x ∙ (ap (λ o. is_same (option_map request o) (said packet)) d.first ∙ d.same) in
      let with_it = served_with traffic node a peers link (record a.held { requests = held }) store journal tally asks packet operation block answer (record {
        sent = r.sent;
        received = r.received;
        next = next;
        first = d.first;
        unheard = d.unheard;
        idle = d.idle;
        done = done;
        on = on;
        replied = replied;
        holds = d.holds;
      }) left x in
      let more : of_others n node.shard journal.entries ≡ of_others n node.shard node.journal.entries + 1 =
      ap (of_others n node.shard) entries ∙ of_others-more n node.shard node.journal.entries puts i (λ e. apart.other (sym from ∙ e)) in
      let lent = stands.lent.lends in
      let lends = d.lends in
      all_stand traffic now (record {
        journal = record { legal = legal; pressure = λ one. absurd (apart.many one) };
        own = done_other node.shard apart.other ∙ stands.own;
        one_each = stands.logged.one_each;
        logged = own-stays node.trace n node.shard node.log.replies reply reply' (λ j of. others j (λ e. apart.other (sym from ∙ (ap (λ m. origin m n) (sym e) ∙ of)))) stands.logged.own;
        lent = record { lends = omega (arith, lent, lends, more); out = d.out };
        received = receives_one traffic node now k a b a (one_if (block_of packet)) 0 (one_if held) apart.within (apart.here a) refl
            (blocks-came traffic node a link held packet tally r b refl) (blocks-held traffic node a link held packet tally r b refl) (tried traffic node a link held packet tally r) stands.kept.received;
      }) (all_but (StandsWith traffic node) (StandsWith traffic now) node.peers k b apart.within each with_it
      (λ j e inside away x. stays traffic node store journal node.log peers node.begun node.request node.gate tally (get_or node.peers j e) on
      (record { done = done_other (get_or node.peers j e).shard (λ same. apart.differs j e inside away (sym same)); logged = refl; begun = refl; waiting = refl }) x))
