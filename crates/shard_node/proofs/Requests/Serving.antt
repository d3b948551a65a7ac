-- A node stays in standing as it receives a packet on the lane of requests of a peer.
use mathlib.Core.List.{IsPrefix}
use Rattle.std.proofs.Common.{◌≡◌, ◌↔◌, ℕ, zero, suc, ◌+◌, ◌<◌, ◌≤◌, cond, true, false, List, [], ◌∷◌, ◌++◌, length, map}
use Rattle.std.proofs.Common.{take, drop, get_or, slice_get, slice_set, inl, inr, arith, refl, sym, ap, subst, ◌∙◌, Option, Some, None, true≢false, if◌then◌else◌}
use Rattle.std.specs.Option.{option_map}
use Rattle.std.proofs.lemmas.Bool.{cases_eq}
use Rattle.std.proofs.lemmas.List.{drop_all, length-append, length-map, take_all}
use Rattle.std.proofs.lemmas.List.Sums.{sum_by_push}
use Rattle.rows.specs.Operation.{Operation}
use Rattle.trace_text.specs.Parts.{parts}
use Rattle.cache_model.specs.Legal.{reply_at}
use Rattle.foreign_list.specs.Blocks.{Block}
use Rattle.shard_rings.specs.Lanes.{Lanes, adds, Traffic}
use Rattle.shard_rings.specs.Request.{request}
use Rattle.shard_rings.specs.declared.link.Lane.TheVariants as lanes
use Rattle.shard_rings.specs.declared.link.Packet.{Packet}
use Rattle.shard_rings.specs.declared.link.Packet.TheVariants.{Block as InBlock, Bye}
use Rattle.shard_node.specs.Nodes.{NodeState, PeerState}
use Rattle.shard_node.specs.Due.{Takes, due, is_next, is_same, operations_for, requests_taken, said}
use Rattle.shard_node.specs.Standing.{AreReplies, InStanding, blocks, done_for, held_of, is_block, one_if, received_from, waiting_reply, waiting_request}
use Rattle.shard_parts.specs.Receives.{block_of}
use Rattle.part_lemmas.specs.Releases.{Releases, Tries}
use Rattle.shard_node.proofs.Standing.Strays.{ReceivesStray, stray_with, none-taken}
use Rattle.part_lemmas.proofs.Packets.DueNext.{due-next, taken-most}
use Rattle.shard_node.proofs.Standing.Peerwise.{StandsWith, all_but, all_stand, each_stands, receives_one, stays}
use Rattle.part_lemmas.proofs.Packets.Releases.{one_try}
use Rattle.part_lemmas.proofs.Packets.Taken.{requests_more}
use Rattle.shard_node.proofs.Replies.Logged.{get_first}

-- a packet more is a block more, where it is one
block-more : (packets : List Packet) (packet : Packet) → blocks (packets ++ packet ∷ []) ≡ blocks packets + one_if (block_of packet)
block-more packets packet = sum_by_push (λ p. cond (is_block p) 1 0) packets packet ∙ ap (λ n. blocks packets + n) (go packet)
  where
    go : (p : Packet) → cond (is_block p) 1 0 ≡ one_if (block_of p)
    go (InBlock block) = refl
    go Bye = refl

-- the peer with another link, and another block of its requests that waits
abbrev pub linked : {L : Type 0} → PeerState L → L → Option Block → PeerState L
linked a link held = record a { link = link; held = record a.held { requests = held } }

-- and its Bye came
abbrev pub parted : {L : Type 0} → PeerState L → L → Option Block → PeerState L
parted a link held = record a { link = link; held = record a.held { requests = held }; keeps = record a.keeps { has_heard_bye = true } }

none-some : {X : Type 0} (x : X) → Some x ≡ None → ⊥
none-some {X} x e = let clash : Some x ≡ None = e in cc

past-all : {X : Type 0} (xs : List X) (n : ℕ) → slice_get xs n ≡ None → length xs ≤ n
past-all [] n none = omega arith
past-all (x ∷ xs) zero none = absurd (none-some x none)
past-all (x ∷ xs) (suc n) none = let rest = past-all xs n none in omega (arith, rest)

module _ {L G : Type 0} (traffic : L → Traffic) where
  -- One peer moved on, and all else is as it was.
  pub one_moves : (node : NodeState L G) (k : ℕ) (a b : PeerState L) (tally came before after : ℕ) → k < length node.peers → ((d : PeerState L) → get_or node.peers k d ≡ a)
      → received_from traffic node b ≡ received_from traffic node a + came → held_of traffic node b + before ≡ held_of traffic node a + after
      → Releases (before + came) after node.tally tally
      → (StandsWith traffic node a → StandsWith traffic node b)
      → InStanding traffic node → InStanding traffic (record node { peers = slice_set node.peers k b; tally = tally })
  one_moves node k a b tally came before after within here more held releases moves stands =
      let peers = slice_set node.peers k b in
      let now : NodeState L G = record node { peers = peers; tally = tally } in
      let each = each_stands traffic node stands in
      let still : (p : PeerState L) → StandsWith traffic node p → StandsWith traffic now p =
      λ p x. stays traffic node node.store node.journal node.log peers node.begun node.request node.gate tally p (λ i reply e. e) (record { done = refl; logged = refl; begun = refl; waiting = refl }) x in
      let received = receives_one traffic node now k a b a came before after within (here a) refl more held releases stands.kept.received in
      all_stand traffic now (record {
        journal = record { legal = stands.journal.legal; pressure = stands.journal.pressure };
        own = stands.own;
        one_each = stands.logged.one_each;
        logged = stands.logged.own;
        lent = record { lends = stands.lent.lends; out = stands.lent.out };
        received = received;
      }) (all_but (StandsWith traffic node) (StandsWith traffic now) node.peers k b within each (still b (moves (subst (StandsWith traffic node) (here a) (each k a within))))
      (λ j d inside other x. still (get_or node.peers j d) x))

  -- nothing came
  pub none_came : (node : NodeState L G) (k : ℕ) (a : PeerState L) (link : L) → k < length node.peers → ((d : PeerState L) → get_or node.peers k d ≡ a)
      → (traffic link).sent ≡ (traffic a.link).sent → (traffic link).received ≡ (traffic a.link).received
      → InStanding traffic node → InStanding traffic (record node { peers = slice_set node.peers k (record a { link = link }) })
  none_came node k a link within here sent received stands =
      let b : PeerState L = record a { link = link } in
      let stray : ReceivesStray traffic node a link = record {
        sent = sent;
        requests = ap (λ (ps : Lanes (List Packet)). requests_taken (due node.trace node.shards a.shard node.shard) ps.requests) received;
        replies = λ replies left takes. subst (λ (ps : Lanes (List Packet)). Takes node.trace (operations_for node.trace node.shards node.shard a.shard) ps.replies replies) (sym received) takes;
      } in
      let more : received_from traffic node b ≡ received_from traffic node a = ap (λ (ps : Lanes (List Packet)). blocks ps.requests + blocks ps.replies) received in
      one_moves node k a b node.tally 0 0 0 within here (omega (arith, more)) (omega arith)
      (record { released = 0; all = refl; counts = λ most. omega (arith, most) }) (stray_with traffic node a link a.held stray) stands

  -- What came of the peer on the lane of requests, where no block of it waits.
  pub record Receives (node : NodeState L G) (a : PeerState L) (link : L) (held : Option Block) (packet : Packet) (tally : ℕ) : Type 0 where
    pub sent : (traffic link).sent ≡ (traffic a.link).sent
    pub received : (traffic link).received ≡ adds lanes.Requests packet (traffic a.link).received
    pub free : a.held.requests ≡ None
    pub tries : Tries (block_of packet) held node.tally tally

  module _ (node : NodeState L G) (a : PeerState L) (link : L) (held : Option Block) (packet : Packet) (tally : ℕ) (r : Receives node a link held packet tally) where
    came : (traffic link).received.requests ≡ (traffic a.link).received.requests ++ packet ∷ []
    came = ap (λ (ps : Lanes (List Packet)). ps.requests) r.received

    pub blocks-came : (b : PeerState L) → b.link ≡ link → received_from traffic node b ≡ received_from traffic node a + one_if (block_of packet)
    blocks-came b same =
        let link_is = ap (λ l. blocks (traffic l).received.requests + blocks (traffic l).received.replies) same in
        let requests : blocks (traffic link).received.requests ≡ blocks (traffic a.link).received.requests + one_if (block_of packet) = ap blocks came ∙ block-more (traffic a.link).received.requests packet in
        let replies : blocks (traffic link).received.replies ≡ blocks (traffic a.link).received.replies = ap (λ (ps : Lanes (List Packet)). blocks ps.replies) r.received in
        omega (arith, link_is, requests, replies)

    pub blocks-held : (b : PeerState L) → b.held ≡ record a.held { requests = held } → held_of traffic node b + 0 ≡ held_of traffic node a + one_if held
    blocks-held b same =
        let held_is = ap (λ (h : Lanes (Option Block)). one_if h.requests + one_if h.replies) same in
        let free = ap one_if r.free in
        omega (arith, held_is, free)

    pub tried : Releases (0 + one_if (block_of packet)) (one_if held) node.tally tally
    tried =
        let one = one_try (block_of packet) held node.tally tally r.tries in
        let all = one.all in
        record { released = one.released; all = omega (arith, all); counts = one.counts }

    abbrev dues : List (Option (List ℕ))
    dues = due node.trace node.shards a.shard node.shard

    abbrev operations : List Operation
    operations = operations_for node.trace node.shards a.shard node.shard

    -- how many of its requests were taken
    abbrev taken : ℕ
    taken = requests_taken dues (traffic a.link).received.requests

    longer : length dues ≡ length operations + 1
    longer = length-append (map (λ (o : Operation). Some (request o)) operations) (None ∷ []) ∙ ap (λ n. n + 1) (length-map operations (λ (o : Operation). Some (request o)))

    -- where more may come, not all was taken
    taken-within : a.keeps.has_heard_bye ≡ false → StandsWith traffic node a → taken ≤ length operations
    taken-within unheard x =
        let most = taken-most dues (traffic a.link).received.requests in
        let more = longer in
        elim (cases_eq taken (length dues)) [
          | inl all ↦ absurd (true≢false (sym (x.placed.heard.1 all) ∙ unheard))
          | inr fewer ↦ omega (arith, more, most, fewer)
        ]

    -- and the packet should say what is due
    pub is-due : a.keeps.has_heard_bye ≡ false → StandsWith traffic node a
        → is_next dues taken packet ≡ is_same (option_map request (slice_get a.keeps.asks 0)) (said packet)
    is-due unheard x =
        due-next operations taken packet (taken-within unheard x) ∙ ap (λ os. is_same (option_map request (slice_get os 0)) (said packet)) (sym x.placed.asks)

    -- A packet that is not the one that is due.
    pub stray_came : (k : ℕ) → k < length node.peers → ((d : PeerState L) → get_or node.peers k d ≡ a)
        → a.keeps.has_heard_bye ≡ false → is_same (option_map request (slice_get a.keeps.asks 0)) (said packet) ≡ false
        → InStanding traffic node → InStanding traffic (record node { peers = slice_set node.peers k (linked a link held); tally = tally })
    stray_came k within here unheard other stands =
        let b = linked a link held in
        let answered = operations_for node.trace node.shards node.shard a.shard in
        let moves : StandsWith traffic node a → StandsWith traffic node b = λ x. stray_with traffic node a link (record a.held { requests = held }) (record {
          sent = r.sent;
          requests = ap (requests_taken dues) came ∙ none-taken dues (traffic a.link).received.requests packet (is-due unheard x ∙ other);
          replies = λ replies left takes. subst (λ (ps : Lanes (List Packet)). Takes node.trace answered ps.replies replies) (sym r.received) takes;
        }) x in
        one_moves node k a b tally (one_if (block_of packet)) 0 (one_if held) within here (blocks-came b refl) (blocks-held b refl) tried moves stands

    -- Bye came behind the last request.
    heard_with : a.keeps.has_heard_bye ≡ false → slice_get a.keeps.asks 0 ≡ None → is_same None (said packet) ≡ true
        → StandsWith traffic node a → StandsWith traffic node (parted a link held)
    heard_with unheard none same x =
        let numbers = parts node.trace node.shards a.shard node.shard in
        let requests = ap (λ (ps : Lanes (List Packet)). ps.requests) r.sent in
        let replies = ap (λ (ps : Lanes (List Packet)). ps.replies) r.sent in
        let came_other : (traffic link).received.replies ≡ (traffic a.link).received.replies = ap (λ (ps : Lanes (List Packet)). ps.replies) r.received in
        let next : is_next dues taken packet ≡ true = is-due unheard x ∙ ap (λ o. is_same (option_map request o) (said packet)) none ∙ same in
        let one_more : requests_taken dues (traffic link).received.requests ≡ taken + 1 =
        ap (requests_taken dues) came ∙ (requests_more dues (traffic a.link).received.requests packet ∙ ap (λ b. if b then taken + 1 else taken) next) in
        let most = taken-within unheard x in
        let least : length operations ≤ taken = past-all operations taken (sym (get_first operations taken) ∙ (ap (λ os. slice_get os 0) (sym x.placed.asks) ∙ none)) in
        let more = longer in
        let as_many : length numbers ≡ length operations = length-map operations (λ (o : Operation). o.number) in
        record {
          asked = subst (λ ps. IsPrefix (map said ps) (due node.trace node.shards node.shard a.shard)) (sym requests) x.asked;
          served = x.served ∙ (take_all taken numbers (omega (arith, as_many, least)) ∙ (sym (take_all (taken + 1) numbers (omega (arith, as_many, least))) ∙ ap (λ n. take n numbers) (sym one_more)));
          replied = subst (λ ps. AreReplies (reply_at node.trace node.pages node.journal.entries) ps (done_for node.shards a.shard node.journal.entries)) (sym replies) x.replied;
          logged = record {
            replies = x.logged.replies;
            taken = subst (λ ps. Takes node.trace (operations_for node.trace node.shards node.shard a.shard) ps x.logged.replies) (sym came_other) x.logged.taken;
            logged = x.logged.logged;
            answers = x.logged.answers;
            owed = x.logged.owed ∙ ap blocks (sym requests);
          };
          requests = record {
            count = x.requests.count ∙ ap (λ ps. blocks ps + length (waiting_request node.request a.shard)) (sym requests);
            next = subst (λ ps. IsPrefix (map said ps ++ waiting_request node.request a.shard) (due node.trace node.shards node.shard a.shard)) (sym requests) x.requests.next;
          };
          replies = record {
            count = x.replies.count ∙ ap (λ (ps : List Packet). length ps + one_if a.reply) (sym replies);
            next = subst (λ ps. AreReplies (reply_at node.trace node.pages node.journal.entries) (ps ++ waiting_reply a.reply) (done_for node.shards a.shard node.journal.entries)) (sym replies) x.replies.next;
          };
          placed = record {
            asks = x.placed.asks ∙ (drop_all taken operations least ∙ (sym (drop_all (taken + 1) operations (omega (arith, least))) ∙ ap (λ n. drop n operations) (sym one_more)));
            heard = (λ is. omega (arith, one_more, most, least, more), λ is. refl);
            told = subst (λ ps. (a.keeps.has_sent_bye ≡ true) ↔ (map said ps ≡ due node.trace node.shards node.shard a.shard)) (sym requests) x.placed.told;
          };
        }

    pub bye_came : (k : ℕ) → k < length node.peers → ((d : PeerState L) → get_or node.peers k d ≡ a)
        → a.keeps.has_heard_bye ≡ false → slice_get a.keeps.asks 0 ≡ None → is_same None (said packet) ≡ true
        → InStanding traffic node → InStanding traffic (record node { peers = slice_set node.peers k (parted a link held); tally = tally })
    bye_came k within here unheard none same stands =
        let b = parted a link held in
        one_moves node k a b tally (one_if (block_of packet)) 0 (one_if held) within here (blocks-came b refl) (blocks-held b refl) tried (heard_with unheard none same) stands
