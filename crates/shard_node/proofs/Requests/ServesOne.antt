-- A shard receives a packet on the lane of requests of one peer: it is as consistent as it was, and in standing where it was.
use Rattle.std.proofs.Common.{◌≡◌, ℕ, ◌+◌, ◌<◌, ◌≤◌, cond, is_some, Bool, true, List, [], ◌∷◌, length, map, drop, get_or, slice_get, slice_set, inl, inr, arith, refl, sym, ap, subst, ◌∙◌, Option, Some, None}
use Rattle.std.specs.List.{All, Contains}
use Rattle.std.specs.Option.{option_map}
use Rattle.std.specs.Vec.{with_item}
use Rattle.std.proofs.lemmas.List.{get_or-map, length-append, length-map, length-set, map-set}
use Rattle.std.proofs.lemmas.List.Sums.{count_by-le-length, get_or-le-sum_by, sum_by-set}
use Rattle.layout.specs.Sizes.{tickets}
use Rattle.rows.specs.Operation.{Operation, is_put}
use Rattle.trace_text.specs.Parsed.{AreNumbered, IsWellFormed, Parsed, trace_in}
use Rattle.trace_text.specs.Parts.{longest_value}
use Rattle.cache_model.specs.declared.entry.Entry.TheVariants.{Done, Evicted}
use Rattle.foreign_list.specs.Blocks.{Block}
use Rattle.run_log.specs.JournalState.{JournalState}
use Rattle.shard_rings.specs.Lanes.{LinkEnd, Traffic}
use Rattle.shard_rings.specs.Request.{request}
use Rattle.shard_rings.specs.declared.link.Lane.TheVariants as lanes
use Rattle.shard_rings.specs.declared.link.Packet.{Packet}
use Rattle.shard_store.specs.Stores.{StoreState}
use Rattle.shard_store.specs.Works.{floor_of}
use Rattle.shard_parts.specs.declared.stray_packet.StrayPacket.{StrayPacket}
use Rattle.shard_parts.specs.declared.stray_packet.Tried.{Tried}
use Rattle.shard_parts.specs.declared.stray_packet.Tried.TheVariants.{Nothing, Expected, Other}
use Rattle.shard_parts.specs.declared.peer.Peer.{Peer}
use Rattle.shard_node.specs.declared.shard.Shard.{Shard}
use Rattle.shard_node.specs.Nodes.{NodeState, PeerState}
use Rattle.shard_node.specs.Due.{is_same, said}
use Rattle.shard_node.specs.Standing.{InStanding}
use Rattle.shard_parts.specs.Peers.{peer_state}
use Rattle.shard_parts.specs.Receives.{TakesNone, next_ask}
use Rattle.part_lemmas.specs.Rest.{RestState}
use Rattle.shard_node.specs.inside.Serves.{EndsExpected, EndsRequest, HearsBye, IsDoneFor, IsNoRequest, MayAsk, Serves, TriesRequest, due_next}
use Rattle.shard_memory.specs.declared.share.Share.TheVariants as shares
use Rattle.shard_node.specs.inside.Shards.{AreUnanswered, HasAsked, HasCursors, IsConsistent, IsCounted, bodies_left, node_state, parts_left, puts_left}
use Rattle.shard_node.specs.inside.Steps.{IsStep}
use Rattle.part_lemmas.specs.Work.{bodies, puts_among}
use Rattle.shard_node.proofs.Standing.Counted.{lends_counted}
use Rattle.shard_node.proofs.Standing.Consistent.{SameWork, ends-same, goes_on, maps-agree, none_alone, one_changed, peer_is_other, peers_differ, work_stays}
use Rattle.shard_node.proofs.Requests.DoesNext.{DoesNext, IsApart, request_done, served}
use Rattle.part_lemmas.proofs.OwnParts.Growth.{Laws, evictions}
use Rattle.part_lemmas.proofs.OwnParts.NextPart.{TellsNumbers}
use Rattle.shard_node.proofs.OwnParts.OwnDone.{CountsRows}
use Rattle.shard_node.proofs.Standing.Peerwise.{all_but}
use Rattle.part_lemmas.proofs.Cursors.Places.{numbered}
use Rattle.shard_node.proofs.Requests.Serving.{Receives, stray_came, bye_came, linked, none_came, parted}
use Rattle.part_lemmas.proofs.OwnParts.ShortRows.{AreShort, KeepsRows, few-after, short-after, short-put}
use Rattle.part_lemmas.proofs.OwnParts.WorkLeft.{puts-left}

none-some : {X B : Type 0} (x : X) → None ≡ Some x → B
none-some {X} {B} x e = absurd (let clash : None ≡ Some x = e in cc)

-- a list with a first element
pub begins : {X : Type 0} (xs : List X) (x : X) → slice_get xs 0 ≡ Some x → xs ≡ x ∷ drop 1 xs
begins [] x first = none-some x first
begins (y ∷ xs) x first = let same : y ≡ x = cc in ap (λ z. z ∷ xs) same

module _ {L : Type 0} where
  -- the peer of which a packet came on the lane of requests
  abbrev pub after : Peer L → Peer L → Option Block → RestState → Bool → Peer L
  after old new reply asks heard = record old { link = new.link; held_request = new.held_request; reply = reply; asks = asks; has_heard_bye = heard }

  -- as a node sees it
  pub state-after : (old new : Peer L) (reply : Option Block) (asks : RestState) (heard : Bool) → new ≡ after old new new.reply new.asks new.has_heard_bye
      → new.reply ≡ reply → new.asks ≡ asks → new.has_heard_bye ≡ heard → peer_state new ≡ peer_state (after old new reply asks heard)
  state-after old new reply asks heard same r a h =
      ap peer_state same
      ∙ (ap (λ x. peer_state (after old new x new.asks new.has_heard_bye)) r
      ∙ (ap (λ x. peer_state (after old new reply x new.has_heard_bye)) a
      ∙ ap (λ x. peer_state (after old new reply asks x)) h))

module _ {L G : Type 0} (traffic : L → Traffic) (end : L → LinkEnd) (shard : Shard L G) (at : ℕ) (old new : Peer L)
    (within : at < length shard.peers.items) (here : (d : Peer L) → get_or shard.peers.items at d ≡ old) (x : IsConsistent shard) where
  abbrev node : NodeState L G
  node = node_state shard

  abbrev peers : List (Peer L)
  peers = shard.peers.items

  abbrev states : List (PeerState L)
  states = map peer_state peers

  -- the shard where the peer is as it is now
  abbrev moved : StoreState → JournalState → ℕ → Shard L G
  moved store journal tally = record shard { store = store; journal = journal; peers = with_item shard.peers at new; tally = tally }

  inside : at < length states
  inside = let many = length-map peers peer_state in omega (arith, within, many)

  state-here : (d : PeerState L) → get_or states at d ≡ peer_state old
  state-here d = get_or-map peer_state peers at old d within ∙ ap peer_state (here old)

  ends : end new.link ≡ end old.link → map (λ peer. end peer.link) (map peer_state (slice_set peers at new)) ≡ map (λ peer. end peer.link) states
  ends same = ends-same end peers (slice_set peers at new) (length-set peers at new)
      (one_changed (λ a b. end b.link ≡ end a.link) peers at new (λ p. refl) within (λ d. same ∙ ap (λ p. end p.link) (sym (here d))))

  -- the node where the peer is as it is now
  abbrev changed : StoreState → JournalState → PeerState L → ℕ → NodeState L G
  changed store journal peer tally = record node { store = store; journal = journal; peers = slice_set states at peer; tally = tally }

  stands-so : (store : StoreState) (journal : JournalState) (peer : PeerState L) (tally : ℕ) → peer_state new ≡ peer
      → InStanding traffic (changed store journal peer tally) → InStanding traffic (node_state (record shard { store = store; journal = journal; peers = with_item shard.peers at new; tally = tally }))
  stands-so store journal peer tally is stands =
      subst (λ ps. InStanding traffic (record node { store = store; journal = journal; peers = ps; tally = tally }))
      (ap (slice_set states at) (sym is) ∙ sym (map-set peer_state peers at new)) stands

  -- nothing was done
  idle_step : (peer : PeerState L) (tally : ℕ) → SameWork old new → end new.link ≡ end old.link → peer_state new ≡ peer
      → (InStanding traffic node → InStanding traffic (changed shard.store shard.journal peer tally))
      → IsStep traffic end shard (record shard { peers = with_item shard.peers at new; tally = tally })
  idle_step peer tally work same is moves = record {
    consistent = work_stays shard (with_item shard.peers at new) tally (length-set peers at new)
        (one_changed SameWork peers at new (λ p. record { shard = refl; asks = refl; answers = refl; owed = refl }) within (λ d. subst (λ p. SameWork p new) (sym (here d)) work)) x;
    standing = λ stands. stands-so shard.store shard.journal peer tally is (moves stands);
    same = record { shard = refl; shards = refl; pages = refl; trace = refl; home = refl; ends = ends same };
    turns = refl;
  }

  -- nothing came
  none_step : TakesNone traffic end lanes.Requests old new → IsStep traffic end shard (record shard { peers = with_item shard.peers at new })
  none_step takes = idle_step (record (peer_state old) { link = new.link }) shard.tally
      (record {
        shard = ap (λ (p : Peer L). p.shard) takes.same;
        asks = ap (λ (p : Peer L). p.asks) takes.same;
        answers = ap (λ (p : Peer L). p.answers) takes.same;
        owed = ap (λ (p : Peer L). p.owed) takes.same;
      })
      takes.came.same_end (ap peer_state takes.same) (none_came traffic node at (peer_state old) new.link inside state-here takes.came.sent takes.came.received)

  module _ (may : MayAsk old) (store : StoreState) (journal : JournalState) (tally : ℕ) (result : Tried)
      (serves : Serves traffic end old new shard.store store shard.journal journal shard.tally tally result) where
    abbrev packet : Packet
    packet = serves.packet

    receives : Receives traffic node (peer_state old) new.link new.held_request packet tally
    receives = record { sent = serves.came.sent; received = serves.came.received; free = may.released; tries = serves.tries }

    -- a packet that was set aside, and Bye
    stray_step : (stray : StrayPacket) → IsNoRequest packet old new shard.store store shard.journal journal stray
        → IsStep traffic end shard (record shard { peers = with_item shard.peers at new; tally = tally })
    stray_step stray none = idle_step (linked (peer_state old) new.link new.held_request) tally
        (record {
          shard = ap (λ (p : Peer L). p.shard) serves.same;
          asks = none.asks;
          answers = ap (λ (p : Peer L). p.answers) serves.same;
          owed = ap (λ (p : Peer L). p.owed) serves.same;
        })
        serves.came.same_end (state-after old new old.reply old.asks old.has_heard_bye serves.same none.reply none.asks none.heard)
        (stray_came traffic node (peer_state old) new.link new.held_request packet tally receives at inside state-here may.unheard none.other)

    bye_step : next_ask old ≡ None → is_same None (said packet) ≡ true → HearsBye old new shard.store store shard.journal journal
        → IsStep traffic end shard (record shard { peers = with_item shard.peers at new; tally = tally })
    bye_step last said_so hears = idle_step (parted (peer_state old) new.link new.held_request) tally
        (record {
          shard = ap (λ (p : Peer L). p.shard) serves.same;
          asks = hears.asks;
          answers = ap (λ (p : Peer L). p.answers) serves.same;
          owed = ap (λ (p : Peer L). p.owed) serves.same;
        })
        serves.came.same_end (state-after old new old.reply old.asks true serves.same hears.reply hears.asks hears.heard)
        (bye_came traffic node (peer_state old) new.link new.held_request packet tally receives at inside state-here may.unheard last said_so)

  apart : AreNumbered shard.trace.now.commands → length shard.store.lent ≡ tickets → IsApart traffic node at (peer_state old)
  apart are many = record {
    within = inside;
    here = state-here;
    other = λ same. peer_is_other shard x at old within (ap (λ (p : Peer L). p.shard) (here old) ∙ same);
    differs = λ j d below away same.
        let count = length-map peers peer_state in
        let there : j < length peers = omega (arith, below, count) in
        peers_differ shard x j at old old there within away
        (sym (ap (λ (p : PeerState L). p.shard) (get_or-map peer_state peers j old d there)) ∙ (same ∙ sym (ap (λ (p : Peer L). p.shard) (here old))));
    many = none_alone shard x at within;
    numbered = numbered shard.trace.now.bytes shard.trace.now.commands are;
    pages = x.pages;
    of_regions = x.of_regions;
    few = (let counted = count_by-le-length is_some shard.store.lent in omega (arith, counted, many));
  }

  -- there is room for a put, and for what is written down
  pub puts_room : (operation : Operation) → next_ask old ≡ Some operation → is_put operation.kind ≡ true → length shard.store.rows < shard.store.room
  puts_room operation first put =
      let all = puts-left operation old.asks.left (begins old.asks.left operation first) in
      let one : ◌≡◌ {A = ℕ} (cond (is_put operation.kind) 1 0) 1 = ap (λ b. cond b 1 0) put in
      let among = get_or-le-sum_by (λ (peer : Peer L). puts_among peer.asks.left) peers at old within in
      let is = ap (λ (peer : Peer L). puts_among peer.asks.left) (here old) in
      let rows = x.room.rows in
      omega (arith, all, one, among, is, rows)

  pub spare_room : (operation : Operation) → next_ask old ≡ Some operation → length shard.store.rows + 1 ≤ shard.journal.spare
  spare_room operation first =
      let all = ap length (begins old.asks.left operation first) in
      let among = get_or-le-sum_by (λ (peer : Peer L). length peer.asks.left) peers at old within in
      let is = ap (λ (peer : Peer L). length peer.asks.left) (here old) in
      let spare = x.room.spare in
      omega (arith, all, among, is, spare)

  -- The next request was done.
  module _ (laws : Laws) (tells : TellsNumbers) (keeps : KeepsRows) (counts : CountsRows) (are : AreNumbered shard.trace.now.commands)
      (formed : All IsWellFormed (trace_in shard.trace.now).operations) (many : length shard.store.lent ≡ tickets) (may : MayAsk old)
      (store : StoreState) (journal : JournalState) (tally : ℕ) (result : Tried) (serves : Serves traffic end old new shard.store store shard.journal journal shard.tally tally result)
      (operation : Operation) (first : next_ask old ≡ Some operation)
      (said_so : is_same (Some (request operation)) (said serves.packet) ≡ true) (done : IsDoneFor operation old new shard.store store shard.journal journal) where
    abbrev now : Shard L G
    now = moved store journal tally

    abbrev bound : ℕ
    bound = floor_of shard.store.pages shard.store.lent shard.store.regions

    counted : IsCounted store
    counted = lends_counted shares.Reply shard.store store done.reply done.lends x.counted

    left : old.asks.left ≡ operation ∷ drop 1 old.asks.left
    left = begins old.asks.left operation first

    cursors-old : HasCursors shard old
    cursors-old = subst (HasCursors shard) (here old) (x.cursors at old within)

    -- an eviction takes a row, and a put adds one at most
    rows_now : length store.rows + length done.does.evicted ≤ length shard.store.rows + cond (is_put operation.kind) 1 0
    rows_now =
        let most = few-after operation done.does.rest in
        let count = counts bound shard.store.rows done.does.rest done.does.evicted done.does.evicts in
        let rows = ap length done.does.rows in
        omega (arith, most, count, rows)

    puts_now : puts_left now + cond (is_put operation.kind) 1 0 ≡ puts_left shard
    puts_now =
        let all = puts-left operation old.asks.left left in
        let fewer = ap puts_among done.left in
        let sums = sum_by-set (λ (peer : Peer L). puts_among peer.asks.left) peers at new old within in
        let is = ap (λ (peer : Peer L). puts_among peer.asks.left) (here old) in
        omega (arith, all, fewer, sums, is)

    parts_now : parts_left now + 1 ≡ parts_left shard
    parts_now =
        let all = ap length left in
        let fewer = ap length done.left in
        let sums = sum_by-set (λ (peer : Peer L). length peer.asks.left) peers at new old within in
        let is = ap (λ (peer : Peer L). length peer.asks.left) (here old) in
        omega (arith, all, fewer, sums, is)

    spare_now : journal.spare + length done.does.evicted + 1 ≡ shard.journal.spare
    spare_now =
        let spare = done.does.recorded.spare in
        let entries = length-append (evictions done.does.evicted) (Done operation.number ∷ []) in
        let those = length-map done.does.evicted (λ put. Evicted put) in
        omega (arith, spare, entries, those)

    bodies_now : bodies_left now ≤ shard.log.room
    bodies_now =
        let weight : Peer L → ℕ = λ peer. bodies (trace_in shard.trace.now) peer.answers.left in
        let same = ap weight serves.same in
        let sums = sum_by-set weight peers at new old within in
        let is = ap weight (here old) in
        let before = x.room.bodies in
        omega (arith, same, sums, is, before)

    short_now : AreShort shard.longest store.rows
    short_now =
        let trace = trace_in shard.trace.now in
        let there : Contains trace.operations operation = subst (λ (t : Parsed). Contains (trace_in t).operations operation) cursors-old.asks_trace done.of_trace in
        let short : AreShort (longest_value trace) shard.store.rows = subst (λ m. AreShort m shard.store.rows) x.longest x.short in
        subst (λ m. AreShort m store.rows) (sym x.longest)
        (subst (AreShort (longest_value trace)) (sym done.does.rows)
        (short-after keeps (longest_value trace) bound operation shard.store.rows done.does.rest done.does.evicted (short-put trace operation formed there) done.does.evicts short))

    cursors_now : HasCursors shard new
    cursors_now =
        let number = ap (λ (p : Peer L). p.shard) serves.same in
        let answers = ap (λ (p : Peer L). p.answers) serves.same in
        record {
          asks_trace = done.trace ∙ cursors-old.asks_trace;
          asks_origin = done.origin ∙ (cursors-old.asks_origin ∙ sym number);
          asks_shard = done.shard ∙ cursors-old.asks_shard;
          answers_trace = ap (λ rest. rest.trace) answers ∙ cursors-old.answers_trace;
          answers_origin = ap (λ rest. rest.origin) answers ∙ cursors-old.answers_origin;
          answers_shard = ap (λ rest. rest.shard) answers ∙ (cursors-old.answers_shard ∙ sym number);
        }

    consistent : IsConsistent now
    consistent =
        let rows = rows_now in
        let puts = puts_now in
        let parts = parts_now in
        let spare = spare_now in
        let most = done.does.same.room in
        let before = x.room.rows in
        let spared = x.room.spare in
        goes_on shard store journal (with_item shard.peers at new) tally done.does.same counted
        (maps-agree (λ (peer : Peer L). peer.shard) peers (slice_set peers at new) (length-set peers at new)
        (one_changed (λ a b. b.shard ≡ a.shard) peers at new (λ p. refl) within (λ d. ap (λ (p : Peer L). p.shard) serves.same ∙ ap (λ (p : Peer L). p.shard) (sym (here d)))))
        (all_but (HasCursors shard) (HasCursors shard) peers at new within x.cursors cursors_now (λ j d below away c. c))
        (all_but (HasAsked shard) (HasAsked shard) peers at new within x.asked
        (subst (HasAsked shard) (sym serves.same) (subst (HasAsked shard) (here old) (x.asked at old within))) (λ j d below away c. c))
        (all_but (λ peer. AreUnanswered shard peer.shard peer.answers.part) (λ peer. AreUnanswered shard peer.shard peer.answers.part) peers at new within x.unanswered
        (subst (λ (p : Peer L). AreUnanswered shard p.shard p.answers.part) (sym serves.same)
        (subst (λ (p : Peer L). AreUnanswered shard p.shard p.answers.part) (here old) (x.unanswered at old within))) (λ j d below away c. c))
        short_now
        (omega (arith, rows, puts, most, before), omega (arith, rows, puts, parts, spare, spared), bodies_now) x

    does_next : DoesNext traffic node (peer_state old) store journal serves.packet operation done.reply done.answer
    does_next = record {
      unheard = may.unheard;
      idle = may.replied;
      first = first;
      same = said_so;
      does = done.does;
      holds = done.holds;
      lends = done.lends.lends;
      out = counted.lends;
    }

    done_step : IsStep traffic end shard now
    done_step = record {
      consistent = consistent;
      standing = λ stands. stands-so store journal (served (peer_state old) new.link new.held_request done.reply new.asks.left) tally
          (state-after old new (Some done.reply) new.asks old.has_heard_bye serves.same done.waits refl done.heard)
          (request_done traffic laws tells node at (peer_state old) (apart are many) new.link new.held_request serves.packet tally
          (receives may store journal tally result serves) store journal new.asks.left operation done.reply done.answer does_next done.left stands);
      same = record { shard = refl; shards = refl; pages = refl; trace = refl; home = done.does.same.list; ends = ends serves.came.same_end };
      turns = refl;
    }

  -- what was asked was tried once
  module _ (laws : Laws) (tells : TellsNumbers) (keeps : KeepsRows) (counts : CountsRows) (are : AreNumbered shard.trace.now.commands)
      (formed : All IsWellFormed (trace_in shard.trace.now).operations) (many : length shard.store.lent ≡ tickets) (may : MayAsk old)
      (store : StoreState) (journal : JournalState) (tally : ℕ) where
    -- store and journal are as they were
    as-they-were : store ≡ shard.store → journal ≡ shard.journal → IsStep traffic end shard (moved shard.store shard.journal tally) → IsStep traffic end shard (moved store journal tally)
    as-they-were same_store same_journal step =
        subst (λ s. IsStep traffic end shard (moved s journal tally)) (sym same_store)
        (subst (λ j. IsStep traffic end shard (moved shard.store j tally)) (sym same_journal) step)

    ended : (result : Tried) (serves : Serves traffic end old new shard.store store shard.journal journal shard.tally tally result)
        → EndsRequest serves.packet old new shard.store store shard.journal journal result → IsStep traffic end shard (moved store journal tally)
    ended Nothing serves ends = absurd ends
    ended (Other stray) serves none =
        as-they-were none.same_store none.same_journal (stray_step may store journal tally (Other stray) serves stray none)
    ended Expected serves ends = go (next_ask old) refl ends.0 ends.1
      where
        go : (next : Option Operation) → next_ask old ≡ next → is_same (due_next old) (said serves.packet) ≡ true → EndsExpected next old new shard.store store shard.journal journal
            → IsStep traffic end shard (moved store journal tally)
        go (Some operation) first said_so done =
            done_step laws tells keeps counts are formed many may store journal tally Expected serves operation first
            (ap (λ o. is_same (option_map request o) (said serves.packet)) (sym first) ∙ said_so) done
        go None last said_so hears =
            as-they-were hears.same_store hears.same_journal
            (bye_step may store journal tally Expected serves last (ap (λ o. is_same (option_map request o) (said serves.packet)) (sym last) ∙ said_so) hears)

    pub serves_one : (result : Tried) → TriesRequest traffic end old new shard.store store shard.journal journal shard.tally tally result → IsStep traffic end shard (moved store journal tally)
    serves_one result (inl none) =
        as-they-were none.1 none.2 (subst (λ t. IsStep traffic end shard (moved shard.store shard.journal t)) (sym none.3) (none_step none.0))
    serves_one result (inr serves) = ended result serves serves.ends
