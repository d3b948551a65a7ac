-- A shard in standing that is at its end is done, and one that is done is at its end.
use Rattle.std.proofs.Common.{◌≡◌, ◌≢◌, ℕ, zero, suc, ◌+◌, ◌<◌, ◌≤◌, ◌==◌, ◌&&◌, ◌||◌, Bool, true, false, true≢false, not, cond, List, [], ◌∷◌, ◌++◌, length, map, take, drop, replicate, get_or, slice_get}
use Rattle.std.proofs.Common.{Option, Some, None, is_some, IsSome, option_and_then, inl, inr, arith, refl, sym, ap, subst, ◌∙◌}
use Rattle.std.specs.List.{All, Contains, count_by, filter, flat_map, list_any, range_with_len}
use Rattle.std.specs.Option.{option_map}
use Rattle.std.proofs.Math.Nat.{mod-lt}
use Rattle.std.proofs.lemmas.Bool.{cases_eq, cases_lt, eq-eqb, ne_eqb}
use Rattle.std.proofs.lemmas.List.{drop_all, get_or-map, length-drop, length-map, take_all}
use Rattle.std.proofs.lemmas.List.Elements.{All-append, All-cons, All-contains, All-filter, All-head, All-map, All-nil, All-same, All-tail}
use Rattle.std.proofs.lemmas.List.FromFn.{get_or-range_with_len, length-range_with_len}
use Rattle.std.proofs.lemmas.List.Sums.{length-filter}
use Rattle.std.proofs.lemmas.Option.{get_or_from_slice_get, slice_get-get_or, slice_get_within}
use Rattle.rows.specs.Operation.{Operation, is_scan}
use Rattle.trace_text.specs.Parsed.{AreNumbered, trace_in}
use Rattle.trace_text.specs.Parts.{has_part, origin, owner, parts}
use Rattle.trace_text.specs.Trace.{Trace}
use Rattle.cache_model.specs.declared.entry.Entry.{Entry}
use Rattle.rows.specs.declared.reply_kind.ReplyKind.{ReplyKind}
use Rattle.rows.specs.Apply.{Reply}
use Rattle.cache_model.specs.Legal.{after, cache_after, cache_from, command_of, done, is_done, reply_at, reply_on}
use Rattle.cache_model.specs.OwnParts.{issued_parts, parts_of}
use Rattle.rows.specs.Row.{Row}
use Rattle.rows.specs.Spelled.{spelled}
use Rattle.shard_rings.specs.Lanes.{Traffic}
use Rattle.shard_node.specs.Nodes.{NodeState, PeerState, others}
use Rattle.shard_node.specs.Due.{operations_for}
use Rattle.shard_node.specs.Standing.{InStanding, KnowsItsPlace, LogsWhatCame, begun_at, done_for, logged_at}
use Rattle.shard_node.specs.Turns.{HasParted, IsDone}
use Rattle.shard_parts.specs.declared.peer.Peer.{Peer}
use Rattle.shard_node.specs.declared.shard.Shard.{Shard}
use Rattle.shard_node.specs.inside.Endings.{HasEnded, IsAtEnd}
use Rattle.shard_parts.specs.Own.{own_log}
use Rattle.shard_parts.specs.Peers.{peer_state}
use Rattle.shard_node.specs.inside.Shards.{IsConsistent, issued_by, node_state}
use Rattle.part_lemmas.proofs.OwnParts.BegunParts.{commands-found, count-issued, place-more}
use Rattle.shard_node.proofs.Standing.Byes.{same_own_log}
use Rattle.part_lemmas.proofs.OwnParts.Counts.{counts_more}
use Rattle.part_lemmas.proofs.OwnParts.IssuedParts.{AreOfPeers}
use Rattle.part_lemmas.proofs.OwnParts.LogPlaces.{at-cons, at_shard}
use Rattle.part_lemmas.proofs.OwnParts.NextPart.{TellsNumbers}
use Rattle.part_lemmas.proofs.Cursors.Places.{IsNumbered, numbered}

-- A log, shard by shard.

same-test : (q : ℕ) → (q == q) ≡ true
same-test q = eq-eqb q q refl

all-kept : {A : Type 0} (P : A → Type 0) (b : Bool) (a : A) (log : List A) → All P (cond b (a ∷ log) log) → All P log
all-kept P true a log all = All-tail P a log all
all-kept P false a log all = all

-- what holds of all that each shard does holds of the log
all-of-shards : {A : Type 0} (P : A → Type 0) (n : ℕ) (parts : List (ℕ × ℕ)) (log : List A) → length log ≡ length parts → All (λ (part : ℕ × ℕ). part.1 < n) parts
    → ((q : ℕ) → q < n → All P (at_shard q parts log)) → All P log
all-of-shards P n [] [] same below each = All-nil P
all-of-shards P n [] (a ∷ log) same below each = absurd (omega (arith, same))
all-of-shards P n (part ∷ parts) [] same below each = All-nil P
all-of-shards {A} P n (part ∷ parts) (a ∷ log) same below each =
    let mine : at_shard part.1 (part ∷ parts) (a ∷ log) ≡ a ∷ at_shard part.1 parts log =
    at-cons part.1 part parts a log ∙ ap (λ b. cond b (a ∷ at_shard part.1 parts log) (at_shard part.1 parts log)) (same-test part.1) in
    All-cons P a log
    (All-head P a (at_shard part.1 parts log) (All-same P _ _ (sym mine) (each part.1 (All-head (λ (p : ℕ × ℕ). p.1 < n) part parts below))))
    (all-of-shards P n parts log (omega (arith, same)) (All-tail (λ (p : ℕ × ℕ). p.1 < n) part parts below)
    (λ q less. all-kept P (part.1 == q) a (at_shard q parts log) (All-same P _ _ (sym (at-cons q part parts a log)) (each q less))))

-- and what holds of the log holds of all that a shard does
all-at-shard : {A : Type 0} (P : A → Type 0) (q : ℕ) (parts : List (ℕ × ℕ)) (log : List A) → All P log → All P (at_shard q parts log)
all-at-shard P q [] log all = All-nil P
all-at-shard P q (part ∷ parts) [] all = All-nil P
all-at-shard {A} P q (part ∷ parts) (a ∷ log) all =
    All-same P _ _ (at-cons q part parts a log) (go (part.1 == q) (at_shard q parts log) (All-head P a log all) (all-at-shard P q parts log (All-tail P a log all)))
  where
    go : (b : Bool) (rest : List A) → P a → All P rest → All P (cond b (a ∷ rest) rest)
    go true rest first those = All-cons P a rest first those
    go false rest first those = those

-- The parts that a shard issues are done by shards below n.

below-of : (n i own : ℕ) (scan : Bool) → own < n → All (λ (part : ℕ × ℕ). part.1 < n) (cond scan (map (λ s. (i, s)) (range_with_len 0 n)) ((i, own) ∷ []))
below-of n i own true less = All-map (λ (part : ℕ × ℕ). part.1 < n) (λ s. (i, s)) (range_with_len 0 n)
    (λ k d below.
    let many = length-range_with_len 0 n in
    let is = get_or-range_with_len 0 n k d (omega (arith, many, below)) in
    omega (arith, many, is, below))
below-of n i own false less = All-cons (λ (part : ℕ × ℕ). part.1 < n) (i, own) [] less (All-nil (λ (part : ℕ × ℕ). part.1 < n))

all-below : (n : ℕ) (list : List Operation) → 0 < n → All (λ (part : ℕ × ℕ). part.1 < n) (flat_map (parts_of n) list)
all-below n [] some = All-nil (λ (part : ℕ × ℕ). part.1 < n)
all-below n (x ∷ xs) some =
    All-append (λ (part : ℕ × ℕ). part.1 < n) (parts_of n x) (flat_map (parts_of n) xs) (below-of n x.number (owner x.key.bytes n) (is_scan x.kind) (mod-lt _ some)) (all-below n xs some)

issued-below : (trace : Trace) (n o : ℕ) → 0 < n → All (λ (part : ℕ × ℕ). part.1 < n) (issued_parts trace n o)
issued-below trace n o some = all-below n (filter (λ x. origin x.number n == o) trace.operations) some

-- A shard is s, or one of the others.

kept-there : {X : Type 0} (p : X → Bool) (xs : List X) (k : ℕ) (d : X) → k < length xs → p (get_or xs k d) ≡ true → Contains (filter p xs) (get_or xs k d)
kept-there p [] k d below passes = absurd (omega (arith, below))
kept-there p (x ∷ xs) zero d below passes = rw passes (0, omega arith, refl)
kept-there {X} p (x ∷ xs) (suc k) d below passes = go (p x) (filter p xs) (kept-there p xs k d (omega (arith, below)) passes)
  where
    go : (b : Bool) (rest : List X) → Contains rest (get_or xs k d) → Contains (cond b (x ∷ rest) rest) (get_or xs k d)
    go true rest there = (suc there.0, (let within = there.1 in omega (arith, within)), there.2)
    go false rest there = there

other-there : (n s q : ℕ) → q < n → q ≢ s → Contains (others n s) q
other-there n s q below other =
    let many = length-range_with_len 0 n in
    let is : get_or (range_with_len 0 n) q 0 ≡ q = get_or-range_with_len 0 n q 0 below ∙ (let e : 0 + q ≡ q = omega arith in e) in
    subst (Contains (others n s)) is
    (kept-there (λ r. not (r == s)) (range_with_len 0 n) q 0 (omega (arith, many, below)) (ap (λ r. not (r == s)) is ∙ ap not (ne_eqb q s other)))

-- Each command that a journal has done has its reply there.

any-there : (xs : List ℕ) (k d : ℕ) → k < length xs → list_any (λ j. j == get_or xs k d) xs ≡ true
any-there [] k d below = absurd (omega (arith, below))
any-there (x ∷ xs) zero d below = ap (λ b. b || list_any (λ j. j == x) xs) (same-test x)
any-there (x ∷ xs) (suc k) d below = ap (λ b. (x == get_or xs k d) || b) (any-there xs k d (omega (arith, below))) ∙ go (x == get_or xs k d)
  where
    go : (b : Bool) → (b || true) ≡ true
    go true = refl
    go false = refl

cache-front : (trace : Trace) (pages k : ℕ) (entries : List Entry) (cache rows : List Row) → cache_from trace pages cache entries ≡ Some rows
    → IsSome (cache_from trace pages cache (take k entries))
cache-front trace pages zero entries cache rows leads = refl
cache-front trace pages (suc k) [] cache rows leads = refl
cache-front trace pages (suc k) (entry ∷ entries) cache rows leads = go (after trace pages entry cache) (λ next e. cache-front trace pages k entries next rows e) leads
  where
    go : (next : Option (List Row)) → ((c : List Row) → cache_from trace pages c entries ≡ Some rows → IsSome (cache_from trace pages c (take k entries)))
        → option_and_then (λ c. cache_from trace pages c entries) next ≡ Some rows → IsSome (option_and_then (λ c. cache_from trace pages c (take k entries)) next)
    go None rest e = absurd (let clash : None ≡ Some rows = e in cc)
    go (Some next) rest e = rest next e

some-reply : (operation : Option Operation) (cache : Option (List Row)) → IsSome operation → IsSome cache → IsSome (reply_on operation cache)
some-reply None cache found leads = absurd (true≢false (sym found))
some-reply (Some operation) None found leads = absurd (true≢false (sym leads))
some-reply (Some operation) (Some cache) found leads = refl

reply-there : (trace : Trace) (pages i : ℕ) (entries : List Entry) (rows : List Row) → list_any (is_done i) entries ≡ true → IsSome (command_of trace i)
    → cache_after trace pages entries ≡ Some rows → IsSome (reply_at trace pages entries i)
reply-there trace pages i entries rows is found leads = rw is (some-reply _ _ found (cache-front trace pages _ entries [] rows leads))

some-spelled : (reply : Option Reply) → IsSome reply → IsSome (option_map spelled reply)
some-spelled None is = absurd (true≢false (sym is))
some-spelled (Some reply) is = refl

-- so have the own parts where all of them are done
own-answered : TellsNumbers → (trace : Trace) (n s pages : ℕ) (entries : List Entry) (rows : List Row) → IsNumbered trace.operations
    → cache_after trace pages entries ≡ Some rows → done_for n s entries ≡ parts trace n s s
    → All IsSome (map (λ i. option_map spelled (reply_at trace pages entries i)) (parts trace n s s))
own-answered tells trace n s pages entries rows are leads all =
    let Did : ℕ → Type 0 = λ i. list_any (is_done i) entries ≡ true in
    let Found : ℕ → Type 0 = λ i. IsSome (command_of trace i) in
    let did : All Did (parts trace n s s) =
    All-same Did _ _ (sym all)
    (All-filter (λ i. origin i n == s) Did (done entries) (λ k d below. tells (get_or (done entries) k d) entries ∙ any-there (done entries) k d below)) in
    let found : All Found (parts trace n s s) =
    All-map Found (λ (x : Operation). x.number) (operations_for trace n s s)
    (All-filter (λ x. origin x.number n == s && has_part n s x) (λ x. IsSome (command_of trace x.number)) trace.operations
    (λ k d below. ap is_some (commands-found trace are k d below))) in
    All-map IsSome (λ i. option_map spelled (reply_at trace pages entries i)) (parts trace n s s)
    (λ k d below. some-spelled _ (reply-there trace pages _ entries rows (did k d below) (found k d below) leads))

-- What came of a peer.

all-came : (replies : List Reply) (m : ℕ) → m ≡ 0 → All IsSome (map (λ reply. Some (spelled reply)) replies ++ replicate m None)
all-came replies m none =
    let There : Option (ReplyKind × List ℕ) → Type 0 = IsSome in
    All-append There (map (λ reply. Some (spelled reply)) replies) (replicate m None)
    (All-map There (λ (reply : Reply). Some (spelled reply)) replies (λ k d below. refl))
    (subst (λ k. All There (replicate k None)) (sym none) (All-nil There))

none-left : {A : Type 0} (xs : List (Option A)) (m : ℕ) → All IsSome (xs ++ replicate m None) → m ≡ 0
none-left [] zero all = refl
none-left {A} [] (suc m) all = absurd (true≢false (sym (All-head IsSome None (replicate m None) all)))
none-left (x ∷ xs) m all = none-left xs m (All-tail IsSome x (xs ++ replicate m None) all)

module _ {L G : Type 0} (traffic : L → Traffic) where
  peer-answered : (node : NodeState L G) (peer : PeerState L) → LogsWhatCame traffic node peer → peer.keeps.answers ≡ [] → All IsSome (logged_at node peer.shard)
  peer-answered node peer x none =
      let operations = operations_for node.trace node.shards node.shard peer.shard in
      let many = length-map operations (λ (o : Operation). o.number) in
      let shorter = length-drop (length x.replies) operations in
      let left : length (drop (length x.replies) operations) ≡ 0 = ap length (sym x.answers ∙ none) in
      All-same IsSome _ _ x.logged (all-came x.replies _ (omega (arith, many, shorter, left)))

  answered-peer : (node : NodeState L G) (peer : PeerState L) → LogsWhatCame traffic node peer → All IsSome (logged_at node peer.shard) → peer.keeps.answers ≡ []
  answered-peer node peer x all =
      let operations = operations_for node.trace node.shards node.shard peer.shard in
      let many = length-map operations (λ (o : Operation). o.number) in
      let none = none-left (map (λ reply. Some (spelled reply)) x.replies) _ (All-same IsSome _ _ (sym x.logged) all) in
      x.answers ∙ drop_all (length x.replies) operations (omega (arith, many, none))

module _ {L G : Type 0} (shard : Shard L G) (x : IsConsistent shard) where
  -- what holds of each peer holds of each shard but this one
  of-others : (P : ℕ → Type 0) → All (λ (peer : Peer L). P peer.shard) shard.peers.items → (q : ℕ) → q < shard.shards → q ≢ shard.shard → P q
  of-others P all q below other =
      All-contains P (others shard.shards shard.shard) q (subst (All P) x.peers (All-map P (λ (peer : Peer L). peer.shard) shard.peers.items all))
      (other-there shard.shards shard.shard q below other)

  some-shards : 0 < shard.shards
  some-shards = let within = x.within in omega (arith, within)

  -- where all own parts were begun, those that a shard does were
  all-begun : AreOfPeers → shard.own.begun ≡ length (issued_by shard) → (q : ℕ) → q < shard.shards
      → length (begun_at (node_state shard) q) ≡ length (operations_for (trace_in shard.trace.now) shard.shards shard.shard q)
  all-begun law all q below =
      length-filter (λ (part : ℕ × ℕ). part.1 == q) (take shard.own.begun (issued_by shard))
      ∙ (ap (λ n. count_by (λ (part : ℕ × ℕ). part.1 == q) (take n (issued_by shard))) all
      ∙ (ap (count_by (λ (part : ℕ × ℕ). part.1 == q)) (take_all (length (issued_by shard)) (issued_by shard) (omega arith))
      ∙ count-issued law (trace_in shard.trace.now) shard.shards shard.shard q below))

  -- and where one was not, not all of its shard's were
  some-not-begun : AreOfPeers → (i q : ℕ) → slice_get (issued_by shard) shard.own.begun ≡ Some (i, q) → q < shard.shards
      → length (begun_at (node_state shard) q) < length (operations_for (trace_in shard.trace.now) shard.shards shard.shard q)
  some-not-begun law i q here below =
      let log = issued_by shard in
      let begun = shard.own.begun in
      let within : begun < length log = slice_get_within log begun (i, q) here in
      let those = length-filter (λ (part : ℕ × ℕ). part.1 == q) (take begun log) in
      let more = place-more q log begun i here in
      let fewer = counts_more (λ (part : ℕ × ℕ). part.1 == q) log (begun + 1) (length log) (omega (arith, within)) in
      let whole = ap (count_by (λ (part : ℕ × ℕ). part.1 == q)) (take_all (length log) log (omega arith)) in
      let count = count-issued law (trace_in shard.trace.now) shard.shards shard.shard q below in
      omega (arith, those, more, fewer, whole, count)

module _ {L G : Type 0} (traffic : L → Traffic) (holds : G → ℕ) where
  -- what holds of each peer as a caller sees it
  of-peers : (P : PeerState L → Type 0) (peers : List (Peer L)) → All P (map peer_state peers) → All (λ (peer : Peer L). P (peer_state peer)) peers
  of-peers P peers all k d below =
      let longer = length-map peers (peer_state {L = L}) in
      subst P (get_or-map peer_state peers k d (peer_state d) below) (all k (peer_state d) (omega (arith, longer, below)))

  pub end-is-done : AreOfPeers → TellsNumbers → (shard : Shard L G) → IsConsistent shard → AreNumbered shard.trace.now.commands
      → InStanding traffic (node_state shard) → IsAtEnd shard → IsDone traffic holds (node_state shard)
  end-is-done law tells shard x are stands end =
      let node = node_state shard in
      let trace = trace_in shard.trace.now in
      let s = shard.shard in
      let log = shard.log.replies in
      let begun : shard.own.begun ≡ length (issued_by shard) = end.begun ∙ ap length (same_own_log shard x) in
      let many = length-map (operations_for trace shard.shards s s) (λ (o : Operation). o.number) in
      let all = all-begun shard x law begun s x.within in
      let done-here : done_for shard.shards s shard.journal.entries ≡ parts trace shard.shards s s =
      stands.own ∙ take_all (length (begun_at node s)) (parts trace shard.shards s s) (omega (arith, many, all)) in
      let here : All IsSome (at_shard s (issued_by shard) log) =
      All-same IsSome _ _ stands.logged.own
      (own-answered tells trace shard.shards s shard.pages shard.journal.entries shard.store.rows (numbered shard.trace.now.bytes shard.trace.now.commands are) stands.journal.legal done-here) in
      let logged = of-peers (LogsWhatCame traffic node) shard.peers.items stands.logged.others in
      let placed = of-peers (KnowsItsPlace traffic node) shard.peers.items stands.placed in
      let there : (q : ℕ) → q < shard.shards → q ≢ s → All IsSome (at_shard q (issued_by shard) log) = λ q below other.
      of-others shard x (λ r. All IsSome (at_shard r (issued_by shard) log))
      (λ k d inside. peer-answered traffic node (peer_state (get_or shard.peers.items k d)) (logged k d inside) (end.peers k d inside).answered) q below other in
      record {
        answered = all-of-shards IsSome shard.shards (issued_by shard) log x.one_each (issued-below trace shard.shards s (some-shards shard x))
            (λ q below. elim (cases_eq q s) [
              | inl same ↦ subst (λ r. All IsSome (at_shard r (issued_by shard) log)) (sym same) here
              | inr other ↦ there q below other
            ]);
        parted = All-map (HasParted traffic holds node) peer_state shard.peers.items (λ k d below.
            let ended = end.peers k d below in
            record {
              heard = (placed k d below).heard.0 ended.heard;
              told = (placed k d below).told.0 ended.told;
              released_requests = ended.released_request;
              released_replies = ended.released_reply;
              replied = ended.replied;
            });
        asked = end.asked;
        idle = end.idle;
      }

  pub done-is-end : AreOfPeers → (shard : Shard L G) → IsConsistent shard → shard.own.begun ≤ length (own_log shard.own)
      → InStanding traffic (node_state shard) → IsDone traffic holds (node_state shard) → IsAtEnd shard
  done-is-end law shard x few stands is =
      let node = node_state shard in
      let trace = trace_in shard.trace.now in
      let s = shard.shard in
      let log = issued_by shard in
      let begun = shard.own.begun in
      let same = ap length (same_own_log shard x) in
      let logged = of-peers (LogsWhatCame traffic node) shard.peers.items stands.logged.others in
      let placed = of-peers (KnowsItsPlace traffic node) shard.peers.items stands.placed in
      let parted = of-peers (HasParted traffic holds node) shard.peers.items is.parted in
      let peers : All HasEnded shard.peers.items = λ k d below. record {
        heard = (placed k d below).heard.1 (parted k d below).heard;
        told = (placed k d below).told.1 (parted k d below).told;
        released_request = (parted k d below).released_requests;
        released_reply = (parted k d below).released_replies;
        replied = (parted k d below).replied;
        answered = answered-peer traffic node (peer_state (get_or shard.peers.items k d)) (logged k d below)
            (all-at-shard IsSome (get_or shard.peers.items k d).shard log shard.log.replies is.answered);
      } in
      let asked : All (λ (peer : Peer L). length (operations_for trace shard.shards s peer.shard) ≤ length (begun_at node peer.shard)) shard.peers.items = λ k d below.
      let all = x.asked k d below in
      let none = ap length (peers k d below).answered in
      omega (arith, all, none) in
      let left-here : (i : ℕ) → slice_get log begun ≡ Some (i, s) → ⊥ = λ i here.
      let none : slice_get shard.log.replies begun ≡ Some None = x.own_unanswered begun i (omega arith) here in
      let same_none : get_or shard.log.replies begun None ≡ None = get_or_from_slice_get shard.log.replies begun None None none in
      true≢false (sym (is.answered begun None (slice_get_within shard.log.replies begun None none)) ∙ ap is_some same_none) in
      let left-there : (i q : ℕ) → slice_get log begun ≡ Some (i, q) → q < shard.shards → q ≢ s → ⊥ = λ i q here below other.
      let fewer = some-not-begun shard x law i q here below in
      let all = of-others shard x (λ r. length (operations_for trace shard.shards s r) ≤ length (begun_at node r)) asked q below other in
      omega (arith, fewer, all) in
      let none-left-to-begin : begun < length log → ⊥ = λ less.
      let part = get_or log begun (0, 0) in
      let here : slice_get log begun ≡ Some part = slice_get-get_or log begun (0, 0) less in
      let below : part.1 < shard.shards = issued-below trace shard.shards s (some-shards shard x) begun (0, 0) less in
      elim (cases_eq part.1 s) [
        | inl own ↦ left-here part.0 (here ∙ ap (λ q. Some (part.0, q)) own)
        | inr other ↦ left-there part.0 part.1 here below other
      ] in
      record {
        asked = is.asked;
        begun = elim (cases_lt begun (length log)) [
          | inl less ↦ absurd (none-left-to-begin less)
          | inr past ↦ omega (arith, few, same, past)
        ];
        idle = is.idle;
        peers = peers;
      }
