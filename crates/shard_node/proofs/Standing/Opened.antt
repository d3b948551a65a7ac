-- A shard that is opened is consistent: nothing was done, and there is room for all that will be.
use Rattle.std.proofs.Common.{◌≡◌, ℕ, suc, ◌+◌, ◌*◌, ◌<◌, ◌≤◌, ◌==◌, List, [], ◌∷◌, length, map, take, drop, filter, replicate, get_or}
use Rattle.std.proofs.Common.{Option, Some, None, arith, refl, sym, ap, subst, ◌∙◌}
use Rattle.std.specs.List.{All, count_by, range_with_len, slice_get, sum_by}
use Rattle.std.specs.Vec.{vec_len}
use Rattle.std.proofs.lemmas.List.{get_or-replicate, length-replicate}
use Rattle.std.proofs.lemmas.List.Sums.{sum_by-cons}
use Rattle.std.proofs.lemmas.Option.{slice_get-get_or, slice_get_within}
use Rattle.std.specs.Prelude.{nat_le}
use Rattle.layout.specs.Sizes.{greatest_key, key_room, most_keys}
use Rattle.rows.specs.Operation.{Operation}
use Rattle.trace_text.specs.Parsed.{IsConsistent as IsReadTrace, IsWellFormed, trace_in}
use Rattle.trace_text.specs.Parts.{longest_value, own_parts}
use Rattle.trace_text.specs.PartCounts.{here_parts, here_puts, reply_bytes}
use Rattle.trace_text.specs.Trace.{regions}
use Rattle.rows.specs.declared.reply_kind.ReplyKind.{ReplyKind}
use Rattle.rows.specs.Holds.{RowsHold}
use Rattle.shard_memory.specs.Tickets.{tickets_out}
use Rattle.shard_rings.specs.Lanes.{Traffic}
use Rattle.shard_store.specs.Stores.{IsUnguarded}
use Rattle.shard_parts.specs.declared.peer.Peer.{Peer}
use Rattle.shard_node.specs.declared.shard.Shard.{Shard}
use Rattle.shard_node.specs.Nodes.{others}
use Rattle.shard_node.specs.Due.{operations_for}
use Rattle.shard_node.specs.Standing.{waiting_request}
use Rattle.shard_node.specs.Links.{IsUnused}
use Rattle.shard_parts.specs.Opening.{IsNewPeer}
use Rattle.shard_node.specs.inside.Shards.{AreUnanswered, HasRoom, IsConsistent, issued_by}
use Rattle.part_lemmas.specs.Work.{bodies, puts_among}
use Rattle.part_lemmas.proofs.OwnParts.IssuedParts.{AreCounted, AreOfPeers}
use Rattle.part_lemmas.proofs.OwnParts.WorkLeft.{here-parts, here-puts, reply-room, split-off}

-- A sum over the peers is one over the other shards.

over-numbers : {X : Type 0} (number : X → ℕ) (f : X → ℕ) (g : ℕ → ℕ) (xs : List X) (numbers : List ℕ) → All (λ x. f x ≡ g (number x)) xs → map number xs ≡ numbers
    → sum_by f xs ≡ sum_by g numbers
over-numbers number f g xs numbers same are = go xs same ∙ ap (sum_by g) are
  where
    go : (ys : List _) → All (λ y. f y ≡ g (number y)) ys → sum_by f ys ≡ sum_by g (map number ys)
    go [] all = refl
    go (y ∷ ys) all =
        let first = sum_by-cons f y ys in
        let second = sum_by-cons g (number y) (map number ys) in
        let here : f y ≡ g (number y) = all 0 y (omega arith) in
        let rest = go ys (λ k d below. all (suc k) d (omega (arith, below))) in
        omega (arith, first, second, here, rest)

module _ {L G : Type 0} (traffic : L → Traffic) where
  -- a shard that is opened, with this trace and as many shards as it has
  pub record IsOpened (shard : Shard L G) : Type 0 where
    pub read : IsReadTrace shard.trace.now
    pub parsed_for : shard.shards ≡ shard.trace.now.shards
    pub within : shard.shard < shard.shards
    pub of_shard : shard.store.shard ≡ shard.shard
    pub pages : shard.store.pages ≡ shard.pages
    pub of_regions : shard.store.regions ≡ regions (trace_in shard.trace.now)
    pub unguarded : IsUnguarded shard.store
    pub longest : shard.longest ≡ longest_value (trace_in shard.trace.now)
    pub rows : shard.store.rows ≡ []
    pub room : shard.store.room ≡ here_puts (trace_in shard.trace.now) shard.shards shard.shard
    pub lends : shard.store.lends ≡ 0
    pub backs : shard.store.backs ≡ 0
    pub idle : tickets_out shard.store.lent ≡ 0
    pub journal : shard.journal ≡ record { entries = []; spare = here_parts (trace_in shard.trace.now) shard.shards shard.shard + here_puts (trace_in shard.trace.now) shard.shards shard.shard }
    pub log : shard.log ≡ record { replies = replicate (own_parts (trace_in shard.trace.now) shard.shards shard.shard) None; room = reply_bytes (trace_in shard.trace.now) shard.shards shard.shard }
    pub keys : vec_len shard.keys ≡ key_room * most_keys
    pub numbers : map (λ peer. peer.shard) shard.peers.items ≡ others shard.shards shard.shard
    pub new : All (IsNewPeer shard.trace.now shard.shards shard.shard) shard.peers.items
    pub unused : All (λ peer. IsUnused traffic peer.link) shard.peers.items
    pub own_trace : shard.own.trace ≡ shard.trace.now
    pub own_shard : shard.own.shard ≡ shard.shard
    pub begun : shard.own.begun ≡ 0
    pub here_trace : shard.here.trace ≡ shard.trace.now
    pub here_origin : shard.here.origin ≡ shard.shard
    pub here_shard : shard.here.shard ≡ shard.shard
    pub here : shard.here.left ≡ operations_for (trace_in shard.trace.now) shard.shards shard.shard shard.shard
    pub request : shard.request ≡ None
    pub tally : shard.tally ≡ 0

  module _ (shard : Shard L G) (x : IsOpened shard) (counted : AreCounted) (of_peers : AreOfPeers) (formed : All IsWellFormed (trace_in shard.trace.now).operations) where
    some : 1 ≤ shard.shards
    some = let below = x.within in omega (arith, below)

    -- what the peers will ask, and what the shard does of its own
    all-asks : (f : List Operation → ℕ) → f shard.here.left + sum_by (λ peer. f peer.asks.left) shard.peers.items
        ≡ sum_by (λ o. f (operations_for (trace_in shard.trace.now) shard.shards o shard.shard)) (range_with_len 0 shard.shards)
    all-asks f =
        let own = ap f x.here in
        let each = over-numbers (λ (peer : Peer L). peer.shard) (λ (peer : Peer L). f peer.asks.left) (λ o. f (operations_for (trace_in shard.trace.now) shard.shards o shard.shard)) shard.peers.items (others shard.shards shard.shard)
        (λ k d below. ap f (x.new k d below).asks) x.numbers in
        let split = split-off (λ o. f (operations_for (trace_in shard.trace.now) shard.shards o shard.shard)) shard.shards shard.shard x.within in
        omega (arith, own, each, split)

    all-answers : (f : List Operation → ℕ) → f shard.here.left + sum_by (λ peer. f peer.answers.left) shard.peers.items
        ≡ sum_by (λ q. f (operations_for (trace_in shard.trace.now) shard.shards shard.shard q)) (range_with_len 0 shard.shards)
    all-answers f =
        let own = ap f x.here in
        let each = over-numbers (λ (peer : Peer L). peer.shard) (λ (peer : Peer L). f peer.answers.left) (λ q. f (operations_for (trace_in shard.trace.now) shard.shards shard.shard q)) shard.peers.items (others shard.shards shard.shard)
        (λ k d below. ap f (x.new k d below).answers) x.numbers in
        let split = split-off (λ q. f (operations_for (trace_in shard.trace.now) shard.shards shard.shard q)) shard.shards shard.shard x.within in
        omega (arith, own, each, split)

    has-room : HasRoom shard
    has-room =
        let puts = all-asks puts_among ∙ here-puts (trace_in shard.trace.now) shard.shards shard.shard some in
        let parts = all-asks length ∙ here-parts (trace_in shard.trace.now) shard.shards shard.shard some in
        let replies = all-answers (bodies (trace_in shard.trace.now)) in
        let most = reply-room (trace_in shard.trace.now) shard.shards shard.shard some formed in
        let rows : length shard.store.rows ≡ 0 = ap length x.rows in
        let room = x.room in
        let spare = ap (λ journal. journal.spare) x.journal in
        let bytes = ap (λ log. log.room) x.log in
        record {
          rows = omega (arith, puts, rows, room);
          spare = omega (arith, puts, parts, rows, spare);
          bodies = omega (arith, replies, most, bytes);
          keys = x.keys;
        }

    pub so-many : length shard.log.replies ≡ length (issued_by shard)
    so-many = ap (λ log. length log.replies) x.log ∙ length-replicate (own_parts (trace_in shard.trace.now) shard.shards shard.shard) None ∙ sym (counted (trace_in shard.trace.now) shard.shards shard.shard)

    -- no part is answered
    none-answered : (doer from : ℕ) → AreUnanswered shard doer from
    none-answered doer from k i low part =
        let many = counted (trace_in shard.trace.now) shard.shards shard.shard in
        let place = slice_get_within (issued_by shard) k (i, doer) part in
        let count = own_parts (trace_in shard.trace.now) shard.shards shard.shard in
        let size = length-replicate {A = Option (ReplyKind × List ℕ)} count None in
        ap (λ log. slice_get log.replies k) x.log
        ∙ slice_get-get_or (replicate count None) k None (omega (arith, many, place, size))
        ∙ ap Some (get_or-replicate count k None None (omega (arith, many, place)))

    pub none-begun : (q : ℕ) → filter (λ part. part.1 == q) (take shard.own.begun (issued_by shard)) ≡ []
    none-begun q = ap (λ b. filter (λ part. part.1 == q) (take b (issued_by shard))) x.begun

    pub waiting-none : (q : ℕ) → length (waiting_request shard.request q) ≡ 0
    waiting-none q = ap (λ r. length (waiting_request r q)) x.request

    pub opens-consistent : IsConsistent shard
    opens-consistent = record {
      read = x.read;
      formed = formed;
      parsed_for = x.parsed_for;
      within = x.within;
      of_shard = x.of_shard;
      pages = x.pages;
      of_regions = x.of_regions;
      unguarded = x.unguarded;
      counted = let lends = x.lends in let backs = x.backs in let idle = x.idle in record { lends = omega (arith, lends, backs, idle); backs = omega (arith, backs) };
      longest = x.longest;
      peers = x.numbers;
      cursors = λ k d below. let new = x.new k d below in record {
        asks_trace = new.asks_trace;
        asks_origin = new.asks_origin;
        asks_shard = new.asks_shard;
        answers_trace = new.answers_trace;
        answers_origin = new.answers_origin;
        answers_shard = new.answers_shard;
      };
      own = record {
        own_trace = x.own_trace;
        own_shard = x.own_shard;
        here_trace = x.here_trace;
        here_origin = x.here_origin;
        here_shard = x.here_shard;
        here = x.here ∙ sym (ap (λ b. drop (count_by (λ part. part.1 == shard.shard) (take b (issued_by shard))) (operations_for (trace_in shard.trace.now) shard.shards shard.shard shard.shard)) x.begun);
      };
      begun = let none = x.begun in omega (arith, none);
      waits = λ waiting is. let e : None ≡ Some waiting = sym x.request ∙ is in cc;
      asked = λ k d below.
          let new = x.new k d below in
          let begun = ap length (none-begun (get_or shard.peers.items k d).shard) in
          let left = ap length new.answers in
          let owed = new.owed in
          let waits = waiting-none (get_or shard.peers.items k d).shard in
          omega (arith, begun, left, owed, waits);
      room = has-room;
      short = subst (RowsHold (λ key. nat_le (length key.bytes) greatest_key) (λ value. nat_le (length value) shard.longest)) (sym x.rows) (λ k d below. absurd (omega (arith, below)));
      one_each = so-many;
      own_unanswered = none-answered shard.shard shard.own.begun;
      unanswered = λ k d below. none-answered (get_or shard.peers.items k d).shard (get_or shard.peers.items k d).answers.part;
    }
