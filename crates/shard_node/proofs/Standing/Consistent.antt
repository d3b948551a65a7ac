-- The peers of a consistent shard: their numbers are different, and none is the shard's; and a shard stays consistent as one of them
-- changes.
use Rattle.std.proofs.Common.{◌≡◌, ◌≢◌, ℕ, zero, suc, ◌+◌, ◌<◌, ◌≤◌, ◌==◌, Bool, true, false, not, cond, List, [], ◌∷◌, length, map, get_or, slice_set, filter, inl, inr, arith, refl, sym, ap, subst, ◌∙◌}
use Rattle.std.specs.List.{All, range_with_len}
use Rattle.std.specs.Prelude.{Vec}
use Rattle.std.specs.declared.alloc.Global.{Global}
use Rattle.std.proofs.lemmas.Bool.{cases_order, true≢false}
use Rattle.std.proofs.lemmas.Bool.Decides.{nat_tests}
use Rattle.std.proofs.lemmas.List.{get_or-map, get_or-set_other, get_or-set_same, get_or_default, length-map}
use Rattle.std.proofs.lemmas.List.Elements.{filter_passes}
use Rattle.trace_text.specs.Parsed.{trace_in}
use Rattle.run_log.specs.JournalState.{JournalState}
use Rattle.shard_store.specs.Stores.{IsSameStore, StoreState}
use Rattle.shard_parts.specs.declared.peer.Peer.{Peer}
use Rattle.shard_node.specs.declared.shard.Shard.{Shard}
use Rattle.shard_node.specs.Due.{operations_for}
use Rattle.shard_node.specs.Standing.{begun_at, waiting_request}
use Rattle.shard_parts.specs.Peers.{peer_state}
use Rattle.shard_node.specs.Nodes.{others}
use Rattle.part_lemmas.specs.Work.{bodies, puts_among}
use Rattle.part_lemmas.proofs.Cursors.OtherPlaces.{other-below}
use Rattle.shard_node.specs.inside.Shards.{AreUnanswered, HasAsked, HasCursors, IsConsistent, IsCounted, bodies_left, node_state, parts_left, puts_left}
use Rattle.part_lemmas.proofs.OwnParts.ShortRows.{AreShort}
use Rattle.shard_node.proofs.Standing.Stands.{sums-agree}

-- numbers that go up, from m on
Ascends : ℕ → List ℕ → Type 0
Ascends m [] = Unit {0}
Ascends m (x ∷ xs) = (m ≤ x) × Ascends (x + 1) xs

ascends-lower : (m n : ℕ) (xs : List ℕ) → m ≤ n → Ascends n xs → Ascends m xs
unfolding Ascends
ascends-lower m n [] low up = tt
ascends-lower m n (x ∷ xs) low up = (let above = up.0 in omega (arith, above, low), up.1)

range-ascends : (p : ℕ → Bool) (a k : ℕ) → Ascends a (filter p (range_with_len a k))
unfolding Ascends
range-ascends p a zero = tt
range-ascends p a (suc k) = go (p a) (filter p (range_with_len (a + 1) k)) (range-ascends p (a + 1) k)
  where
    go : (b : Bool) (rest : List ℕ) → Ascends (a + 1) rest → Ascends a (cond b (a ∷ rest) rest)
    go true rest up = (omega arith, up)
    go false rest up = ascends-lower a (a + 1) rest (omega arith) up

from-on : (m : ℕ) (xs : List ℕ) (k d : ℕ) → Ascends m xs → k < length xs → m ≤ get_or xs k d
unfolding Ascends
from-on m [] k d up below = absurd (omega (arith, below))
from-on m (x ∷ xs) zero d up below = up.0
from-on m (x ∷ xs) (suc k) d up below = let above = up.0 in let later = from-on (x + 1) xs k d up.1 (omega (arith, below)) in omega (arith, above, later)

rising : (m : ℕ) (xs : List ℕ) (j k d e : ℕ) → Ascends m xs → j < k → k < length xs → get_or xs j d < get_or xs k e
unfolding Ascends
rising m [] j k d e up less below = absurd (omega (arith, below))
rising m (x ∷ xs) j zero d e up less below = absurd (omega (arith, less))
rising m (x ∷ xs) zero (suc k) d e up less below = let later = from-on (x + 1) xs k e up.1 (omega (arith, below)) in omega (arith, later)
rising m (x ∷ xs) (suc j) (suc k) d e up less below = rising (x + 1) xs j k d e up.1 (omega (arith, less)) (omega (arith, below))

eqb-same : (n : ℕ) → (n == n) ≡ true
eqb-same n = grind (arith, nat_tests)

other-than : (n s k d : ℕ) → k < length (others n s) → get_or (others n s) k d ≢ s
other-than n s k d below same =
    let passes : not (get_or (others n s) k d == s) ≡ true = filter_passes (λ q. not (q == s)) (range_with_len 0 n) k d below in
    let is : (get_or (others n s) k d == s) ≡ true = ap (λ q. q == s) same ∙ eqb-same s in
    true≢false (sym passes ∙ ap not is)

-- with one shard there are no others
pub none-of-one : (s : ℕ) → s < 1 → others 1 s ≡ []
none-of-one zero below = refl
none-of-one (suc s) below = absurd (omega (arith, below))

module _ {L G : Type 0} (shard : Shard L G) (x : IsConsistent shard) where
  so_many : length (others shard.shards shard.shard) ≡ length shard.peers.items
  so_many = ap length (sym x.peers) ∙ length-map shard.peers.items (λ (peer : Peer L). peer.shard)

  -- the number of a peer
  number : (k : ℕ) (d : Peer L) → k < length shard.peers.items → get_or (others shard.shards shard.shard) k 0 ≡ (get_or shard.peers.items k d).shard
  number k d below = ap (λ qs. get_or qs k 0) (sym x.peers) ∙ get_or-map (λ (peer : Peer L). peer.shard) shard.peers.items k d 0 below

  -- it is below the number of shards
  pub peer_below : (k : ℕ) (d : Peer L) → k < length shard.peers.items → (get_or shard.peers.items k d).shard < shard.shards
  peer_below k d below =
      let many = so_many in
      let numbers = others shard.shards shard.shard in
      let within : k < length numbers = omega (arith, many, below) in
      subst (λ q. q < shard.shards) (number k d below)
      (other-below shard.shards shard.shard (get_or numbers k 0) (k, within, get_or_default numbers k (get_or numbers k 0) 0 within))

  -- it is not the shard's own
  pub peer_is_other : (k : ℕ) (d : Peer L) → k < length shard.peers.items → (get_or shard.peers.items k d).shard ≢ shard.shard
  peer_is_other k d below same =
      other-than shard.shards shard.shard k 0 (let many = so_many in omega (arith, many, below)) (number k d below ∙ same)

  -- and not that of another peer
  pub peers_differ : (j k : ℕ) (d e : Peer L) → j < length shard.peers.items → k < length shard.peers.items → j ≢ k
      → (get_or shard.peers.items j d).shard ≢ (get_or shard.peers.items k e).shard
  peers_differ j k d e first second apart same =
      let many = so_many in
      let numbers = others shard.shards shard.shard in
      let up = range-ascends (λ q. not (q == shard.shard)) 0 shard.shards in
      let equal : get_or numbers j 0 ≡ get_or numbers k 0 = number j d first ∙ same ∙ sym (number k e second) in
      elim (cases_order j k) [
        | inl same ↦ apart same
        | inr (inl less) ↦ let rise = rising 0 numbers j k 0 0 up less (omega (arith, many, second)) in absurd (omega (arith, rise, equal))
        | inr (inr more) ↦ let rise = rising 0 numbers k j 0 0 up more (omega (arith, many, first)) in absurd (omega (arith, rise, equal))
      ]

  -- with one shard there are no peers
  pub none_alone : (k : ℕ) → k < length shard.peers.items → shard.shards ≡ 1 → ⊥
  none_alone k below one =
      let many = so_many in
      let within = x.within in
      let none : length (others shard.shards shard.shard) ≡ 0 = ap (λ n. length (others n shard.shard)) one ∙ ap length (none-of-one shard.shard (omega (arith, within, one))) in
      omega (arith, many, none, below)

-- what each element is after one of them was changed
pub one_changed : {X : Type 0} (R : X → X → Type 0) (xs : List X) (at : ℕ) (new : X) → ((x : X) → R x x) → at < length xs → ((d : X) → R (get_or xs at d) new)
    → (k : ℕ) (d : X) → k < length xs → R (get_or xs k d) (get_or (slice_set xs at new) k d)
one_changed R xs at new same within change k d below = elim (cases_order k at) [
  | inl is ↦
      subst (R (get_or xs k d)) (sym (ap (λ j. get_or (slice_set xs at new) j d) is ∙ get_or-set_same xs at new d within))
      (subst (λ x. R x new) (ap (λ j. get_or xs j d) (sym is)) (change d))
  | inr (inl less) ↦ subst (R (get_or xs k d)) (sym (get_or-set_other xs at k new d (λ e. omega (arith, e, less)))) (same (get_or xs k d))
  | inr (inr more) ↦ subst (R (get_or xs k d)) (sym (get_or-set_other xs at k new d (λ e. omega (arith, e, more)))) (same (get_or xs k d))
]

-- what is told of each element alike
pub maps-agree : {X Y : Type 0} (f : X → Y) (xs ys : List X) → length ys ≡ length xs → ((k : ℕ) (d : X) → k < length xs → f (get_or ys k d) ≡ f (get_or xs k d))
    → map f ys ≡ map f xs
maps-agree f [] [] same agree = refl
maps-agree f [] (y ∷ ys) same agree = absurd (omega (arith, same))
maps-agree f (x ∷ xs) [] same agree = absurd (omega (arith, same))
maps-agree f (x ∷ xs) (y ∷ ys) same agree =
    let first : f y ≡ f x = agree 0 x (omega arith) in
    rw first (ap (λ zs. f x ∷ zs) (maps-agree f xs ys (omega (arith, same)) (λ k d below. agree (suc k) d (omega (arith, below)))))

module _ {L : Type 0} where
  -- the same peer with the same commands left
  pub record SameWork (old new : Peer L) : Type 0 where
    pub shard : new.shard ≡ old.shard
    pub asks : new.asks ≡ old.asks
    pub answers : new.answers ≡ old.answers
    pub owed : new.owed ≡ old.owed

  of-states : {E : Type 0} (end : L → E) (peers : List (Peer L)) → map (λ peer. end peer.link) (map peer_state peers) ≡ map (λ peer. end peer.link) peers
  of-states end [] = refl
  of-states end (peer ∷ peers) = ap (λ ends. end peer.link ∷ ends) (of-states end peers)

  -- the ends of the links are those that they were
  pub ends-same : {E : Type 0} (end : L → E) (old new : List (Peer L)) → length new ≡ length old
      → ((k : ℕ) (d : Peer L) → k < length old → end (get_or new k d).link ≡ end (get_or old k d).link)
      → map (λ peer. end peer.link) (map peer_state new) ≡ map (λ peer. end peer.link) (map peer_state old)
  ends-same end old new same agree =
      of-states end new ∙ (maps-agree (λ (peer : Peer L). end peer.link) old new same agree ∙ sym (of-states end old))

module _ {L G : Type 0} where
  -- A shard stays consistent as what its peers still will ask and answer, its store and its journal change, where there is room.
  pub goes_on : (shard : Shard L G) (store : StoreState) (journal : JournalState) (peers : Vec (Peer L) Global) (tally : ℕ)
      → IsSameStore shard.store store → IsCounted store → map (λ peer. peer.shard) peers.items ≡ map (λ peer. peer.shard) shard.peers.items
      → All (HasCursors shard) peers.items → All (HasAsked shard) peers.items → All (λ peer. AreUnanswered shard peer.shard peer.answers.part) peers.items
      → AreShort shard.longest store.rows
      → (let now : Shard L G = record shard { store = store; journal = journal; peers = peers; tally = tally } in
      (length store.rows + puts_left now ≤ store.room) × (length store.rows + puts_left now + parts_left now ≤ journal.spare) × (bodies_left now ≤ shard.log.room))
      → IsConsistent shard → IsConsistent (record shard { store = store; journal = journal; peers = peers; tally = tally })
  goes_on shard store journal peers tally same counted numbers cursors asked unanswered short room x = record {
    read = x.read;
    formed = x.formed;
    parsed_for = x.parsed_for;
    within = x.within;
    of_shard = same.shard ∙ x.of_shard;
    pages = same.pages ∙ x.pages;
    of_regions = same.regions ∙ x.of_regions;
    unguarded = λ g. same.guards g ∙ x.unguarded g;
    counted = counted;
    longest = x.longest;
    peers = numbers ∙ x.peers;
    cursors = λ k d below. let c = cursors k d below in record {
      asks_trace = c.asks_trace;
      asks_origin = c.asks_origin;
      asks_shard = c.asks_shard;
      answers_trace = c.answers_trace;
      answers_origin = c.answers_origin;
      answers_shard = c.answers_shard;
    };
    own = record {
      own_trace = x.own.own_trace;
      own_shard = x.own.own_shard;
      here_trace = x.own.here_trace;
      here_origin = x.own.here_origin;
      here_shard = x.own.here_shard;
      here = x.own.here;
    };
    begun = x.begun;
    waits = x.waits;
    asked = asked;
    room = record { rows = room.0; spare = room.1; bodies = room.2; keys = x.room.keys };
    short = short;
    one_each = x.one_each;
    own_unanswered = x.own_unanswered;
    unanswered = unanswered;
  }

  has-cursors : (shard : Shard L G) (old new : Peer L) → SameWork old new → HasCursors shard old → HasCursors shard new
  has-cursors shard old new same c = record {
    asks_trace = ap (λ rest. rest.trace) same.asks ∙ c.asks_trace;
    asks_origin = ap (λ rest. rest.origin) same.asks ∙ (c.asks_origin ∙ sym same.shard);
    asks_shard = ap (λ rest. rest.shard) same.asks ∙ c.asks_shard;
    answers_trace = ap (λ rest. rest.trace) same.answers ∙ c.answers_trace;
    answers_origin = ap (λ rest. rest.origin) same.answers ∙ c.answers_origin;
    answers_shard = ap (λ rest. rest.shard) same.answers ∙ (c.answers_shard ∙ sym same.shard);
  }

  has-asked : (shard : Shard L G) (old new : Peer L) → SameWork old new → HasAsked shard old → HasAsked shard new
  has-asked shard old new same asked =
      let left = ap (λ rest. length rest.left) same.answers in
      let owed = same.owed in
      let begun = ap (λ q. length (begun_at (node_state shard) q)) same.shard in
      let all = ap (λ q. length (operations_for (trace_in shard.trace.now) shard.shards shard.shard q)) same.shard in
      let waits = ap (λ q. length (waiting_request shard.request q)) same.shard in
      omega (arith, asked, left, owed, begun, all, waits)

  -- Nothing was done, and no reply was taken.
  pub work_stays : (shard : Shard L G) (peers : Vec (Peer L) Global) (tally : ℕ) → length peers.items ≡ length shard.peers.items
      → ((k : ℕ) (d : Peer L) → k < length shard.peers.items → SameWork (get_or shard.peers.items k d) (get_or peers.items k d))
      → IsConsistent shard → IsConsistent (record shard { peers = peers; tally = tally })
  work_stays shard peers tally same each x =
      let old = shard.peers.items in
      let inside : (k : ℕ) → k < length peers.items → k < length old = λ k below. omega (arith, below, same) in
      let puts = sums-agree (λ (peer : Peer L). puts_among peer.asks.left) old peers.items same (λ k d below. ap (λ rest. puts_among rest.left) (each k d below).asks) in
      let parts = sums-agree (λ (peer : Peer L). length peer.asks.left) old peers.items same (λ k d below. ap (λ rest. length rest.left) (each k d below).asks) in
      let replies = sums-agree (λ (peer : Peer L). bodies (trace_in shard.trace.now) peer.answers.left) old peers.items same
      (λ k d below. ap (λ rest. bodies (trace_in shard.trace.now) rest.left) (each k d below).answers) in
      let rows = x.room.rows in
      let spare = x.room.spare in
      let most = x.room.bodies in
      goes_on shard shard.store shard.journal peers tally (record { shard = refl; pages = refl; regions = refl; room = refl; list = refl; guards = λ g. refl }) x.counted
      (maps-agree (λ (peer : Peer L). peer.shard) old peers.items same (λ k d below. (each k d below).shard))
      (λ k d below. has-cursors shard (get_or old k d) (get_or peers.items k d) (each k d (inside k below)) (x.cursors k d (inside k below)))
      (λ k d below. has-asked shard (get_or old k d) (get_or peers.items k d) (each k d (inside k below)) (x.asked k d (inside k below)))
      (λ k d below. let one = each k d (inside k below) in
      subst (λ q. AreUnanswered shard q (get_or peers.items k d).answers.part) (sym one.shard)
      (subst (λ rest. AreUnanswered shard (get_or old k d).shard rest.part) (sym one.answers) (x.unanswered k d (inside k below))))
      x.short
      (omega (arith, rows, puts), omega (arith, spare, puts, parts), omega (arith, most, replies)) x
