-- A shard stays consistent where its peers keep their cursors.
use Rattle.std.proofs.Common.{◌≡◌, ℕ, zero, suc, ◌<◌, ◌≤◌, List, [], ◌∷◌, length, map, get_or, sum_by, slice_get, Some, Vec, arith, refl, sym, ap, subst, ◌∙◌}
use Rattle.std.specs.declared.alloc.Global.{Global}
use Rattle.std.proofs.lemmas.List.Sums.{sum_by-cons}
use Rattle.trace_text.specs.Parsed.{trace_in}
use Rattle.shard_parts.specs.declared.peer.Peer.{Peer}
use Rattle.shard_node.specs.declared.shard.Shard.{Shard}
use Rattle.shard_node.specs.Due.{operations_for}
use Rattle.shard_node.specs.Standing.{begun_at, waiting_request}
use Rattle.shard_node.specs.inside.Shards.{IsConsistent, issued_by, node_state}
use Rattle.part_lemmas.specs.Work.{bodies, puts_among}
use Rattle.shard_node.proofs.Standing.Stands.{sums-agree}

-- what holds of two lists place by place holds of what is seen of them
pub seen_each : {X Y : Type 0} (f : X → Y) (R : Y → Y → Type 0) (xs ys : List X) → length ys ≡ length xs
    → ((k : ℕ) (d : X) → k < length xs → R (f (get_or xs k d)) (f (get_or ys k d)))
    → (k : ℕ) (d : Y) → k < length (map f xs) → R (get_or (map f xs) k d) (get_or (map f ys) k d)
seen_each f R [] ys same each k d below = absurd (omega (arith, below))
seen_each f R (x ∷ xs) [] same each k d below = absurd (omega (arith, same))
seen_each f R (x ∷ xs) (y ∷ ys) same each zero d below = each 0 x (omega arith)
seen_each f R (x ∷ xs) (y ∷ ys) same each (suc k) d below =
    seen_each f R xs ys (omega (arith, same)) (λ j e b. each (suc j) e (omega (arith, b))) k d (omega (arith, below))

pub same_seen : {X Y : Type 0} (f : X → Y) (xs ys : List X) → length ys ≡ length xs
    → ((k : ℕ) (d : X) → k < length xs → f (get_or ys k d) ≡ f (get_or xs k d)) → map f ys ≡ map f xs
same_seen f [] [] same each = refl
same_seen f [] (y ∷ ys) same each = absurd (omega (arith, same))
same_seen f (x ∷ xs) [] same each = absurd (omega (arith, same))
same_seen {X} {Y} f (x ∷ xs) (y ∷ ys) same each =
    let first : f y ≡ f x = each 0 x (omega arith) in
    let others : map f ys ≡ map f xs = same_seen f xs ys (omega (arith, same)) (λ k d below. each (suc k) d (omega (arith, below))) in
    ap (λ (z : Y). z ∷ map f ys) first ∙ ap (λ (zs : List Y). f x ∷ zs) others

pub sum_seen : {X Y : Type 0} (f : X → Y) (g : Y → ℕ) (xs : List X) → sum_by g (map f xs) ≡ sum_by (λ x. g (f x)) xs
sum_seen f g [] = refl
sum_seen f g (x ∷ xs) =
    let a = sum_by-cons g (f x) (map f xs) in
    let b = sum_by-cons (λ y. g (f y)) x xs in
    let e = sum_seen f g xs in
    omega (arith, a, b, e)

module _ {L : Type 0} where
  -- the peer is the same, and so is what it will ask and answer
  pub record SamePlan (old new : Peer L) : Type 0 where
    pub shard : new.shard ≡ old.shard
    pub asks : new.asks ≡ old.asks
    pub answers : new.answers ≡ old.answers
    pub owed : new.owed ≡ old.owed

module _ {L G : Type 0} where
  pub plans_same : (shard : Shard L G) (vec : Vec (Peer L) Global) (tally : ℕ) → length vec.items ≡ length shard.peers.items
      → ((k : ℕ) (d : Peer L) → k < length shard.peers.items → SamePlan (get_or shard.peers.items k d) (get_or vec.items k d))
      → IsConsistent shard → IsConsistent (record shard { peers = vec; tally = tally })
  plans_same shard vec tally same each x =
      let peers = vec.items in
      let items = shard.peers.items in
      let inside : (k : ℕ) → k < length peers → k < length items = λ k below. omega (arith, below, same) in
      let puts : sum_by (λ (p : Peer L). puts_among p.asks.left) peers ≡ sum_by (λ (p : Peer L). puts_among p.asks.left) items =
      sums-agree (λ (p : Peer L). puts_among p.asks.left) items peers same (λ k d below. ap (λ a. puts_among a.left) (each k d below).asks) in
      let parts : sum_by (λ (p : Peer L). length p.asks.left) peers ≡ sum_by (λ (p : Peer L). length p.asks.left) items =
      sums-agree (λ (p : Peer L). length p.asks.left) items peers same (λ k d below. ap (λ a. length a.left) (each k d below).asks) in
      let most : sum_by (λ (p : Peer L). bodies (trace_in shard.trace.now) p.answers.left) peers ≡ sum_by (λ (p : Peer L). bodies (trace_in shard.trace.now) p.answers.left) items =
      sums-agree (λ (p : Peer L). bodies (trace_in shard.trace.now) p.answers.left) items peers same (λ k d below. ap (λ a. bodies (trace_in shard.trace.now) a.left) (each k d below).answers) in
      let a = x.room.rows in
      let b = x.room.spare in
      let c = x.room.bodies in
      record {
        read = x.read;
        formed = x.formed;
        parsed_for = x.parsed_for;
        within = x.within;
        of_shard = x.of_shard;
        pages = x.pages;
        of_regions = x.of_regions;
        unguarded = x.unguarded;
        counted = x.counted;
        longest = x.longest;
        peers = same_seen (λ (p : Peer L). p.shard) items peers same (λ k d below. (each k d below).shard) ∙ x.peers;
        cursors = λ k d below. let c = x.cursors k d (inside k below) in let e = each k d (inside k below) in record {
          asks_trace = ap (λ a. a.trace) e.asks ∙ c.asks_trace;
          asks_origin = ap (λ a. a.origin) e.asks ∙ (c.asks_origin ∙ sym e.shard);
          asks_shard = ap (λ a. a.shard) e.asks ∙ c.asks_shard;
          answers_trace = ap (λ a. a.trace) e.answers ∙ c.answers_trace;
          answers_origin = ap (λ a. a.origin) e.answers ∙ c.answers_origin;
          answers_shard = ap (λ a. a.shard) e.answers ∙ (c.answers_shard ∙ sym e.shard);
        };
        own = record {
          own_trace = x.own.own_trace;
          own_shard = x.own.own_shard;
          here_trace = x.own.here_trace;
          here_origin = x.own.here_origin;
          here_shard = x.own.here_shard;
          here = x.own.here;
        };
        begun = x.begun;
        waits = x.waits;
        asked = λ k d below.
            let e = each k d (inside k below) in
            let asked = x.asked k d (inside k below) in
            let left = ap (λ a. length a.left) e.answers in
            let owed = e.owed in
            let begun = ap (λ q. length (begun_at (node_state shard) q)) e.shard in
            let all = ap (λ q. length (operations_for (trace_in shard.trace.now) shard.shards shard.shard q)) e.shard in
            let waiting = ap (λ q. length (waiting_request shard.request q)) e.shard in
            omega (arith, asked, left, owed, begun, all, waiting);
        room = record { rows = omega (arith, a, puts); spare = omega (arith, b, puts, parts); bodies = omega (arith, c, most); keys = x.room.keys };
        short = x.short;
        one_each = x.one_each;
        own_unanswered = x.own_unanswered;
        unanswered = λ k d below.
            let e = each k d (inside k below) in
            λ j i from is. x.unanswered k d (inside k below) j i (subst (λ a. a.part ≤ j) e.answers from) (subst (λ q. slice_get (issued_by shard) j ≡ Some (i, q)) e.shard is);
      }
