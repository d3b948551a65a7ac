-- The operations that are left to do: at the beginning, and as one of them is done.
use Rattle.std.proofs.Common.{◌≡◌, ℕ, zero, suc, ◌+◌, ◌*◌, ◌-◌, ◌<◌, ◌≤◌, ◌==◌, ◌&&◌, Bool, true, false, not, cond, leb, ltb, List, [], ◌∷◌, length, drop, filter, arith, refl, sym, ap, ◌∙◌}
use Rattle.std.specs.List.{All, count_by, range_with_len, sum_by}
use native.Mathlib.Nat.{add-mul}
use Rattle.std.proofs.Math.Nat.{mod-lt}
use Rattle.std.proofs.lemmas.Bool.{eqb-true}
use Rattle.std.proofs.lemmas.Bool.Decides.{nat_tests}
use Rattle.std.proofs.lemmas.List.Elements.{All-head, All-tail}
use Rattle.std.proofs.lemmas.List.Sums.{sum_by-cons}
use Rattle.layout.specs.Sizes.{scan_room}
use Rattle.rows.specs.declared.kind.Kind.{Kind}
use Rattle.rows.specs.declared.kind.Kind.TheVariants as kinds
use Rattle.rows.specs.Operation.{Operation, HasItsFields, is_get, is_put, is_scan}
use Rattle.trace_text.specs.Parsed.{IsWellFormed}
use Rattle.trace_text.specs.Parts.{has_part, hash, longest_value, origin, own_parts, owner}
use Rattle.trace_text.specs.PartCounts.{here_parts, here_puts, reply_bytes}
use Rattle.trace_text.specs.Trace.{Trace}
use Rattle.rows.specs.Bodies.{most_of_body, most_of_kind}
use Rattle.part_lemmas.specs.Due.{operations_for}
use Rattle.part_lemmas.specs.Exchange.{others}
use Rattle.part_lemmas.specs.Work.{bodies, puts_among, work}

abbrev one_if : Bool → ℕ
one_if b = cond b 1 0

-- One operation less.

pub puts-cons : (operation : Operation) (operations : List Operation) → puts_among (operation ∷ operations) ≡ one_if (is_put operation.kind) + puts_among operations
puts-cons operation operations = sum_by-cons (λ (o : Operation). one_if (is_put o.kind)) operation operations

pub work-cons : (operation : Operation) (operations : List Operation) → work (operation ∷ operations) ≡ work operations + (1 + one_if (is_put operation.kind))
work-cons operation operations = let e = puts-cons operation operations in omega (arith, e)

pub bodies-cons : (trace : Trace) (operation : Operation) (operations : List Operation)
    → bodies trace (operation ∷ operations) ≡ most_of_body (longest_value trace) operation + bodies trace operations
bodies-cons trace operation operations = sum_by-cons (λ (o : Operation). most_of_body (longest_value trace) o) operation operations

-- of a list whose first is this operation
pub puts-left : (operation : Operation) (operations : List Operation) → operations ≡ operation ∷ drop 1 operations
    → puts_among operations ≡ one_if (is_put operation.kind) + puts_among (drop 1 operations)
puts-left operation operations is = ap puts_among is ∙ puts-cons operation (drop 1 operations)

pub work-left : (operation : Operation) (operations : List Operation) → operations ≡ operation ∷ drop 1 operations
    → work operations ≡ work (drop 1 operations) + (1 + one_if (is_put operation.kind))
work-left operation operations is = ap work is ∙ work-cons operation (drop 1 operations)

pub bodies-left : (trace : Trace) (operation : Operation) (operations : List Operation) → operations ≡ operation ∷ drop 1 operations
    → bodies trace operations ≡ most_of_body (longest_value trace) operation + bodies trace (drop 1 operations)
bodies-left trace operation operations is = ap (bodies trace) is ∙ bodies-cons trace operation (drop 1 operations)

-- Sums.

sum-zero : {X : Type 0} (xs : List X) → sum_by (λ x. 0) xs ≡ 0
sum-zero [] = refl
sum-zero (x ∷ xs) = sum_by-cons (λ y. 0) x xs ∙ (let rest = sum-zero xs in omega (arith, rest))

sum-add : {X : Type 0} (f g : X → ℕ) (xs : List X) → sum_by (λ x. f x + g x) xs ≡ sum_by f xs + sum_by g xs
sum-add f g [] = refl
sum-add f g (x ∷ xs) =
    let a = sum_by-cons (λ y. f y + g y) x xs in
    let b = sum_by-cons f x xs in
    let c = sum_by-cons g x xs in
    let rest = sum-add f g xs in
    omega (arith, a, b, c, rest)

pub sum-same : {X : Type 0} (f g : X → ℕ) (xs : List X) → ((x : X) → f x ≡ g x) → sum_by f xs ≡ sum_by g xs
sum-same f g [] same = refl
sum-same f g (x ∷ xs) same =
    let a = sum_by-cons f x xs in
    let b = sum_by-cons g x xs in
    let here = same x in
    let rest = sum-same f g xs same in
    omega (arith, a, b, here, rest)

-- what operations weigh that pass a test, summed over the tests: each operation as often as it passes
pub sum-exchange : (f : Operation → ℕ) (p : ℕ → Operation → Bool) (qs : List ℕ) (operations : List Operation)
    → sum_by (λ q. sum_by f (filter (p q) operations)) qs ≡ sum_by (λ operation. sum_by (λ q. cond (p q operation) (f operation) 0) qs) operations
sum-exchange f p qs [] = sum-zero qs
sum-exchange f p qs (operation ∷ operations) =
    sum-same (λ q. sum_by f (filter (p q) (operation ∷ operations))) (λ q. cond (p q operation) (f operation) 0 + sum_by f (filter (p q) operations)) qs
    (λ q. go (p q operation) (filter (p q) operations))
    ∙ sum-add (λ q. cond (p q operation) (f operation) 0) (λ q. sum_by f (filter (p q) operations)) qs
    ∙ ap (λ rest. sum_by (λ q. cond (p q operation) (f operation) 0) qs + rest) (sum-exchange f p qs operations)
    ∙ sym (sum_by-cons (λ o. sum_by (λ q. cond (p q o) (f o) 0) qs) operation operations)
  where
    go : (b : Bool) (rest : List Operation) → sum_by f (cond b (operation ∷ rest) rest) ≡ cond b (f operation) 0 + sum_by f rest
    go true rest = sum_by-cons f operation rest
    go false rest = omega arith

length-sum : (operations : List Operation) → length operations ≡ sum_by (λ operation. 1) operations
length-sum [] = refl
length-sum (operation ∷ operations) =
    let a = sum_by-cons {X = Operation} (λ o. 1) operation operations in
    let rest = length-sum operations in
    omega (arith, a, rest)

-- a range has each of its numbers once
once-in : (a k n v : ℕ) → sum_by (λ q. cond (n == q) v 0) (range_with_len a k) ≡ cond (leb a n && ltb n (a + k)) v 0
once-in a zero n v = grind (arith, nat_tests)
once-in a (suc k) n v = sum_by-cons (λ q. cond (n == q) v 0) a (range_with_len (a + 1) k) ∙ rw (once-in (a + 1) k n v) (grind (arith, nat_tests))

once : (k n v : ℕ) → n < k → sum_by (λ q. cond (n == q) v 0) (range_with_len 0 k) ≡ v
once k n v below = once-in 0 k n v ∙ (grind (arith, nat_tests))

of-each : (a k v : ℕ) → sum_by (λ q. v) (range_with_len a k) ≡ k * v
of-each a zero v = omega arith
of-each a (suc k) v =
    let first = sum_by-cons (λ (q : ℕ). v) a (range_with_len (a + 1) k) in
    let rest = of-each (a + 1) k v in
    let one_more : suc k * v ≡ v + k * v = omega arith in
    omega (arith, first, rest, one_more)

-- What one shard does for all of them.

-- the shards that issue an operation
issuers : (here : Bool) (n from v : ℕ) → from < n → sum_by (λ o. cond (from == o && here) v 0) (range_with_len 0 n) ≡ cond here v 0
issuers true n from v below = sum-same (λ o. cond (from == o && true) v 0) (λ o. cond (from == o) v 0) (range_with_len 0 n) (λ o. go (from == o)) ∙ once n from v below
  where
    go : (b : Bool) → cond (b && true) v 0 ≡ cond b v 0
    go true = refl
    go false = refl
issuers false n from v below = sum-same (λ o. cond (from == o && false) v 0) (λ o. 0) (range_with_len 0 n) (λ o. go (from == o)) ∙ sum-zero (range_with_len 0 n)
  where
    go : (b : Bool) → cond (b && false) v 0 ≡ 0
    go true = refl
    go false = refl

-- what the operations weigh that each shard issues to shard s, together
all-origins : (f : Operation → ℕ) (trace : Trace) (n s : ℕ) → 1 ≤ n
    → sum_by (λ o. sum_by f (operations_for trace n o s)) (range_with_len 0 n) ≡ sum_by (λ operation. cond (has_part n s operation) (f operation) 0) trace.operations
all-origins f trace n s some =
    sum-exchange f (λ o operation. origin operation.number n == o && has_part n s operation) (range_with_len 0 n) trace.operations
    ∙ sum-same (λ operation. sum_by (λ o. cond (origin operation.number n == o && has_part n s operation) (f operation) 0) (range_with_len 0 n))
    (λ operation. cond (has_part n s operation) (f operation) 0) trace.operations
    (λ operation. issuers (has_part n s operation) n (origin operation.number n) (f operation) (mod-lt (operation.number - 1) some))

pub here-parts : (trace : Trace) (n s : ℕ) → 1 ≤ n → sum_by (λ o. length (operations_for trace n o s)) (range_with_len 0 n) ≡ here_parts trace n s
here-parts trace n s some =
    sum-same (λ o. length (operations_for trace n o s)) (λ o. sum_by (λ operation. 1) (operations_for trace n o s)) (range_with_len 0 n) (λ o. length-sum (operations_for trace n o s))
    ∙ all-origins (λ operation. 1) trace n s some

pub here-puts : (trace : Trace) (n s : ℕ) → 1 ≤ n → sum_by (λ o. puts_among (operations_for trace n o s)) (range_with_len 0 n) ≡ here_puts trace n s
here-puts trace n s some =
    all-origins (λ operation. one_if (is_put operation.kind)) trace n s some
    ∙ sum-same (λ operation. cond (has_part n s operation) (one_if (is_put operation.kind)) 0) (λ operation. one_if (is_put operation.kind && owner operation.key.bytes n == s)) trace.operations
    (λ operation. go operation.kind (owner operation.key.bytes n == s))
  where
    go : (kind : Kind) (b : Bool) → cond (cond (is_scan kind) true b) (one_if (is_put kind)) 0 ≡ one_if (is_put kind && b)
    go kinds.Put true = refl
    go kinds.Put false = refl
    go kinds.Get true = refl
    go kinds.Get false = refl
    go kinds.Erase true = refl
    go kinds.Erase false = refl
    go kinds.Scan b = refl

-- what all of them take together
pub work-all : (trace : Trace) (n s : ℕ) → 1 ≤ n → sum_by (λ o. work (operations_for trace n o s)) (range_with_len 0 n) ≡ here_parts trace n s + here_puts trace n s
work-all trace n s some =
    let sum = sum-add (λ o. length (operations_for trace n o s)) (λ o. puts_among (operations_for trace n o s)) (range_with_len 0 n) in
    let counts = here-parts trace n s some in
    let puts = here-puts trace n s some in
    omega (arith, sum, counts, puts)

-- What all shards do for one.

-- the shards that do a part of an operation
takers : (mine scans : Bool) (n own v : ℕ) → own < n
    → sum_by (λ q. cond (mine && cond scans true (own == q)) v 0) (range_with_len 0 n) ≡ cond mine (cond scans (n * v) v) 0
takers false scans n own v below = sum-zero (range_with_len 0 n)
takers true true n own v below = of-each 0 n v
takers true false n own v below = once n own v below

-- what the operations weigh that shard s issues to each shard, together
all-peers : (f : Operation → ℕ) (trace : Trace) (n s : ℕ) → 1 ≤ n
    → sum_by (λ q. sum_by f (operations_for trace n s q)) (range_with_len 0 n)
    ≡ sum_by (λ operation. cond (origin operation.number n == s) (cond (is_scan operation.kind) (n * f operation) (f operation)) 0) trace.operations
all-peers f trace n s some =
    sum-exchange f (λ q operation. origin operation.number n == s && has_part n q operation) (range_with_len 0 n) trace.operations
    ∙ sum-same (λ operation. sum_by (λ q. cond (origin operation.number n == s && has_part n q operation) (f operation) 0) (range_with_len 0 n))
    (λ operation. cond (origin operation.number n == s) (cond (is_scan operation.kind) (n * f operation) (f operation)) 0) trace.operations
    (λ operation. takers (origin operation.number n == s) (is_scan operation.kind) n (owner operation.key.bytes n) (f operation) (mod-lt (hash operation.key.bytes) some))

pub own-parts : (trace : Trace) (n s : ℕ) → 1 ≤ n → sum_by (λ q. length (operations_for trace n s q)) (range_with_len 0 n) ≡ own_parts trace n s
own-parts trace n s some =
    sum-same (λ q. length (operations_for trace n s q)) (λ q. sum_by (λ operation. 1) (operations_for trace n s q)) (range_with_len 0 n) (λ q. length-sum (operations_for trace n s q))
    ∙ all-peers (λ operation. 1) trace n s some
    ∙ sum-same (λ operation. cond (origin operation.number n == s) (cond (is_scan operation.kind) (n * 1) 1) 0)
    (λ operation. cond (origin operation.number n == s) (cond (is_scan operation.kind) n 1) 0) trace.operations
    (λ operation. let once : n * 1 ≡ n = omega arith in ap (λ k. cond (origin operation.number n == s) (cond (is_scan operation.kind) k 1) 0) once)

-- The room for the replies to them.

mul-most : (n a b : ℕ) → a ≤ b → n * a ≤ n * b
mul-most zero a b le = omega arith
mul-most (suc n) a b le =
    let rest = mul-most n a b le in
    let left : suc n * a ≡ a + n * a = omega arith in
    let right : suc n * b ≡ b + n * b = omega arith in
    omega (arith, rest, left, right, le)

body-most : (mine : Bool) (kind : Kind) (value : List ℕ) (most count n : ℕ) → HasItsFields kind value count
    → cond mine (cond (is_scan kind) (n * most_of_kind kind most count) (most_of_kind kind most count)) 0
    ≤ one_if (is_get kind && mine) * most + one_if (is_scan kind && mine) * (n * scan_room)
body-most true kinds.Put value most count n fields = omega arith
body-most true kinds.Get value most count n fields = omega arith
body-most true kinds.Erase value most count n fields = omega arith
body-most true kinds.Scan value most count n fields =
    let few = fields.2 in
    let least = mul-most n (most_of_kind kinds.Scan most count) scan_room (omega (arith, few)) in
    omega (arith, least)
body-most false kinds.Put value most count n fields = omega arith
body-most false kinds.Get value most count n fields = omega arith
body-most false kinds.Erase value most count n fields = omega arith
body-most false kinds.Scan value most count n fields = omega arith

both-most : (a b c d x y most room : ℕ) → x ≤ a * most + b * room → y ≤ c * most + d * room → x + y ≤ (a + c) * most + (b + d) * room
both-most a b c d x y most room first rest = rw (add-mul a c most, add-mul b d room) (omega arith)

bodies-most : (operations : List Operation) (most n s : ℕ) → All IsWellFormed operations
    → sum_by (λ operation. cond (origin operation.number n == s) (cond (is_scan operation.kind) (n * most_of_body most operation) (most_of_body most operation)) 0) operations
    ≤ count_by (λ operation. is_get operation.kind && origin operation.number n == s) operations * most
    + count_by (λ operation. is_scan operation.kind && origin operation.number n == s) operations * (n * scan_room)
bodies-most [] most n s formed = omega arith
bodies-most (first ∷ operations) most n s formed =
    rw (
      sum_by-cons (λ (o : Operation). cond (origin o.number n == s) (cond (is_scan o.kind) (n * most_of_body most o) (most_of_body most o)) 0) first operations,
      sum_by-cons (λ (o : Operation). one_if (is_get o.kind && origin o.number n == s)) first operations,
      sum_by-cons (λ (o : Operation). one_if (is_scan o.kind && origin o.number n == s)) first operations,
    ) (both-most _ _ _ _ _ _ most (n * scan_room) (body-most (origin first.number n == s) first.kind first.value most first.count n (All-head IsWellFormed first operations formed).fields)
    (bodies-most operations most n s (All-tail IsWellFormed first operations formed)))

pub reply-room : (trace : Trace) (n s : ℕ) → 1 ≤ n → All IsWellFormed trace.operations
    → sum_by (λ q. bodies trace (operations_for trace n s q)) (range_with_len 0 n) ≤ reply_bytes trace n s
reply-room trace n s some formed =
    rw (all-peers (λ operation. most_of_body (longest_value trace) operation) trace n s some) (bodies-most trace.operations (longest_value trace) n s formed)

-- One shard and the others.

not-in : (f : ℕ → ℕ) (a k s : ℕ) → s < a → sum_by f (filter (λ q. not (q == s)) (range_with_len a k)) ≡ sum_by f (range_with_len a k)
not-in f a zero s above = refl
not-in f a (suc k) s above =
    let other : (a == s) ≡ false = grind (arith, nat_tests) in
    rw other (sum_by-cons f a (filter (λ q. not (q == s)) (range_with_len (a + 1) k))
    ∙ ap (λ n. f a + n) (not-in f (a + 1) k s (omega (arith, above)))
    ∙ sym (sum_by-cons f a (range_with_len (a + 1) k)))

split-in : (f : ℕ → ℕ) (a k s : ℕ) → a ≤ s → s < a + k → sum_by f (range_with_len a k) ≡ f s + sum_by f (filter (λ q. not (q == s)) (range_with_len a k))
split-in f a zero s from to = absurd (omega (arith, from, to))
split-in f a (suc k) s from to = go (a == s) refl (λ above. split-in f (a + 1) k s above (omega (arith, to)))
  where
    rest : List ℕ
    rest = range_with_len (a + 1) k

    go : (b : Bool) → (a == s) ≡ b → (a + 1 ≤ s → sum_by f rest ≡ f s + sum_by f (filter (λ q. not (q == s)) rest))
        → sum_by f (a ∷ rest) ≡ f s + sum_by f (cond (not b) (a ∷ filter (λ q. not (q == s)) rest) (filter (λ q. not (q == s)) rest))
    go true is behind =
        let same : a ≡ s = eqb-true a s is in
        let first = sum_by-cons f a rest in
        let others = not-in f (a + 1) k s (omega (arith, same)) in
        let here = ap f same in
        omega (arith, first, others, here)
    go false is behind =
        let above : a + 1 ≤ s = grind (arith, nat_tests) in
        let later = behind above in
        let first = sum_by-cons f a rest in
        let second = sum_by-cons f a (filter (λ q. not (q == s)) rest) in
        omega (arith, later, first, second)

pub split-off : (f : ℕ → ℕ) (n s : ℕ) → s < n → sum_by f (range_with_len 0 n) ≡ f s + sum_by f (others n s)
split-off f n s below = split-in f 0 n s (omega arith) (omega (arith, below))
