-- A shard that is the only one lends nothing.
use Rattle.std.proofs.Common.{◌≡◌, ℕ, ◌+◌, ◌-◌, ◌<◌, ◌≤◌, ◌==◌, Bool, true, false, not, cond, List, [], ◌∷◌, map, take, get_or, arith, refl, ap}
use Rattle.std.specs.List.{All, count_by, filter, flat_map, range_with_len}
use Rattle.std.proofs.Math.Nat.{mod-lt}
use Rattle.std.proofs.lemmas.Bool.{eq-eqb}
use Rattle.std.proofs.lemmas.List.Elements.{All-append, All-cons, All-head, All-map, All-nil, All-tail, All-take}
use Rattle.std.proofs.lemmas.List.FromFn.{get_or-range_with_len, length-range_with_len}
use Rattle.std.proofs.lemmas.List.Sums.{sum_by-cons}
use Rattle.rows.specs.Operation.{Operation, is_scan}
use Rattle.trace_text.specs.Parts.{hash, origin, owner}
use Rattle.trace_text.specs.Trace.{Trace}
use Rattle.cache_model.specs.declared.entry.Entry.{Entry}
use Rattle.cache_model.specs.Legal.{done}
use Rattle.cache_model.specs.OwnParts.{issued_parts, parts_of}
use Rattle.layout.specs.Counts.{raised}

-- each part is done by one of the shards
doer-of : (n i own : ℕ) (scan : Bool) → own < n → All (λ (part : ℕ × ℕ). part.1 < n) (cond scan (map (λ s. (i, s)) (range_with_len 0 n)) ((i, own) ∷ []))
doer-of n i own true below =
    All-map (λ (part : ℕ × ℕ). part.1 < n) (λ s. (i, s)) (range_with_len 0 n)
    (λ k d within.
    let many = length-range_with_len 0 n in
    let is = get_or-range_with_len 0 n k d (omega (arith, many, within)) in
    omega (arith, many, is, within))
doer-of n i own false below = All-cons (λ (part : ℕ × ℕ). part.1 < n) (i, own) [] below (All-nil (λ (part : ℕ × ℕ). part.1 < n))

doers-of : (n : ℕ) (list : List Operation) → 1 ≤ n → All (λ (part : ℕ × ℕ). part.1 < n) (flat_map (parts_of n) list)
doers-of n [] some = All-nil (λ (part : ℕ × ℕ). part.1 < n)
doers-of n (x ∷ xs) some =
    All-append (λ (part : ℕ × ℕ). part.1 < n) (parts_of n x) (flat_map (parts_of n) xs)
    (doer-of n x.number (owner x.key.bytes n) (is_scan x.kind) (mod-lt (hash x.key.bytes) some))
    (doers-of n xs some)

pub doers-below : (trace : Trace) (n o : ℕ) → 1 ≤ n → All (λ part. part.1 < n) (issued_parts trace n o)
doers-below trace n o some = doers-of n (filter (λ x. origin x.number n == o) trace.operations) some

none-fails : {X : Type 0} (p : X → Bool) (xs : List X) → All (λ x. p x ≡ true) xs → count_by (λ x. not (p x)) xs ≡ 0
none-fails p [] all = refl
none-fails {X} p (x ∷ xs) all =
    let first : p x ≡ true = All-head (λ (y : X). p y ≡ true) x xs all in
    let one : ◌≡◌ {A = ℕ} (cond (not (p x)) 1 0) 0 = ap (λ b. cond (not b) 1 0) first in
    let rest = none-fails p xs (All-tail (λ (y : X). p y ≡ true) x xs all) in
    let both = sum_by-cons (λ (y : X). cond (not (p y)) 1 0) x xs in
    omega (arith, one, rest, both)

pub none-out : (trace : Trace) (n s begun : ℕ) (entries : List Entry) (lends backs out : ℕ) → n ≡ 1 → s < n
    → lends ≡ raised 0 (count_by (λ part. not (part.1 == s)) (take begun (issued_parts trace n s)) + count_by (λ i. not (origin i n == s)) (done entries))
    → lends ≡ raised backs out → out ≡ 0
none-out trace n s begun entries lends backs out one below lent home =
    let asked : count_by (λ part. not (part.1 == s)) (take begun (issued_parts trace n s)) ≡ 0 =
    none-fails (λ (part : ℕ × ℕ). part.1 == s) (take begun (issued_parts trace n s))
    (λ k d within.
    let doer = All-take (λ (part : ℕ × ℕ). part.1 < n) begun (issued_parts trace n s) (doers-below trace n s (omega (arith, one))) k d within in
    eq-eqb (get_or (take begun (issued_parts trace n s)) k d).1 s (omega (arith, doer, one, below))) in
    let did : count_by (λ i. not (origin i n == s)) (done entries) ≡ 0 =
    none-fails (λ (i : ℕ). origin i n == s) (done entries)
    (λ k d within.
    let less : origin (get_or (done entries) k d) n < n = mod-lt (get_or (done entries) k d - 1) (omega (arith, one)) in
    eq-eqb (origin (get_or (done entries) k d) n) s (omega (arith, less, one, below))) in
    omega (arith, asked, did, lent, home)
