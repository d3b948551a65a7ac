-- The list of the parts that a shard issues, its length, and the parts of one peer among them.
use Rattle.std.proofs.Common.{◌≡◌, ℕ, ◌+◌, ◌<◌, ◌≤◌, suc, zero, Bool, true, false, eqb, ◌&&◌, cond, List, [], ◌∷◌, ◌++◌, length, map, filter, refl, sym, ap, ◌∙◌, arith, length-append}
use Rattle.std.specs.List.{flat_map, range_with_len, sum_by}
use Rattle.std.proofs.lemmas.Bool.{eqb-true}
use Rattle.std.proofs.lemmas.Bool.Decides.{nat_tests}
use Rattle.std.proofs.lemmas.List.{map-append}
use Rattle.std.proofs.lemmas.List.Elements.{filter-append}
use Rattle.std.proofs.lemmas.List.FromFn.{length-map-range_with_len}
use Rattle.std.proofs.lemmas.List.Sums.{sum_by-cons}
use Rattle.rows.specs.Operation.{Operation, is_scan}
use Rattle.trace_text.specs.Parts.{has_part, origin, own_parts, owner, parts}
use Rattle.trace_text.specs.Trace.{Trace}
use Rattle.cache_model.specs.OwnParts.{issued_parts, parts_of}

-- ---- how many

length-of : (scan : Bool) (n i owner : ℕ) → length {A = ℕ × ℕ} (cond scan (map (λ s. (i, s)) (range_with_len 0 n)) ((i, owner) ∷ [])) ≡ cond scan n 1
length-of true n i owner = length-map-range_with_len {X = ℕ × ℕ} (λ s. (i, s)) 0 n
length-of false n i owner = refl

length-more : (n : ℕ) (here : Bool) (operation : Operation) (others : List Operation) (m : ℕ) → length (flat_map (parts_of n) others) ≡ m
    → length (flat_map (parts_of n) (cond here (operation ∷ others) others)) ≡ cond here (cond (is_scan operation.kind) n 1) 0 + m
length-more n true operation others m e =
    length-append (parts_of n operation) (flat_map (parts_of n) others)
    ∙ ap (λ k. k + length (flat_map (parts_of n) others)) (length-of (is_scan operation.kind) n operation.number (owner operation.key.bytes n))
    ∙ ap (λ k. cond (is_scan operation.kind) n 1 + k) e
length-more n false operation others m e = e ∙ omega arith

length-issued : (n o : ℕ) (operations : List Operation)
    → length (flat_map (parts_of n) (filter (λ operation. eqb (origin operation.number n) o) operations))
    ≡ sum_by (λ operation. cond (eqb (origin operation.number n) o) (cond (is_scan operation.kind) n 1) 0) operations
length-issued n o [] = refl
length-issued n o (operation ∷ operations) =
    let counts = λ (x : Operation). cond (eqb (origin x.number n) o) (cond (is_scan x.kind) n 1) 0 in
    length-more n (eqb (origin operation.number n) o) operation (filter (λ x. eqb (origin x.number n) o) operations) (sum_by counts operations) (length-issued n o operations)
    ∙ sym (sum_by-cons counts operation operations)

pub issued_parts-count : (trace : Trace) (n o : ℕ) → length (issued_parts trace n o) ≡ own_parts trace n o
issued_parts-count trace n o = length-issued n o trace.operations

-- ---- those of one peer

abbrev numbers_at : ℕ → List (ℕ × ℕ) → List ℕ
numbers_at q list = map (λ part. part.0) (filter (λ part. eqb part.1 q) list)

numbers_at-append : (q : ℕ) (xs ys : List (ℕ × ℕ)) → numbers_at q (xs ++ ys) ≡ numbers_at q xs ++ numbers_at q ys
numbers_at-append q xs ys =
    ap (map (λ part. part.0)) (filter-append (λ (part : ℕ × ℕ). eqb part.1 q) xs ys)
    ∙ map-append (λ (part : ℕ × ℕ). part.0) (filter (λ part. eqb part.1 q) xs) (filter (λ part. eqb part.1 q) ys)

none-there : (i q a n : ℕ) → q < a → numbers_at q (map (λ s. (i, s)) (range_with_len a n)) ≡ []
none-there i q a zero above = refl
none-there i q a (suc n) above =
    let other : eqb a q ≡ false = grind (arith, nat_tests) in
    let rest = none-there i q (a + 1) n (omega arith) in
    rw other rest

one-there : (i q a n : ℕ) → a ≤ q → q < a + n → numbers_at q (map (λ s. (i, s)) (range_with_len a n)) ≡ i ∷ []
one-there i q a zero from to = absurd (omega arith)
one-there i q a (suc n) from to = go (eqb a q) refl (λ later. one-there i q (a + 1) n (omega arith) (omega arith)) (λ is. none-there i q (a + 1) n (omega arith))
  where
    go : (b : Bool) → eqb a q ≡ b → (a + 1 ≤ q → numbers_at q (map (λ s. (i, s)) (range_with_len (a + 1) n)) ≡ i ∷ [])
        → (a ≡ q → numbers_at q (map (λ s. (i, s)) (range_with_len (a + 1) n)) ≡ [])
        → numbers_at q (map (λ s. (i, s)) (range_with_len a (suc n))) ≡ i ∷ []
    go true e later none =
        let same : a ≡ q = eqb-true a q e in
        rw e (ap (λ rest. i ∷ rest) (none same))
    go false e later none =
        let above : a + 1 ≤ q = grind (arith, nat_tests) in
        rw e (later above)

of-one : (scan : Bool) (n q i owner : ℕ) → q < n
    → numbers_at q (cond scan (map (λ s. (i, s)) (range_with_len 0 n)) ((i, owner) ∷ [])) ≡ cond (cond scan true (eqb owner q)) (i ∷ []) []
of-one true n q i owner below = one-there i q 0 n (omega arith) (omega arith)
of-one false n q i owner below = go (eqb owner q)
  where
    go : (b : Bool) → map (λ (part : ℕ × ℕ). part.0) (cond b ((i, owner) ∷ []) []) ≡ cond b (i ∷ []) []
    go true = refl
    go false = refl

one-more : (here there : Bool) (operation : Operation) (parts : List ℕ) (n q : ℕ) (others : List Operation) (passed : List Operation)
    → parts ≡ cond there (operation.number ∷ []) [] → numbers_at q (parts_of n operation) ≡ parts
    → numbers_at q (flat_map (parts_of n) others) ≡ map (λ o. o.number) passed
    → numbers_at q (flat_map (parts_of n) (cond here (operation ∷ others) others)) ≡ map (λ o. o.number) (cond (here && there) (operation ∷ passed) passed)
one-more true true operation parts n q others passed is found rest =
    numbers_at-append q (parts_of n operation) (flat_map (parts_of n) others) ∙ rw (found, is) (ap (λ numbers. operation.number ∷ numbers) rest)
one-more true false operation parts n q others passed is found rest =
    numbers_at-append q (parts_of n operation) (flat_map (parts_of n) others) ∙ rw (found, is) rest
one-more false there operation parts n q others passed is found rest = rest

at-peer : (n o q : ℕ) (operations : List Operation) → q < n
    → numbers_at q (flat_map (parts_of n) (filter (λ operation. eqb (origin operation.number n) o) operations))
    ≡ map (λ operation. operation.number) (filter (λ operation. eqb (origin operation.number n) o && has_part n q operation) operations)
at-peer n o q [] below = refl
at-peer n o q (operation ∷ operations) below =
    one-more (eqb (origin operation.number n) o) (has_part n q operation) operation (cond (has_part n q operation) (operation.number ∷ []) []) n q
    (filter (λ x. eqb (origin x.number n) o) operations) (filter (λ x. eqb (origin x.number n) o && has_part n q x) operations)
    refl (of-one (is_scan operation.kind) n q operation.number (owner operation.key.bytes n) below) (at-peer n o q operations below)

pub issued_parts-peer : (trace : Trace) (n o q : ℕ) → q < n → map (λ part. part.0) (filter (λ part. eqb part.1 q) (issued_parts trace n o)) ≡ parts trace n o q
issued_parts-peer trace n o q below = at-peer n o q trace.operations below
