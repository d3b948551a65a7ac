-- Where the parts of a command stand among those that its shard issues, and how many of one peer stand before them.
use Rattle.std.proofs.Common.{◌≡◌, ℕ, zero, suc, ◌+◌, ◌*◌, ◌<◌, ◌≤◌, Bool, true, false, cond, eqb, List, [], ◌∷◌, ◌++◌, length, map, filter, take, drop, get_or, count_by, Some, arith, refl, sym, ap, ◌∙◌, inl, inr, length-append}
use Rattle.std.specs.List.{flat_map, range_with_len, slice_get}
use Rattle.std.proofs.Math.Nat.{mul-le-mul_left}
use Rattle.std.proofs.Math.Seq.{take-append-add}
use Rattle.std.proofs.lemmas.Bool.{and_parts, cases_lt, eqb-true}
use Rattle.std.proofs.lemmas.Bool.Decides.{nat_tests}
use Rattle.std.proofs.lemmas.List.{get_or_append_left, length-map, take-append-drop, take_all}
use Rattle.std.proofs.lemmas.List.Concat.{flat_map-append}
use Rattle.std.proofs.lemmas.List.Elements.{filter-append}
use Rattle.std.proofs.lemmas.List.FromFn.{get_or-map-range_with_len, length-map-range_with_len}
use Rattle.std.proofs.lemmas.List.Sums.{length-filter, sum_by-append, sum_by-cons}
use Rattle.std.proofs.lemmas.Option.{slice_get-get_or, slice_get_past}
use Rattle.rows.specs.Operation.{Operation, is_scan}
use Rattle.trace_text.specs.Parsed.{Parsed, trace_in}
use Rattle.trace_text.specs.Parts.{has_part, origin, own_parts, owner, parts}
use Rattle.trace_text.specs.Trace.{Trace, trace_with}
use Rattle.cache_model.specs.OwnParts.{issued_parts, parts_before, parts_of}
use Rattle.part_lemmas.specs.Rest.{is_for, part_at, shards_before}
use Rattle.part_lemmas.proofs.Cursors.Places.{length-operations, meets-first, no_operation}
use Rattle.part_lemmas.proofs.OwnParts.PartsBefore.{AreFew, parts-end}

-- laws of issued parts: how many there are, and those of one peer
abbrev pub AreCounted : Type 0
AreCounted = (trace : Trace) (n o : ℕ) → length (issued_parts trace n o) ≡ own_parts trace n o

abbrev pub AreOfPeers : Type 0
AreOfPeers = (trace : Trace) (n o q : ℕ) → q < n → map (λ part. part.0) (filter (λ part. eqb part.1 q) (issued_parts trace n o)) ≡ parts trace n o q

-- Parts hang on no version of their trace: that of version 1 stands for each.

-- those of the commands before a place, and those of the commands from there on
pub issued-cut : (ops : List Operation) (n o at : ℕ)
    → issued_parts (trace_with 1 ops) n o ≡ issued_parts (trace_with 1 (take at ops)) n o ++ issued_parts (trace_with 1 (drop at ops)) n o
issued-cut ops n o at =
    let is_own : Operation → Bool = λ x. eqb (origin x.number n) o in
    ap (λ list. flat_map (parts_of n) (filter is_own list)) (sym (take-append-drop at ops))
    ∙ ap (flat_map (parts_of n)) (filter-append is_own (take at ops) (drop at ops))
    ∙ flat_map-append (parts_of n) (filter is_own (take at ops)) (filter is_own (drop at ops))

pub issued-here : (ops : List Operation) (n o at : ℕ) (d : Operation) → at < length ops → eqb (origin (get_or ops at d).number n) o ≡ true
    → issued_parts (trace_with 1 (drop at ops)) n o ≡ parts_of n (get_or ops at d) ++ issued_parts (trace_with 1 (drop (suc at) ops)) n o
issued-here ops n o at d within own = ap (flat_map (parts_of n)) (meets-first (λ x. eqb (origin x.number n) o) ops at d within own)

-- what stands behind a list
behind : {X : Type 0} (xs ys : List X) (k : ℕ) → slice_get (xs ++ ys) (length xs + k) ≡ slice_get ys k
behind [] ys k = ap (slice_get ys) (omega arith)
behind (x ∷ xs) ys k =
    let e : suc (length xs) + k ≡ suc (length xs + k) = omega arith in
    ap (slice_get (x ∷ (xs ++ ys))) e ∙ behind xs ys k

-- the part of one shard among those of a command
among : (scan : Bool) (n s i own : ℕ) (others : List (ℕ × ℕ)) → s < n → cond scan true (eqb own s) ≡ true
    → slice_get (cond scan (map (λ s. (i, s)) (range_with_len 0 n)) ((i, own) ∷ []) ++ others) (cond scan s 0) ≡ Some (i, s)
among true n s i own others below has =
    let f : ℕ → ℕ × ℕ = λ s. (i, s) in
    let all = map f (range_with_len 0 n) in
    let many : length all ≡ n = length-map-range_with_len f 0 n in
    let within : s < length all = omega (arith, many, below) in
    let inside : s < length (all ++ others) = omega (arith, length-append all others, within) in
    slice_get-get_or (all ++ others) s (0, 0) inside
    ∙ ap Some (get_or_append_left all others (0, 0) s within ∙ get_or-map-range_with_len f 0 n s s (0, 0) below (omega arith))
among false n s i own others below has = ap (λ k. Some (i, k)) (eqb-true own s has)

pub scans-here : (ops : List Operation) (s at : ℕ) (d : Operation) → at < length ops → shards_before s (slice_get ops at) ≡ cond (is_scan (get_or ops at d).kind) s 0
scans-here ops s at d within = ap (shards_before s) (slice_get-get_or ops at d within)

pub scans-not : (ops : List Operation) (s at : ℕ) (d : Operation) → at < length ops → is_scan (get_or ops at d).kind ≡ false → shards_before s (slice_get ops at) ≡ 0
scans-not ops s at d within other = scans-here ops s at d within ∙ ap (λ scan. cond scan s 0) other

pub scans-end : (ops : List Operation) (s at : ℕ) → length ops ≤ at → shards_before s (slice_get ops at) ≡ 0
scans-end ops s at ended = ap (shards_before s) (slice_get_past ops at ended)

pub place-of : AreCounted → (trace : Parsed) (n o s at : ℕ) (d : Operation) → at < length (trace_in trace).operations
    → part_at trace n o s at ≡ length (issued_parts (trace_with 1 (take at (trace_in trace).operations)) n o) + cond (is_scan (get_or (trace_in trace).operations at d).kind) s 0
place-of counted trace n o s at d within =
    let ops = (trace_in trace).operations in
    ap (λ k. parts_before (trace_in trace) n o at + k) (scans-here ops s at d within)
    ∙ ap (λ k. k + cond (is_scan (get_or ops at d).kind) s 0) (sym (counted (trace_with 1 (take at ops)) n o))

pub place-end : AreCounted → (trace : Parsed) (n o s at : ℕ) → length (trace_in trace).operations ≤ at
    → part_at trace n o s at ≡ length (issued_parts (trace_in trace) n o)
place-end counted trace n o s at ended =
    let ops = (trace_in trace).operations in
    let nothing : parts_before (trace_in trace) n o at + 0 ≡ parts_before (trace_in trace) n o at = omega arith in
    ap (λ k. parts_before (trace_in trace) n o at + k) (scans-end ops s at ended)
    ∙ nothing
    ∙ parts-end ops n o at ended
    ∙ sym (counted (trace_in trace) n o)

pub lower : (scan : Bool) (s n : ℕ) → s < n → cond scan s 0 < n
lower true s n below = below
lower false s n below = omega (arith, below)

pub few-parts : AreFew → (trace : Parsed) (n o s at : ℕ) → s < n → n ≤ 16 → length trace.commands ≤ 1048576
    → part_at trace n o s at ≤ 16777216
few-parts few trace n o s at below most short =
    let ops = (trace_in trace).operations in
    let many = length-operations trace.bytes trace.commands in
    elim (cases_lt at (length ops)) [
      | inl within ↦
          let law = few (trace_in trace) n o at (omega (arith, below)) in
          let product : at * n ≤ at * 16 = mul-le-mul_left at most in
          let scans = scans-here ops s at no_operation within in
          let less = lower (is_scan (get_or ops at no_operation).kind) s n below in
          omega (arith, law, product, scans, less, many, within, short, most)
      | inr ended ↦
          let law = few (trace_in trace) n o (length ops) (omega (arith, below)) in
          let product : length ops * n ≤ length ops * 16 = mul-le-mul_left (length ops) most in
          let scans = scans-end ops s at ended in
          let same : parts_before (trace_in trace) n o at ≡ parts_before (trace_in trace) n o (length ops) =
          parts-end ops n o at ended ∙ sym (parts-end ops n o (length ops) (omega arith)) in
          omega (arith, law, product, scans, same, many, short)
    ]

-- the part of a command that a shard does stands at its place
pub part-stands : AreCounted → (trace : Parsed) (n o s at : ℕ) (d : Operation) → s < n → at < length (trace_in trace).operations
    → is_for n o s (get_or (trace_in trace).operations at d) ≡ true
    → slice_get (issued_parts (trace_in trace) n o) (part_at trace n o s at) ≡ Some ((get_or (trace_in trace).operations at d).number, s)
part-stands counted trace n o s at d below within here =
    let ops = (trace_in trace).operations in
    let one = get_or ops at d in
    let both = and_parts (eqb (origin one.number n) o) (has_part n s one) here in
    let front = issued_parts (trace_with 1 (take at ops)) n o in
    let later = issued_parts (trace_with 1 (drop (suc at) ops)) n o in
    ap (slice_get (issued_parts (trace_in trace) n o)) (place-of counted trace n o s at d within)
    ∙ ap (λ list. slice_get list (length front + cond (is_scan one.kind) s 0)) (issued-cut ops n o at ∙ ap (λ list. front ++ list) (issued-here ops n o at d within both.0))
    ∙ behind front (parts_of n one ++ later) (cond (is_scan one.kind) s 0)
    ∙ among (is_scan one.kind) n s one.number (owner one.key.bytes n) later below both.1

-- How many of one shard stand before it.

count-there : AreOfPeers → (ops : List Operation) (n o s : ℕ) → s < n
    → count_by (λ part. eqb part.1 s) (issued_parts (trace_with 1 ops) n o) ≡ length (filter (is_for n o s) ops)
count-there peers ops n o s below =
    let all = issued_parts (trace_with 1 ops) n o in
    sym (length-filter (λ (part : ℕ × ℕ). eqb part.1 s) all)
    ∙ sym (length-map (filter (λ (part : ℕ × ℕ). eqb part.1 s) all) (λ part. part.0))
    ∙ ap length (peers (trace_with 1 ops) n o s below)
    ∙ length-map (filter (is_for n o s) ops) (λ operation. operation.number)

none-lower : (i s a k n : ℕ) (others : List (ℕ × ℕ)) → a + k ≤ s → k ≤ n
    → count_by (λ part. eqb part.1 s) (take k (map (λ s. (i, s)) (range_with_len a n) ++ others)) ≡ 0
none-lower i s a zero n others below short = refl
none-lower i s a (suc k) zero others below short = absurd (omega (arith, short))
none-lower i s a (suc k) (suc n) others below short =
    let other : eqb a s ≡ false = grind (arith, nat_tests) in
    let p : ℕ × ℕ → Bool = λ part. eqb part.1 s in
    sum_by-cons (λ (part : ℕ × ℕ). cond (p part) 1 0) (i, a) (take k (map (λ s. (i, s)) (range_with_len (a + 1) n) ++ others))
    ∙ ap (λ b. cond b 1 0 + count_by p (take k (map (λ s. (i, s)) (range_with_len (a + 1) n) ++ others))) other
    ∙ ap (λ m. 0 + m) (none-lower i s (a + 1) k n others (omega (arith, below)) (omega (arith, short)))

none-among : (scan : Bool) (n s i own : ℕ) (others : List (ℕ × ℕ)) → s < n
    → count_by (λ part. eqb part.1 s) (take (cond scan s 0) (cond scan (map (λ s. (i, s)) (range_with_len 0 n)) ((i, own) ∷ []) ++ others)) ≡ 0
none-among true n s i own others below = none-lower i s 0 s n others (omega arith) (omega (arith, below))
none-among false n s i own others below = refl

pub count-before : AreCounted → AreOfPeers → (trace : Parsed) (n o s at : ℕ) → s < n
    → ((d : Operation) → at < length (trace_in trace).operations → is_for n o s (get_or (trace_in trace).operations at d) ≡ true)
    → count_by (λ part. eqb part.1 s) (take (part_at trace n o s at) (issued_parts (trace_in trace) n o)) ≡ length (filter (is_for n o s) (take at (trace_in trace).operations))
count-before counted peers trace n o s at below here =
    let ops = (trace_in trace).operations in
    let p : ℕ × ℕ → Bool = λ part. eqb part.1 s in
    elim (cases_lt at (length ops)) [
      | inl within ↦
          let one = get_or ops at no_operation in
          let both = and_parts (eqb (origin one.number n) o) (has_part n s one) (here no_operation within) in
          let front = issued_parts (trace_with 1 (take at ops)) n o in
          let later = parts_of n one ++ issued_parts (trace_with 1 (drop (suc at) ops)) n o in
          let lower = cond (is_scan one.kind) s 0 in
          let none : count_by p (take lower later) ≡ 0 = none-among (is_scan one.kind) n s one.number (owner one.key.bytes n) (issued_parts (trace_with 1 (drop (suc at) ops)) n o) below in
          ap (λ k. count_by p (take k (issued_parts (trace_in trace) n o))) (place-of counted trace n o s at no_operation within)
          ∙ ap (λ list. count_by p (take (length front + lower) list)) (issued-cut ops n o at ∙ ap (λ list. front ++ list) (issued-here ops n o at no_operation within both.0))
          ∙ ap (count_by p) (take-append-add front later lower)
          ∙ sum_by-append (λ part. cond (p part) 1 0) front (take lower later)
          ∙ ap (λ k. count_by p front + k) none
          ∙ (let e : count_by p front + 0 ≡ count_by p front = omega arith in e)
          ∙ count-there peers (take at ops) n o s below
      | inr ended ↦
          let all = issued_parts (trace_in trace) n o in
          ap (λ k. count_by p (take k all)) (place-end counted trace n o s at ended)
          ∙ ap (count_by p) (take_all (length all) all (omega arith))
          ∙ count-there peers ops n o s below
          ∙ ap (λ list. length (filter (is_for n o s) list)) (sym (take_all at ops ended))
    ]
