-- The next part that a shard issues: where it stands in the shard's log, which one comes behind it, and whether it is the first
-- of its command.
use Rattle.std.proofs.Common.{◌≡◌, ℕ, ◌+◌, ◌-◌, ◌<◌, ◌≤◌, ◌%◌, Bool, true, false, cond, eqb, List, [], ◌∷◌, ◌++◌, length, map, filter, take, drop, get_or, Some, arith, refl, sym, ap, subst, ◌∙◌, inl, inr, length-append}
use Rattle.std.specs.List.{All, flat_map, range_with_len, slice_get}
use Rattle.std.proofs.lemmas.Bool.{and_from, cases_eq, cases_lt, eq-eqb, eqb-true}
use Rattle.std.proofs.lemmas.List.{get_or-take, get_or_append_left, length-take}
use Rattle.std.proofs.lemmas.List.Elements.{All-append, All-cons, All-filter, All-get_or, All-head, All-map, All-nil, All-tail}
use Rattle.std.proofs.lemmas.Option.{same_Some, slice_get-get_or, slice_get_within}
use Rattle.rows.specs.Operation.{Operation, is_scan}
use Rattle.trace_text.specs.Operation.{operations}
use Rattle.trace_text.specs.Parsed.{AreNumbered, Parsed, trace_in}
use Rattle.trace_text.specs.Parts.{has_part, origin, owner}
use Rattle.trace_text.specs.Trace.{trace_with}
use Rattle.cache_model.specs.OwnParts.{issued_parts, parts_before, parts_of}
use Rattle.shard_parts.specs.Own.{IsFirstPart, StandsAtPart}
use Rattle.part_lemmas.specs.Rest.{part_at, shards_before}
use Rattle.part_lemmas.proofs.Cursors.Places.{IsNumbered, length-operations, no_operation, numbered}
use Rattle.part_lemmas.proofs.OwnParts.PartsBefore.{GoRound}
use Rattle.part_lemmas.proofs.OwnParts.IssuedParts.{AreCounted, issued-cut, lower, part-stands, place-end, scans-here}

pub is-of-shard : (trace : Parsed) (n o at : ℕ) (d : Operation) → AreNumbered trace.commands → at % n ≡ o → at < length trace.commands
    → origin (get_or (trace_in trace).operations at d).number n ≡ o
is-of-shard trace n o at d are here within =
    let inside : at < length (operations trace.bytes trace.commands) = rw (length-operations trace.bytes trace.commands) within in
    ap (λ k. (k - 1) % n) (numbered trace.bytes trace.commands are at d inside) ∙ ap (λ k. k % n) (omega arith) ∙ here

-- the part of a command that a shard does
own-stands : AreCounted → (trace : Parsed) (n o at s : ℕ) (d : Operation) → AreNumbered trace.commands → at % n ≡ o → s < n → at < length trace.commands
    → has_part n s (get_or (trace_in trace).operations at d) ≡ true
    → slice_get (issued_parts (trace_in trace) n o) (part_at trace n o s at) ≡ Some ((get_or (trace_in trace).operations at d).number, s)
own-stands counted trace n o at s d are here below within does =
    part-stands counted trace n o s at d below (rw (length-operations trace.bytes trace.commands) within)
    (and_from _ _ (eq-eqb _ _ (is-of-shard trace n o at d are here within)) does)

pub next-in-log : AreCounted → (trace : Parsed) (n o at to begun : ℕ) (d : Operation) → AreNumbered trace.commands → StandsAtPart trace n o at to begun → at < length trace.commands
    → slice_get (issued_parts (trace_in trace) n o) begun ≡ Some ((get_or (trace_in trace).operations at d).number, to)
next-in-log counted trace n o at to begun d are stands within =
    ap (slice_get (issued_parts (trace_in trace) n o)) stands.part ∙ own-stands counted trace n o at to d are stands.origin stands.below within (stands.does d within)

pub all-begun : AreCounted → (trace : Parsed) (n o at to begun : ℕ) → StandsAtPart trace n o at to begun → length trace.commands ≤ at
    → begun ≡ length (issued_parts (trace_in trace) n o)
all-begun counted trace n o at to begun stands ended = stands.part ∙ place-end counted trace n o to at (rw (length-operations trace.bytes trace.commands) ended)

pub begun-within : AreCounted → (trace : Parsed) (n o at to begun : ℕ) → AreNumbered trace.commands → StandsAtPart trace n o at to begun
    → begun ≤ length (issued_parts (trace_in trace) n o)
begun-within counted trace n o at to begun are stands = elim (cases_lt at (length trace.commands)) [
  | inl within ↦
      let below : begun < length (issued_parts (trace_in trace) n o) = slice_get_within _ begun _ (next-in-log counted trace n o at to begun no_operation are stands within) in
      omega (arith, below)
  | inr ended ↦ let all = all-begun counted trace n o at to begun stands ended in omega (arith, all)
]

-- while some are left, the place is of a command
pub some-left : AreCounted → (trace : Parsed) (n o at to begun : ℕ) → StandsAtPart trace n o at to begun → begun < length (issued_parts (trace_in trace) n o)
    → at < length trace.commands
some-left counted trace n o at to begun stands below = elim (cases_lt at (length trace.commands)) [
  | inl within ↦ within
  | inr ended ↦ let all = all-begun counted trace n o at to begun stands ended in absurd (omega (arith, all, below))
]

pub few-begun : (trace : Parsed) (n o at to begun : ℕ) → StandsAtPart trace n o at to begun → at < length trace.commands
    → parts_before (trace_in trace) n o at + n ≤ 16777216 → begun + 1 ≤ 16777216
few-begun trace n o at to begun stands within few =
    let ops = (trace_in trace).operations in
    let stood = stands.part in
    let scans = scans-here ops to at no_operation (rw (length-operations trace.bytes trace.commands) within) in
    let less = lower (is_scan (get_or ops at no_operation).kind) to n stands.below in
    omega (arith, few, stood, scans, less)

-- One part more.

one-more : (scan : Bool) (n to : ℕ) → to < n → (scan ≡ true → n ≤ to + 1) → cond scan n 1 ≡ cond scan to 0 + 1
one-more true n to below last = let e = last refl in omega (arith, below, e)
one-more false n to below last = refl

-- behind the last part of a command comes the first one of the next
pub part-next : (trace : Parsed) (n o at to first further : ℕ) → GoRound trace → n ≡ trace.shards → at % n ≡ o → at < length trace.commands → to < n
    → (is_scan (get_or (trace_in trace).operations at no_operation).kind ≡ true → n ≤ to + 1)
    → further ≡ at + n → shards_before first (slice_get (trace_in trace).operations (at + n)) ≡ 0
    → part_at trace n o first further ≡ part_at trace n o to at + 1
part-next trace n o at to first further law same here within below last is none =
    let ops = (trace_in trace).operations in
    let scan = is_scan (get_or ops at no_operation).kind in
    let inside : at < length ops = rw (length-operations trace.bytes trace.commands) within in
    let round : parts_before (trace_in trace) n o (at + n) ≡ parts_before (trace_in trace) n o at + cond scan n 1 =
    subst (λ m. at % m ≡ o → parts_before (trace_in trace) m o (at + m) ≡ parts_before (trace_in trace) m o at + cond scan m 1) (sym same) (λ there. law o at no_operation there within) here in
    let scans = scans-here ops to at no_operation inside in
    let parts = one-more scan n to below last in
    let shift : part_at trace n o first further ≡ part_at trace n o first (at + n) = ap (part_at trace n o first) is in
    omega (arith, shift, round, none, scans, parts)

-- in a scan the next part is that of the next shard
pub part-in-scan : (trace : Parsed) (n o at to : ℕ) → at < length trace.commands → is_scan (get_or (trace_in trace).operations at no_operation).kind ≡ true
    → part_at trace n o (to + 1) at ≡ part_at trace n o to at + 1
part-in-scan trace n o at to within scan =
    let ops = (trace_in trace).operations in
    let inside : at < length ops = rw (length-operations trace.bytes trace.commands) within in
    let one = scans-here ops to at no_operation inside ∙ ap (λ b. cond b to 0) scan in
    let two = scans-here ops (to + 1) at no_operation inside ∙ ap (λ b. cond b (to + 1) 0) scan in
    omega (arith, one, two)

-- The first part of a command.

of-command : (m n i own : ℕ) (scan : Bool) → i ≤ m → All (λ (part : ℕ × ℕ). part.0 ≤ m) (cond scan (map (λ s. (i, s)) (range_with_len 0 n)) ((i, own) ∷ []))
of-command m n i own true low = All-map (λ (part : ℕ × ℕ). part.0 ≤ m) (λ s. (i, s)) (range_with_len 0 n) (λ k d below. low)
of-command m n i own false low = All-cons (λ (part : ℕ × ℕ). part.0 ≤ m) (i, own) [] low (All-nil (λ (part : ℕ × ℕ). part.0 ≤ m))

of-commands : (m n : ℕ) (list : List Operation) → All (λ (x : Operation). x.number ≤ m) list → All (λ (part : ℕ × ℕ). part.0 ≤ m) (flat_map (parts_of n) list)
of-commands m n [] low = All-nil (λ (part : ℕ × ℕ). part.0 ≤ m)
of-commands m n (x ∷ xs) low =
    All-append (λ (part : ℕ × ℕ). part.0 ≤ m) (parts_of n x) (flat_map (parts_of n) xs)
    (of-command m n x.number (owner x.key.bytes n) (is_scan x.kind) (All-head (λ (y : Operation). y.number ≤ m) x xs low))
    (of-commands m n xs (All-tail (λ (y : Operation). y.number ≤ m) x xs low))

-- the parts before a place are of commands with lower numbers
numbers-before : (ops : List Operation) (n o at : ℕ) → IsNumbered ops → All (λ (part : ℕ × ℕ). part.0 ≤ at) (issued_parts (trace_with 1 (take at ops)) n o)
numbers-before ops n o at are =
    of-commands at n (filter (λ x. eqb (origin x.number n) o) (take at ops))
    (All-filter (λ x. eqb (origin x.number n) o) (λ (x : Operation). x.number ≤ at) (take at ops)
    (λ k d below.
    let short = length-take at ops in
    let here : (get_or (take at ops) k d).number ≡ k + 1 = ap (λ (x : Operation). x.number) (get_or-take at ops k d (omega (arith, short, below))) ∙ are k d (omega (arith, short, below)) in
    omega (arith, here, short, below)))

in-front : {X : Type 0} (xs ys : List X) (k : ℕ) (d : X) → k < length xs → slice_get (xs ++ ys) k ≡ Some (get_or xs k d)
in-front xs ys k d below = slice_get-get_or (xs ++ ys) k d (omega (arith, length-append xs ys, below)) ∙ ap Some (get_or_append_left xs ys d k below)

pub is-first : AreCounted → (trace : Parsed) (n o at to begun : ℕ) → AreNumbered trace.commands → StandsAtPart trace n o at to begun → at < length trace.commands
    → shards_before to (slice_get (trace_in trace).operations at) ≡ 0 → (part : ℕ × ℕ) → slice_get (issued_parts (trace_in trace) n o) begun ≡ Some part
    → IsFirstPart (issued_parts (trace_in trace) n o) begun part
is-first counted trace n o at to begun are stands within none part next =
    let ops = (trace_in trace).operations in
    let inside : at < length ops = rw (length-operations trace.bytes trace.commands) within in
    let front = issued_parts (trace_with 1 (take at ops)) n o in
    let stood = stands.part in
    let many = counted (trace_with 1 (take at ops)) n o in
    let place : begun ≡ length front = omega (arith, stood, none, many) in
    let those : ((get_or ops at no_operation).number, to) ≡ part = same_Some _ _ (sym (next-in-log counted trace n o at to begun no_operation are stands within) ∙ next) in
    let number : part.0 ≡ at + 1 = ap (λ (p : ℕ × ℕ). p.0) (sym those) ∙ numbered trace.bytes trace.commands are at no_operation inside in
    elim (cases_eq begun 0) [
      | inl nothing ↦ inl nothing
      | inr some ↦
          let earlier : begun - 1 < length front = omega (arith, place, some) in
          let before : ℕ × ℕ = get_or front (begun - 1) (0, 0) in
          let low : before.0 ≤ at = All-get_or (λ (p : ℕ × ℕ). p.0 ≤ at) front (begun - 1) (0, 0) earlier (numbers-before ops n o at (numbered trace.bytes trace.commands are)) in
          inr (
            before,
            ap (λ list. slice_get list (begun - 1)) (issued-cut ops n o at) ∙ in-front front (issued_parts (trace_with 1 (drop at ops)) n o) (begun - 1) (0, 0) earlier,
            λ same. omega (arith, low, number, same),
          )
    ]

pub is-not-first : AreCounted → (trace : Parsed) (n o at to begun : ℕ) → AreNumbered trace.commands → StandsAtPart trace n o at to begun → at < length trace.commands
    → is_scan (get_or (trace_in trace).operations at no_operation).kind ≡ true → (to ≡ 0 → ⊥) → (part : ℕ × ℕ) → slice_get (issued_parts (trace_in trace) n o) begun ≡ Some part
    → IsFirstPart (issued_parts (trace_in trace) n o) begun part → ⊥
is-not-first counted trace n o at to begun are stands within scan later part next first =
    let ops = (trace_in trace).operations in
    let one = get_or ops at no_operation in
    let log = issued_parts (trace_in trace) n o in
    let inside : at < length ops = rw (length-operations trace.bytes trace.commands) within in
    let stood = stands.part in
    let last = part-in-scan trace n o at (to - 1) within scan in
    let back : to - 1 + 1 ≡ to = omega (arith, later) in
    let same : part_at trace n o (to - 1 + 1) at ≡ part_at trace n o to at = ap (λ s. part_at trace n o s at) back in
    let place : begun - 1 ≡ part_at trace n o (to - 1) at = omega (arith, stood, last, same) in
    let below = stands.below in
    let those : (one.number, to) ≡ part = same_Some _ _ (sym (next-in-log counted trace n o at to begun no_operation are stands within) ∙ next) in
    let does : has_part n (to - 1) one ≡ true = ap (λ b. cond b true (eqb (owner one.key.bytes n) (to - 1))) scan in
    let there : slice_get log (begun - 1) ≡ Some (one.number, to - 1) =
    ap (slice_get log) place ∙ own-stands counted trace n o at (to - 1) no_operation are stands.origin (omega (arith, below)) within does in
    elim first [
      | inl nothing ↦ omega (arith, nothing, stood, last, same)
      | inr other ↦
          let before : other.0 ≡ (one.number, to - 1) = same_Some _ _ (sym other.1 ∙ there) in
          other.2 (ap (λ (p : ℕ × ℕ). p.0) before ∙ ap (λ (p : ℕ × ℕ). p.0) those)
    ]

-- so the next part of a scan is the first one where the first shard does it, and the next part of another command always is
pub first-of-scan : AreCounted → (trace : Parsed) (n o at to begun : ℕ) → AreNumbered trace.commands → StandsAtPart trace n o at to begun → at < length trace.commands
    → is_scan (get_or (trace_in trace).operations at no_operation).kind ≡ true → (part : ℕ × ℕ) → slice_get (issued_parts (trace_in trace) n o) begun ≡ Some part
    → (eqb to 0 ≡ true → IsFirstPart (issued_parts (trace_in trace) n o) begun part) × (IsFirstPart (issued_parts (trace_in trace) n o) begun part → eqb to 0 ≡ true)
first-of-scan counted trace n o at to begun are stands within scan part next =
    let inside : at < length (trace_in trace).operations = rw (length-operations trace.bytes trace.commands) within in (
      λ is. is-first counted trace n o at to begun are stands within
          (scans-here (trace_in trace).operations to at no_operation inside ∙ ap (λ b. cond b to 0) scan ∙ eqb-true to 0 is) part next,
      λ first. elim (cases_eq to 0) [
        | inl none ↦ eq-eqb to 0 none
        | inr some ↦ absurd (is-not-first counted trace n o at to begun are stands within scan some part next first)
      ],
    )

pub first-of-other : AreCounted → (trace : Parsed) (n o at to begun : ℕ) → AreNumbered trace.commands → StandsAtPart trace n o at to begun → at < length trace.commands
    → is_scan (get_or (trace_in trace).operations at no_operation).kind ≡ false → (part : ℕ × ℕ) → slice_get (issued_parts (trace_in trace) n o) begun ≡ Some part
    → IsFirstPart (issued_parts (trace_in trace) n o) begun part
first-of-other counted trace n o at to begun are stands within other part next =
    let inside : at < length (trace_in trace).operations = rw (length-operations trace.bytes trace.commands) within in
    is-first counted trace n o at to begun are stands within (scans-here (trace_in trace).operations to at no_operation inside ∙ ap (λ b. cond b to 0) other) part next

pub none-behind : AreCounted → (trace : Parsed) (n o at to begun : ℕ) → StandsAtPart trace n o at to begun → length trace.commands ≤ at
    → (part : ℕ × ℕ) → slice_get (issued_parts (trace_in trace) n o) begun ≡ Some part → ⊥
none-behind counted trace n o at to begun stands ended part next =
    let all = all-begun counted trace n o at to begun stands ended in
    let below = slice_get_within (issued_parts (trace_in trace) n o) begun part next in
    omega (arith, all, below)
