-- What holds of the commands that one shard issues to another and that are left.
use Rattle.std.proofs.Common.{◌≡◌, ℕ, zero, suc, ◌+◌, ◌-◌, ◌<◌, ◌≤◌, true, eqb, List, [], ◌∷◌, ◌++◌, length, filter, take, drop, get_or, count_by, Some, arith, sym, ap, subst, ◌∙◌, inl, inr, length-append}
use Rattle.std.specs.List.{slice_get}
use Rattle.std.proofs.lemmas.Bool.{cases_lt}
use Rattle.std.proofs.lemmas.List.{drop_all, drop_at, length-drop, take-append-drop}
use Rattle.std.proofs.lemmas.List.Elements.{filter-append}
use Rattle.std.proofs.lemmas.List.Sums.{count_by-le-length, length-filter}
use Rattle.rows.specs.Operation.{Operation}
use Rattle.trace_text.specs.Parsed.{Parsed, trace_in}
use Rattle.cache_model.specs.OwnParts.{issued_parts}
use Rattle.part_lemmas.specs.Due.{operations_for}
use Rattle.part_lemmas.specs.Rest.{StandsAt, is_for, left_from, part_at}
use Rattle.part_lemmas.proofs.Cursors.Places.{length-operations, meets-first, no_operation}
use Rattle.part_lemmas.proofs.OwnParts.IssuedParts.{AreCounted, AreOfPeers, count-before, part-stands}

here-of : (trace : Parsed) (n o s at before : ℕ) → StandsAt trace n o s at before → (d : Operation) → at < length (trace_in trace).operations
    → is_for n o s (get_or (trace_in trace).operations at d) ≡ true
here-of trace n o s at before stands d within = stands.here d (rw (length-operations trace.bytes trace.commands) at within)

-- the part of the first of them stands in the log of its origin
pub in-log : AreCounted → (trace : Parsed) (n o s at before : ℕ) → StandsAt trace n o s at before → (op : Operation) (others : List Operation)
    → left_from trace n o s at ≡ op ∷ others → slice_get (issued_parts (trace_in trace) trace.shards o) (part_at trace n o s at) ≡ Some (op.number, s)
in-log counted trace n o s at before stands op others left =
    let ops = (trace_in trace).operations in
    subst (λ m. slice_get (issued_parts (trace_in trace) m o) (part_at trace n o s at) ≡ Some (op.number, s)) stands.shards
    (elim (cases_lt at (length ops)) [
      | inl within ↦
          let here = here-of trace n o s at before stands no_operation within in
          let first : left_from trace n o s at ≡ get_or ops at no_operation ∷ left_from trace n o s (suc at) = meets-first (is_for n o s) ops at no_operation within here in
          let both : get_or ops at no_operation ∷ left_from trace n o s (suc at) ≡ op ∷ others = sym first ∙ left in
          let same : get_or ops at no_operation ≡ op = cc in
          part-stands counted trace n o s at no_operation stands.shard within here ∙ ap (λ (x : Operation). Some (x.number, s)) same
      | inr ended ↦
          let none : left_from trace n o s at ≡ [] = ap (filter (is_for n o s)) (drop_all at ops ended) in
          absurd (let clash : [] ≡ op ∷ others = sym none ∙ left in cc)
    ])

all-split : (trace : Parsed) (n o s at : ℕ)
    → operations_for (trace_in trace) n o s ≡ filter (is_for n o s) (take at (trace_in trace).operations) ++ left_from trace n o s at
all-split trace n o s at =
    let ops = (trace_in trace).operations in
    ap (filter (is_for n o s)) (sym (take-append-drop at ops)) ∙ filter-append (is_for n o s) (take at ops) (drop at ops)

-- before it stand the parts of those that were passed, and no other of the shard
pub count-left : AreCounted → AreOfPeers → (trace : Parsed) (n o s at before : ℕ) → StandsAt trace n o s at before
    → count_by (λ part. eqb part.1 s) (take (part_at trace n o s at) (issued_parts (trace_in trace) trace.shards o)) + length (left_from trace n o s at)
    ≡ length (operations_for (trace_in trace) trace.shards o s)
count-left counted peers trace n o s at before stands =
    let front = filter (is_for n o s) (take at (trace_in trace).operations) in
    let left = left_from trace n o s at in
    subst (λ m. count_by (λ part. eqb part.1 s) (take (part_at trace n o s at) (issued_parts (trace_in trace) m o)) + length left ≡ length (operations_for (trace_in trace) m o s)) stands.shards
    (ap (λ k. k + length left) (count-before counted peers trace n o s at stands.shard (here-of trace n o s at before stands))
    ∙ sym (length-append front left) ∙ ap length (sym (all-split trace n o s at)))

-- they are the last of all
pub last-left : (trace : Parsed) (n o s at before : ℕ) → StandsAt trace n o s at before
    → left_from trace n o s at ≡ drop (length (operations_for (trace_in trace) trace.shards o s) - length (left_from trace n o s at)) (operations_for (trace_in trace) trace.shards o s)
last-left trace n o s at before stands =
    let front = filter (is_for n o s) (take at (trace_in trace).operations) in
    let left = left_from trace n o s at in
    subst (λ m. left ≡ drop (length (operations_for (trace_in trace) m o s) - length left) (operations_for (trace_in trace) m o s)) stands.shards
    (sym (ap (λ list. drop (length list - length left) list) (all-split trace n o s at)
    ∙ drop_at front left (length (front ++ left) - length left) (let both = length-append front left in omega (arith, both))))

pub few-left : (trace : Parsed) (n o s at : ℕ) → length trace.commands ≤ 1048576 → length (left_from trace n o s at) ≤ 1048576
few-left trace n o s at few =
    let ops = (trace_in trace).operations in
    let many = length-operations trace.bytes trace.commands in
    let shorter = length-drop at ops in
    let those = length-filter (is_for n o s) (drop at ops) in
    let fewer = count_by-le-length (is_for n o s) (drop at ops) in
    omega (arith, many, shorter, those, fewer, few)

-- Their place among all.

pub first-dropped : {X : Type 0} (xs : List X) (k : ℕ) (x : X) (others : List X) → drop k xs ≡ x ∷ others → slice_get xs k ≡ Some x
first-dropped [] zero x others is = absurd (let e : [] ≡ x ∷ others = is in cc)
first-dropped [] (suc k) x others is = absurd (let e : [] ≡ x ∷ others = is in cc)
first-dropped {X} (first ∷ xs) zero x others is = let same : first ≡ x = cc in ap Some same
first-dropped (first ∷ xs) (suc k) x others is = first-dropped xs k x others is

-- the first of them stands behind as many as were passed
pub first-of-left : (all left : List Operation) (op : Operation) (others : List Operation) → left ≡ drop (length all - length left) all → left ≡ op ∷ others
    → slice_get all (length all - length left) ≡ Some op
first-of-left all left op others last is = first-dropped all (length all - length left) op others (sym last ∙ is)

-- and so many were passed
pub count-passed : (all left : List Operation) (k : ℕ) → left ≡ drop k all → k ≤ length all → length all - length left ≡ k
count-passed all left k last within =
    let shorter = length-drop k all in
    let same = ap length last in
    omega (arith, shorter, same, within)
