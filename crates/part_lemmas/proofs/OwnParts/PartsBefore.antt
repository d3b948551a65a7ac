-- How many parts a shard issues before a place among the commands, from one of its commands to the next.
use Rattle.std.proofs.Common.{◌≡◌, ℕ, zero, suc, ◌+◌, ◌-◌, ◌*◌, ◌<◌, ◌≤◌, ◌%◌, true, false, cond, eqb, List, length, get_or, arith, sym, ap, subst, ◌∙◌, inl, inr}
use Rattle.std.proofs.Math.Nat.{mod-eq_of_lt, mul-le-mul_left}
use Rattle.std.proofs.lemmas.Bool.{cases_lt, eq-eqb, ne_eqb}
use Rattle.std.proofs.lemmas.List.{take_all}
use Rattle.rows.specs.Operation.{Operation, is_scan}
use Rattle.trace_text.specs.Operation.{operations}
use Rattle.trace_text.specs.Parsed.{AreNumbered, Parsed, trace_in}
use Rattle.trace_text.specs.Parts.{origin, own_parts}
use Rattle.trace_text.specs.Trace.{Trace, trace_with}
use Rattle.cache_model.specs.OwnParts.{parts_before}
use Rattle.part_lemmas.proofs.Cursors.Places.{IsNumbered, apart, length-operations, no_operation, numbered}

-- a law of parts: they go up by the parts of the commands that the shard issues
abbrev pub GoUp : Type 0
GoUp = (trace : Trace) (n o i : ℕ) (d : Operation) → i < length trace.operations
    → parts_before trace n o (i + 1) ≡ parts_before trace n o i
    + cond (eqb (origin (get_or trace.operations i d).number n) o) (cond (is_scan (get_or trace.operations i d).kind) n 1) 0

-- Parts hang on no version of their trace: that of version 1 stands for each.

-- a place behind the end
pub parts-end : (ops : List Operation) (n o at : ℕ) → length ops ≤ at → parts_before (trace_with 1 ops) n o at ≡ own_parts (trace_with 1 ops) n o
parts-end ops n o at ended = ap (λ list. own_parts (trace_with 1 list) n o) (take_all at ops ended)

-- they stay at a command of another shard
stays : GoUp → (ops : List Operation) (n o i : ℕ) → IsNumbered ops → (i % n ≡ o → ⊥) → parts_before (trace_with 1 ops) n o (i + 1) ≡ parts_before (trace_with 1 ops) n o i
stays up ops n o i are other = elim (cases_lt i (length ops)) [
  | inl within ↦
      let number : (get_or ops i no_operation).number ≡ i + 1 = are i no_operation within in
      let from : origin (get_or ops i no_operation).number n ≡ i % n = ap (λ k. (k - 1) % n) number ∙ ap (λ k. k % n) (omega arith) in
      let away : eqb (origin (get_or ops i no_operation).number n) o ≡ false = ne_eqb _ _ (λ e. other (sym from ∙ e)) in
      let nothing : parts_before (trace_with 1 ops) n o i + 0 ≡ parts_before (trace_with 1 ops) n o i = omega arith in
      up (trace_with 1 ops) n o i no_operation within
      ∙ ap (λ b. parts_before (trace_with 1 ops) n o i + cond b (cond (is_scan (get_or ops i no_operation).kind) n 1) 0) away
      ∙ nothing
  | inr ended ↦ parts-end ops n o (i + 1) (omega (arith, ended)) ∙ sym (parts-end ops n o i ended)
]

pub stay : GoUp → (ops : List Operation) (n o from k : ℕ) → IsNumbered ops → ((i : ℕ) → from ≤ i → i < from + k → i % n ≡ o → ⊥)
    → parts_before (trace_with 1 ops) n o (from + k) ≡ parts_before (trace_with 1 ops) n o from
stay up ops n o from zero are others = ap (parts_before (trace_with 1 ops) n o) (omega arith)
stay up ops n o from (suc k) are others =
    let next : from + suc k ≡ from + k + 1 = omega arith in
    ap (parts_before (trace_with 1 ops) n o) next
    ∙ stays up ops n o (from + k) are (others (from + k) (omega arith) (omega arith))
    ∙ stay up ops n o from k are (λ i above below. others i above (omega (arith, below)))

-- none stand before the first command of a shard
pub none-first : GoUp → (trace : Parsed) (n o : ℕ) → AreNumbered trace.commands → o < n → parts_before (trace_in trace) n o o ≡ 0
none-first up trace n o are below =
    let ops = operations trace.bytes trace.commands in
    let before : (i : ℕ) → 0 ≤ i → i < 0 + o → i % n ≡ o → ⊥ = λ i above less same. let e : i % n ≡ i = mod-eq_of_lt (omega (arith, less, below)) in omega (arith, e, same, less) in
    ap (parts_before (trace_in trace) n o) (omega arith) ∙ stay up ops n o 0 o (numbered trace.bytes trace.commands are) before

-- and from one to the next they go up by its parts
pub next-of-it : GoUp → (trace : Parsed) (n o at : ℕ) (d : Operation) → AreNumbered trace.commands → 1 ≤ n → at % n ≡ o → at < length trace.commands
    → parts_before (trace_in trace) n o (at + n) ≡ parts_before (trace_in trace) n o at + cond (is_scan (get_or (trace_in trace).operations at d).kind) n 1
next-of-it up trace n o at d are some here within =
    let ops = operations trace.bytes trace.commands in
    let one = get_or ops at d in
    let are-ops : IsNumbered ops = numbered trace.bytes trace.commands are in
    let inside : at < length ops = rw (length-operations trace.bytes trace.commands) within in
    let from : origin one.number n ≡ at % n = ap (λ k. (k - 1) % n) (are-ops at d inside) ∙ ap (λ k. k % n) (omega arith) in
    let own : eqb (origin one.number n) o ≡ true = eq-eqb _ _ (from ∙ here) in
    let others : (i : ℕ) → at + 1 ≤ i → i < at + 1 + (n - 1) → i % n ≡ o → ⊥ =
    λ i above below same. apart n at (i - at) (omega (arith, above)) (omega (arith, above, below, some)) (ap (λ k. k % n) (omega (arith, above)) ∙ same ∙ sym here) in
    ap (parts_before (trace_in trace) n o) (omega (arith, some))
    ∙ stay up ops n o (at + 1) (n - 1) are-ops others
    ∙ up (trace_in trace) n o at d inside
    ∙ ap (λ b. parts_before (trace_in trace) n o at + cond b (cond (is_scan one.kind) n 1) 0) own

-- the same where the shards and the parts go by other names
abbrev pub GoRound : Parsed → Type 0
GoRound trace = (o at : ℕ) (d : Operation) → at % trace.shards ≡ o → at < length trace.commands
    → parts_before (trace_in trace) trace.shards o (at + trace.shards)
    ≡ parts_before (trace_in trace) trace.shards o at + cond (is_scan (get_or (trace_in trace).operations at d).kind) trace.shards 1

pub parts-behind : (trace : Parsed) (n o at before : ℕ) (d : Operation) → GoRound trace → n ≡ trace.shards → at % n ≡ o → at < length trace.commands
    → before ≡ parts_before (trace_in trace) n o at
    → before + cond (is_scan (get_or (trace_in trace).operations at d).kind) n 1 ≡ parts_before (trace_in trace) n o (at + n)
parts-behind trace n o at before d law same here within counted =
    let one = get_or (trace_in trace).operations at d in
    let round : parts_before (trace_in trace) n o (at + n) ≡ parts_before (trace_in trace) n o at + cond (is_scan one.kind) n 1 =
    subst (λ m. at % m ≡ o → parts_before (trace_in trace) m o (at + m) ≡ parts_before (trace_in trace) m o at + cond (is_scan one.kind) m 1) (sym same)
    (λ there. law o at d there within) here in
    ap (λ b. b + cond (is_scan one.kind) n 1) counted ∙ sym round

-- a law of parts: there are few of them
abbrev pub AreFew : Type 0
AreFew = (trace : Trace) (n o i : ℕ) → 1 ≤ n → parts_before trace n o i ≤ i * n

pub few-before : AreFew → (trace : Parsed) (n o at : ℕ) → 1 ≤ n → n ≤ 16 → at < 1048576 → parts_before (trace_in trace) n o at + n ≤ 16777216
few-before few trace n o at some most short =
    let law = few (trace_in trace) n o at some in
    let product : at * n ≤ at * 16 = mul-le-mul_left at most in
    omega (arith, law, product, most, short)
