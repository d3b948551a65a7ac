-- What is counted of commands is so of what they ask, and a shard's share of it is no more.
use Rattle.std.proofs.Common.{Bool, true, false, ◌≡◌, ℕ, ◌+◌, ◌*◌, ◌≤◌, ◌==◌, ◌&&◌, max, if◌then◌else◌, List, [], ◌∷◌, length, drop, arith, refl, sym, ap, ◌∙◌}
use Rattle.std.specs.List.{All, AllByRecursion as ByRecursion, count_by, fold}
use Rattle.std.proofs.lemmas.List.{length-take-le, length-drop}
use Rattle.std.proofs.Math.Nat.{mul-le-mul_right}
use Rattle.std.proofs.lemmas.List.Sums.{sum_by-le-sum_by}
use Rattle.std.proofs.lemmas.List.Folds.{fold-map}
use Rattle.std.proofs.lemmas.List.Elements.{recursion_from_All}
use Rattle.trace_text.specs.declared.command.Command.{Command}
use Rattle.trace_text.specs.Parsed.{LiesWithin}
use Rattle.rows.specs.Operation.{Operation, is_scan, is_get}
use Rattle.trace_text.specs.Operation.{operation, operations, part}
use Rattle.layout.specs.Sizes.{scan_room}
use Rattle.trace_text.specs.Trace.{Trace, trace_with}
use Rattle.trace_text.specs.Parts.{origin, longest_value, replies_room}
use Rattle.trace_text.specs.PartCounts.{reply_bytes}

abbrev one_if : Bool → ℕ
one_if b = if b then 1 else 0

one_if-le : (b : Bool) → one_if b ≤ 1
one_if-le true = omega arith
one_if-le false = omega arith

-- fewer pass two tests than one of them
and-le : (a b : Bool) → one_if (a && b) ≤ one_if a
and-le true b = one_if-le b
and-le false b = omega arith

count_and-le : (p q : Operation → Bool) (trace : List Operation) → count_by (λ o. p o && q o) trace ≤ count_by p trace
count_and-le p q trace = sum_by-le-sum_by (λ o. one_if (p o && q o)) (λ o. one_if (p o)) trace (λ o. and-le (p o) (q o))

-- a shard's share of the replies is within that of all shards
pub share_fits : (trace : Trace) (n s : ℕ) → reply_bytes trace n s ≤ replies_room trace n
share_fits trace n s =
    let gets = count_and-le (λ o. is_get o.kind) (λ o. origin o.number n == s) trace.operations in
    let scans = count_and-le (λ o. is_scan o.kind) (λ o. origin o.number n == s) trace.operations in
    omega (arith, mul-le-mul_right (longest_value trace) gets, mul-le-mul_right (n * scan_room) scans)

-- what the commands count is what their operations count
pub count_in : (bytes : List ℕ) (p : Operation → Bool) (commands : List Command)
    → count_by (λ c. p (operation bytes c)) commands ≡ count_by p (operations bytes commands)
count_in bytes p commands = sym (fold-map (λ a o. a + one_if (p o)) (operation bytes) 0 commands)

value_len : (bytes : List ℕ) (command : Command) → LiesWithin bytes command → length (part bytes command.value) ≡ command.value.len
value_len bytes command lies =
    let room : command.value.len ≤ length (drop command.value.start bytes) = rw length-drop (let within = lies.value in omega arith) in
    length-take-le command.value.len (drop command.value.start bytes) room

longest_from : (bytes : List ℕ) (commands : List Command) (most : ℕ) → ByRecursion (LiesWithin bytes) commands
    → fold (λ m c. max m c.value.len) most commands ≡ fold (λ m c. max m (length (part bytes c.value))) most commands
longest_from bytes [] most lie = refl
longest_from bytes (c ∷ commands) most lie =
    longest_from bytes commands (max most c.value.len) lie.1
    ∙ ap (λ len. fold (λ m d. max m (length (part bytes d.value))) (max most len) commands) (sym (value_len bytes c lie.0))

pub longest_in : (version : ℕ) (bytes : List ℕ) (commands : List Command) → All (LiesWithin bytes) commands
    → fold (λ m c. max m c.value.len) 0 commands ≡ longest_value (trace_with version (operations bytes commands))
longest_in version bytes commands lie =
    longest_from bytes commands 0 (recursion_from_All (LiesWithin bytes) commands lie)
    ∙ sym (fold-map (λ m o. max m (length o.value)) (operation bytes) 0 commands)
