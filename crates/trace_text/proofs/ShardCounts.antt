-- What counts by shard and kind say of the commands.
use Rattle.std.proofs.Common.{Bool, true, false, cond, ◌≡◌, ℕ, zero, suc, ◌+◌, ◌*◌, ◌<◌, ◌≤◌, ◌==◌, ◌&&◌, arith, refl, sym, ap, ◌∙◌}
use Rattle.std.proofs.Common.{List, [], ◌∷◌, length, replicate, take, get_or}
use Rattle.std.specs.List.{count_by, sum_by}
use Rattle.std.proofs.lemmas.Bool.Decides.{nat_tests}
use Rattle.std.proofs.lemmas.List.{length-map, length-take-le}
use Rattle.std.proofs.lemmas.List.Sums.{sum_by-cons, sum_by_more, count_by-le-length}
use Rattle.layout.specs.Sizes.{scan_room}
use Rattle.trace_text.specs.declared.command.Command.{Command}
use Rattle.rows.specs.declared.kind.Kind.{Kind}
use Rattle.rows.specs.declared.kind.Kind.TheVariants.{Put, Get, Erase, Scan}
use Rattle.trace_text.specs.declared.route.Route.{Route}
use Rattle.rows.specs.Operation.{Operation, is_get, is_put, is_scan}
use Rattle.trace_text.specs.Operation.{operation, operations}
use Rattle.trace_text.specs.Parsed.{Parsed}
use Rattle.trace_text.specs.Parts.{longest_value, origin, own_parts, owner}
use Rattle.trace_text.specs.PartCounts.{here_parts, here_puts, reply_bytes}
use Rattle.trace_text.specs.Reading.{most_commands}
use Rattle.trace_text.specs.Trace.{Trace}
use Rattle.trace_text.specs.inside.Routes.{AreIssued, AreOwned, IsRouted, routes}
use Rattle.trace_text.specs.inside.ShardCounts.{AreCountsBy, AreFew, code, slot}
use Rattle.trace_text.proofs.PartCounts.{one_if, sum_by-cong}
use Rattle.trace_text.proofs.Routes.{length-routes}

pub zeros : (n at : ℕ) → get_or (replicate {A = ℕ} n 0) at 0 ≡ 0
zeros zero at = refl
zeros (suc n) zero = refl
zeros (suc n) (suc at) = zeros n at

pub none_counted : (shard_of : Operation → ℕ) (counts : List ℕ) → ((at : ℕ) → get_or counts at 0 ≡ 0) → AreCountsBy shard_of [] counts
unfolding AreCountsBy
none_counted shard_of counts empty = empty

-- one operation more
pub counted_more : (shard_of : Operation → ℕ) (trace : List Operation) (i : ℕ) (d : Operation) (old new : List ℕ) (shard : ℕ) (kind : Kind)
    → i < length trace → AreCountsBy shard_of (take i trace) old
    → shard ≡ shard_of (get_or trace i d) → kind ≡ (get_or trace i d).kind
    → ((at : ℕ) → get_or new at 0 ≡ get_or old at 0 + one_if (slot shard kind == at))
    → AreCountsBy shard_of (take (i + 1) trace) new
unfolding AreCountsBy
counted_more shard_of trace i d old new shard kind within so_far shard_is kind_is more at =
    rw (more at, so_far at, shard_is, kind_is) (sym (sum_by_more (λ o. one_if (slot (shard_of o) o.kind == at)) trace i d within))

pub counts_few : (shard_of : Operation → ℕ) (trace : List Operation) (counts : List ℕ) → AreCountsBy shard_of trace counts
    → length trace ≤ most_commands → AreFew counts
unfolding AreCountsBy
counts_few shard_of trace counts are few at =
    let most = count_by-le-length (λ o. slot (shard_of o) o.kind == at) trace in
    rw (are at) (omega (arith, most, few))

-- a route's place is that of a command
pub within : (n : ℕ) (bytes : List ℕ) (commands : List Command) (to : List Route) (i : ℕ) → to ≡ routes n (operations bytes commands)
    → i < length to → (i < length (operations bytes commands)) × (i < length commands)
within n bytes commands to i are below =
    let many : length to ≡ length commands = ap length are ∙ length-routes n bytes commands in
    let also = length-map commands (operation bytes) in
    (omega (arith, many, also, below), omega (arith, many, below))

pub few_before : (shard_of : Operation → ℕ) (bytes : List ℕ) (commands : List Command) (i : ℕ) (counts : List ℕ)
    → AreCountsBy shard_of (take i (operations bytes commands)) counts → i < length commands → length commands ≤ most_commands
    → AreFew counts
few_before shard_of bytes commands i counts are below few =
    let also = length-map commands (operation bytes) in
    let so_far = length-take-le i (operations bytes commands) (omega (arith, also, below)) in
    counts_few shard_of (take i (operations bytes commands)) counts are (omega (arith, so_far, below, few))

pub owned_few : (trace : Parsed) (where_to : List Route) (owned issued : List ℕ) → IsRouted trace where_to owned issued → AreFew owned
owned_few trace where_to owned issued is =
    counts_few (λ o. owner o.key.bytes trace.shards) (operations trace.bytes trace.commands) owned is.owned_are
    (rw (length-map trace.commands (operation trace.bytes)) is.consistent.spelled.few)

pub issued_few : (trace : Parsed) (where_to : List Route) (owned issued : List ℕ) → IsRouted trace where_to owned issued → AreFew issued
issued_few trace where_to owned issued is =
    counts_few (λ o. origin o.number trace.shards) (operations trace.bytes trace.commands) issued is.issued_are
    (rw (length-map trace.commands (operation trace.bytes)) is.consistent.spelled.few)

-- no two of a shard and a kind have the same slot
slots : (b s i j : ℕ) → i < 4 → j < 4 → (b * 4 + i == s * 4 + j) ≡ (i == j && b == s)
slots b s i j i_below j_below = grind (arith, nat_tests)

code_below : (kind : Kind) → code kind < 4
code_below Put = omega arith
code_below Get = omega arith
code_below Erase = omega arith
code_below Scan = omega arith

is_at : (b s : ℕ) (kind other : Kind) → (slot b kind == slot s other) ≡ (code kind == code other && b == s)
is_at b s kind other = slots b s (code kind) (code other) (code_below kind) (code_below other)

puts_at : (b s : ℕ) (kind : Kind) → (slot b kind == slot s Put) ≡ (is_put kind && b == s)
puts_at b s Put = is_at b s Put Put
puts_at b s Get = is_at b s Get Put
puts_at b s Erase = is_at b s Erase Put
puts_at b s Scan = is_at b s Scan Put

gets_at : (b s : ℕ) (kind : Kind) → (slot b kind == slot s Get) ≡ (is_get kind && b == s)
gets_at b s Put = is_at b s Put Get
gets_at b s Get = is_at b s Get Get
gets_at b s Erase = is_at b s Erase Get
gets_at b s Scan = is_at b s Scan Get

scans_at : (b s : ℕ) (kind : Kind) → (slot b kind == slot s Scan) ≡ (is_scan kind && b == s)
scans_at b s Put = is_at b s Put Scan
scans_at b s Get = is_at b s Get Scan
scans_at b s Erase = is_at b s Erase Scan
scans_at b s Scan = is_at b s Scan Scan

-- of an operation that is no scan: one where it is the shard's
abbrev other : Bool → Bool → ℕ
other scans mine = cond scans 0 (one_if mine)

other_by : (kind : Kind) (mine : Bool)
    → one_if (code kind == 0 && mine) + one_if (code kind == 1 && mine) + one_if (code kind == 2 && mine) ≡ other (is_scan kind) mine
other_by Put mine = omega arith
other_by Get mine = omega arith
other_by Erase mine = omega arith
other_by Scan mine = refl

other_at : (b s : ℕ) (kind : Kind)
    → one_if (slot b kind == slot s Put) + one_if (slot b kind == slot s Get) + one_if (slot b kind == slot s Erase)
    ≡ other (is_scan kind) (b == s)
other_at b s kind = rw (is_at b s kind Put, is_at b s kind Get, is_at b s kind Erase) (other_by kind (b == s))

abbrev at_slot : (Operation → ℕ) → ℕ → Kind → Operation → Bool
at_slot shard_of s kind operation = slot (shard_of operation) operation.kind == slot s kind

abbrev others : (Operation → ℕ) → ℕ → List Operation → ℕ
others shard_of s trace = sum_by (λ o. other (is_scan o.kind) (shard_of o == s)) trace

others_counted : (shard_of : Operation → ℕ) (s : ℕ) (trace : List Operation)
    → count_by (at_slot shard_of s Put) trace + count_by (at_slot shard_of s Get) trace + count_by (at_slot shard_of s Erase) trace
    ≡ others shard_of s trace
others_counted shard_of s [] = refl
others_counted shard_of s (o ∷ trace) =
    let first = other_at (shard_of o) s o.kind in
    let rest = others_counted shard_of s trace in
    rw (
      sum_by-cons (λ p. one_if (at_slot shard_of s Put p)) o trace,
      sum_by-cons (λ p. one_if (at_slot shard_of s Get p)) o trace,
      sum_by-cons (λ p. one_if (at_slot shard_of s Erase p)) o trace,
      sum_by-cons (λ p. other (is_scan p.kind) (shard_of p == s)) o trace,
    ) (omega (arith, first, rest))

own_first : (mine scans : Bool) (n : ℕ) → cond mine (cond scans n 1) 0 ≡ other scans mine + one_if (scans && mine) * n
own_first true true n = omega arith
own_first true false n = omega arith
own_first false true n = omega arith
own_first false false n = omega arith

own_split : (shard_of : Operation → ℕ) (s n : ℕ) (trace : List Operation)
    → sum_by (λ o. cond (shard_of o == s) (cond (is_scan o.kind) n 1) 0) trace
    ≡ others shard_of s trace + count_by (λ o. is_scan o.kind && shard_of o == s) trace * n
own_split shard_of s n [] = omega arith
own_split shard_of s n (o ∷ trace) =
    let first = own_first (shard_of o == s) (is_scan o.kind) n in
    let rest = own_split shard_of s n trace in
    rw (
      sum_by-cons (λ p. cond (shard_of p == s) (cond (is_scan p.kind) n 1) 0) o trace,
      sum_by-cons (λ p. one_if (is_scan p.kind && shard_of p == s)) o trace,
      sum_by-cons (λ p. other (is_scan p.kind) (shard_of p == s)) o trace,
    ) (omega (arith, first, rest))

here_first : (scans mine : Bool) → one_if (cond scans true mine) ≡ other scans mine + one_if scans
here_first true mine = refl
here_first false mine = omega arith

here_split : (shard_of : Operation → ℕ) (s : ℕ) (trace : List Operation)
    → count_by (λ o. cond (is_scan o.kind) true (shard_of o == s)) trace ≡ others shard_of s trace + count_by (λ o. is_scan o.kind) trace
here_split shard_of s [] = refl
here_split shard_of s (o ∷ trace) =
    let first = here_first (is_scan o.kind) (shard_of o == s) in
    let rest = here_split shard_of s trace in
    rw (
      sum_by-cons (λ p. one_if (cond (is_scan p.kind) true (shard_of p == s))) o trace,
      sum_by-cons (λ p. one_if (is_scan p.kind)) o trace,
      sum_by-cons (λ p. other (is_scan p.kind) (shard_of p == s)) o trace,
    ) (omega (arith, first, rest))

others_are : (shard_of : Operation → ℕ) (s : ℕ) (trace : List Operation) (counts : List ℕ) → AreCountsBy shard_of trace counts
    → get_or counts (slot s Put) 0 + get_or counts (slot s Get) 0 + get_or counts (slot s Erase) 0 ≡ others shard_of s trace
unfolding AreCountsBy
others_are shard_of s trace counts are = rw (are (slot s Put), are (slot s Get), are (slot s Erase)) (others_counted shard_of s trace)

scans_are : (shard_of : Operation → ℕ) (s : ℕ) (trace : List Operation) (counts : List ℕ) → AreCountsBy shard_of trace counts
    → get_or counts (slot s Scan) 0 ≡ count_by (λ o. is_scan o.kind && shard_of o == s) trace
unfolding AreCountsBy
scans_are shard_of s trace counts are = are (slot s Scan) ∙ sum_by-cong _ _ trace (λ o. ap one_if (scans_at (shard_of o) s o.kind))

gets_are : (shard_of : Operation → ℕ) (s : ℕ) (trace : List Operation) (counts : List ℕ) → AreCountsBy shard_of trace counts
    → get_or counts (slot s Get) 0 ≡ count_by (λ o. is_get o.kind && shard_of o == s) trace
unfolding AreCountsBy
gets_are shard_of s trace counts are = are (slot s Get) ∙ sum_by-cong _ _ trace (λ o. ap one_if (gets_at (shard_of o) s o.kind))

-- what a shard needs, by the counts
pub own_parts_are : (trace : Trace) (n s : ℕ) (issued : List ℕ) → AreIssued n trace.operations issued
    → get_or issued (slot s Put) 0 + get_or issued (slot s Get) 0 + get_or issued (slot s Erase) 0 + get_or issued (slot s Scan) 0 * n
    ≡ own_parts trace n s
own_parts_are trace n s issued are =
    let by : Operation → ℕ = λ o. origin o.number n in
    rw (others_are by s trace.operations issued are, scans_are by s trace.operations issued are) (sym (own_split by s n trace.operations))

pub here_parts_are : (trace : Trace) (n s : ℕ) (owned : List ℕ) → AreOwned n trace.operations owned
    → get_or owned (slot s Put) 0 + get_or owned (slot s Get) 0 + get_or owned (slot s Erase) 0
    + count_by (λ o. is_scan o.kind) trace.operations ≡ here_parts trace n s
here_parts_are trace n s owned are =
    let by : Operation → ℕ = λ o. owner o.key.bytes n in
    rw (others_are by s trace.operations owned are) (sym (here_split by s trace.operations))

pub here_puts_are : (trace : Trace) (n s : ℕ) (owned : List ℕ) → AreOwned n trace.operations owned
    → get_or owned (slot s Put) 0 ≡ here_puts trace n s
unfolding AreCountsBy
here_puts_are trace n s owned are = are (slot s Put) ∙ sum_by-cong _ _ trace.operations (λ o. ap one_if (puts_at (owner o.key.bytes n) s o.kind))

pub reply_bytes_are : (trace : Trace) (n s : ℕ) (issued : List ℕ) → AreIssued n trace.operations issued
    → get_or issued (slot s Get) 0 * longest_value trace + get_or issued (slot s Scan) 0 * (n * scan_room) ≡ reply_bytes trace n s
reply_bytes_are trace n s issued are =
    let by : Operation → ℕ = λ o. origin o.number n in
    rw (gets_are by s trace.operations issued are, scans_are by s trace.operations issued are) refl
