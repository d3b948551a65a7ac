-- Journals: which are legal, which are complete, and what was replied in them.
use Rattle.std.specs.Prelude.{◌≡◌, ℕ, ◌==◌, ◌-◌, ◌<◌, ◌&&◌, nat_lt, Bool, false, List, [], ◌∷◌, ◌++◌, length, take, filter, find, filter_map, if◌then◌else◌, Option, Some, None, IsSome}
use Rattle.std.specs.List.{list_any, before_first, last_or}
use Rattle.std.specs.Option.{option_map, option_and_then}
use Rattle.rows.specs.Operation.{Operation}
use Rattle.trace_text.specs.Parts.{origin, parts}
use Rattle.trace_text.specs.Trace.{Trace, regions}
use Rattle.cache_model.specs.declared.entry.Entry.{Entry}
use Rattle.cache_model.specs.declared.entry.Entry.TheVariants.{Done, Evicted}
use Rattle.rows.specs.Row.{Row, live, floor, is_of_put}
use Rattle.rows.specs.Apply.{Reply, apply}

-- What a shard did, entry by entry: Done(i) for its part of command i, Evicted(q) where the row that put q had
-- stored went.

abbrev pub command_of : Trace → ℕ → Option Operation
command_of trace i = find (λ operation. operation.number == i) trace.operations

-- put q may lose its row where that row is the last one, whatever its table, and more bytes are live than the floor
abbrev pub can_evict : ℕ → ℕ → ℕ → List Row → Bool
can_evict pages regions q cache = is_of_put q (last_or None cache) && nat_lt (floor pages regions) (live cache)

-- the cache behind an entry, where the entry is possible
abbrev pub after : Trace → ℕ → Entry → List Row → Option (List Row)
after trace pages (Done i) cache = option_map (λ operation. (apply operation cache).0) (command_of trace i)
after trace pages (Evicted q) cache = if can_evict pages (regions trace) q cache then Some (take (length cache - 1) cache) else None

abbrev pub cache_from : Trace → ℕ → List Row → List Entry → Option (List Row)
cache_from trace pages cache [] = Some cache
cache_from trace pages cache (entry ∷ entries) =
    option_and_then (λ next. cache_from trace pages next entries) (after trace pages entry cache)

-- where a journal leads from the empty cache; nowhere, where some entry on the way fails
abbrev pub cache_after : Trace → ℕ → List Entry → Option (List Row)
cache_after trace pages journal = cache_from trace pages [] journal

abbrev pub IsLegal : Trace → ℕ → List Entry → Type 0
IsLegal trace pages journal = IsSome (cache_after trace pages journal)

-- the numbers of the Done entries, in order
abbrev pub done_number : Entry → Option ℕ
done_number (Done i) = Some i
done_number (Evicted q) = None

abbrev pub done : List Entry → List ℕ
done journal = filter_map done_number journal

-- Pick the Done entries of one origin out of a journal: in a complete one they are that origin's parts at
-- shard s of n, neither more nor fewer, in order.
abbrev pub IsComplete : Trace → ℕ → ℕ → List Entry → Type 0
IsComplete trace n s journal = (o : ℕ) → o < n → filter (λ i. origin i n == o) (done journal) ≡ parts trace n o s

-- each eviction stands where the live bytes exceed a bound
abbrev pub EvictsAbove : Trace → ℕ → ℕ → List Entry → Type 0
EvictsAbove trace pages bound journal = (before later : List Entry) (q : ℕ) (cache : List Row)
    → journal ≡ before ++ Evicted q ∷ later → cache_after trace pages before ≡ Some cache → bound < live cache

-- the reply at the entry Done(i): that of command i on the cache to which the entries before it lead
abbrev pub is_done : ℕ → Entry → Bool
is_done i (Done j) = j == i
is_done i (Evicted q) = false

abbrev pub reply_on : Option Operation → Option (List Row) → Option Reply
reply_on None cache = None
reply_on (Some operation) None = None
reply_on (Some operation) (Some cache) = Some (apply operation cache).1

abbrev pub reply_at : Trace → ℕ → List Entry → ℕ → Option Reply
reply_at trace pages journal i =
    if list_any (is_done i) journal
    then reply_on (command_of trace i) (cache_after trace pages (before_first (is_done i) journal))
    else None
