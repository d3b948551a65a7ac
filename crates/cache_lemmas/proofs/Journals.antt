-- A journal goes on.
use Rattle.std.proofs.Common.{◌≡◌, ℕ, ◌+◌, ◌<◌, suc, Bool, true, false, not, ◌||◌, cond, eqb, List, [], ◌∷◌, ◌++◌, Option, Some, None, arith, refl, subst, sym, ap, ◌∙◌}
use Rattle.std.specs.List.{list_any, before_first, prefix_len}
use Rattle.std.specs.Option.{IsSome, option_and_then}
use Rattle.std.proofs.lemmas.Bool.Decides.{nat_tests}
use Rattle.rows.specs.Operation.{Operation}
use Rattle.trace_text.specs.Trace.{Trace}
use Rattle.cache_model.specs.declared.entry.Entry.{Entry}
use Rattle.cache_model.specs.declared.entry.Entry.TheVariants.{Done, Evicted}
use Rattle.rows.specs.Row.{Row, live}
use Rattle.rows.specs.Apply.{Reply, apply}
use Rattle.cache_model.specs.Legal.{EvictsAbove, IsLegal, after, cache_after, cache_from, command_of, done, is_done, reply_at, reply_on}

-- ---- where it leads

then-append : (trace : Trace) (pages : ℕ) (journal entries : List Entry) (o : Option (List Row)) (cache : List Row)
    → ((next : List Row) → cache_from trace pages next journal ≡ Some cache → cache_from trace pages next (journal ++ entries) ≡ cache_from trace pages cache entries)
    → option_and_then (λ next. cache_from trace pages next journal) o ≡ Some cache
    → option_and_then (λ next. cache_from trace pages next (journal ++ entries)) o ≡ cache_from trace pages cache entries
then-append trace pages journal entries None cache later e = cc
then-append trace pages journal entries (Some next) cache later e = later next e

pub from-append : (trace : Trace) (pages : ℕ) (start cache : List Row) (journal entries : List Entry) → cache_from trace pages start journal ≡ Some cache
    → cache_from trace pages start (journal ++ entries) ≡ cache_from trace pages cache entries
from-append trace pages start cache [] entries e = let same : start ≡ cache = cc in rw same refl
from-append trace pages start cache (entry ∷ journal) entries e =
    then-append trace pages journal entries (after trace pages entry start) cache (λ next. from-append trace pages next cache journal entries) e

pub leads : (trace : Trace) (pages : ℕ) (journal entries : List Entry) (cache : List Row) → cache_after trace pages journal ≡ Some cache
    → cache_after trace pages (journal ++ entries) ≡ cache_from trace pages cache entries
leads trace pages journal entries cache e = from-append trace pages [] cache journal entries e

-- ---- what was replied in it

eqb-same : (a : ℕ) → eqb a a ≡ true
eqb-same a = grind (arith, nat_tests)

or-true : (b : Bool) → (b || true) ≡ true
or-true true = refl
or-true false = refl

one_more : (n : ℕ) → 1 + n ≡ suc n
one_more n = omega arith

before-skip : (i : ℕ) (entry : Entry) (entries : List Entry) → is_done i entry ≡ false
    → before_first (is_done i) (entry ∷ entries) ≡ entry ∷ before_first (is_done i) entries
before-skip i entry entries is = rw (is, one_more (prefix_len (λ e. not (is_done i e)) entries)) refl

-- the entries before the one of a command that is done, and that it is done, do not hang on what comes later
record IsFound (i : ℕ) (journal entries : List Entry) : Type 0 where
  done : list_any (is_done i) (journal ++ entries) ≡ true
  before : before_first (is_done i) (journal ++ entries) ≡ before_first (is_done i) journal

found-cond : (i : ℕ) (entry : Entry) (journal entries : List Entry) (b : Bool) → is_done i entry ≡ b → (b || list_any (is_done i) journal) ≡ true
    → (list_any (is_done i) journal ≡ true → IsFound i journal entries) → IsFound i (entry ∷ journal) entries
found-cond i entry journal entries true is any later = record { done = rw is refl; before = rw is refl }
found-cond i entry journal entries false is any later =
    let rest = later any in
    record {
      done = rw (is, rest.done) refl;
      before = before-skip i entry (journal ++ entries) is ∙ ap (λ es. entry ∷ es) rest.before ∙ sym (before-skip i entry journal is);
    }

found : (i : ℕ) (journal entries : List Entry) → list_any (is_done i) journal ≡ true → IsFound i journal entries
found i [] entries any = cc
found i (entry ∷ journal) entries any = found-cond i entry journal entries (is_done i entry) refl any (found i journal entries)

reply-cond : (trace : Trace) (pages i : ℕ) (journal entries : List Entry) (reply : Reply) (b : Bool) → list_any (is_done i) journal ≡ b
    → cond b (reply_on (command_of trace i) (cache_after trace pages (before_first (is_done i) journal))) None ≡ Some reply
    → reply_at trace pages (journal ++ entries) i ≡ Some reply
reply-cond trace pages i journal entries reply true is e = let there = found i journal entries is in rw (there.done, there.before) e
reply-cond trace pages i journal entries reply false is e = cc

pub kept : (trace : Trace) (pages : ℕ) (journal entries : List Entry) (i : ℕ) (reply : Reply) → reply_at trace pages journal i ≡ Some reply
    → reply_at trace pages (journal ++ entries) i ≡ Some reply
kept trace pages journal entries i reply e = reply-cond trace pages i journal entries reply (list_any (is_done i) journal) refl e

or-false : (a b : Bool) → (a || b) ≡ false → (a ≡ false) × (b ≡ false)
or-false true b e = cc
or-false false b e = (refl, e)

any-end : (i : ℕ) (journal : List Entry) → list_any (is_done i) (journal ++ Done i ∷ []) ≡ true
any-end i [] = rw (eqb-same i) refl
any-end i (entry ∷ journal) = rw (any-end i journal) (or-true (is_done i entry))

before-end : (i : ℕ) (journal : List Entry) → list_any (is_done i) journal ≡ false → before_first (is_done i) (journal ++ Done i ∷ []) ≡ journal
before-end i [] none = rw (eqb-same i) refl
before-end i (entry ∷ journal) none =
    let parts = or-false (is_done i entry) (list_any (is_done i) journal) none in
    before-skip i entry (journal ++ Done i ∷ []) parts.0 ∙ ap (λ es. entry ∷ es) (before-end i journal parts.1)

pub replied_at_end : (trace : Trace) (pages i : ℕ) (journal : List Entry) (cache : List Row) (operation : Operation)
    → list_any (is_done i) journal ≡ false → command_of trace i ≡ Some operation → cache_after trace pages journal ≡ Some cache
    → reply_at trace pages (journal ++ Done i ∷ []) i ≡ Some (apply operation cache).1
replied_at_end trace pages i journal cache operation none command leads =
    rw (any-end i journal, before-end i journal none, command, leads) refl

any-done : (i : ℕ) (entry : Entry) (journal : List Entry) → list_any (is_done i) journal ≡ list_any (λ j. eqb j i) (done journal)
    → list_any (is_done i) (entry ∷ journal) ≡ list_any (λ j. eqb j i) (done (entry ∷ journal))
any-done i (Done j) journal rest = ap (λ b. eqb j i || b) rest
any-done i (Evicted q) journal rest = rest

pub number_is_done : (i : ℕ) (journal : List Entry) → list_any (is_done i) journal ≡ list_any (λ j. eqb j i) (done journal)
number_is_done i [] = refl
number_is_done i (entry ∷ journal) = any-done i entry journal (number_is_done i journal)

-- ---- each command that is done in a legal journal has a reply

leads-on : (trace : Trace) (pages i : ℕ) (journal : List Entry) (o : Option (List Row))
    → ((next : List Row) → IsSome (cache_from trace pages next journal) → IsSome (cache_from trace pages next (before_first (is_done i) journal)))
    → IsSome (option_and_then (λ next. cache_from trace pages next journal) o) → IsSome (option_and_then (λ next. cache_from trace pages next (before_first (is_done i) journal)) o)
leads-on trace pages i journal None later some = some
leads-on trace pages i journal (Some next) later some = later next some

-- the entries before the one of a command lead somewhere where all do
leads-before : (trace : Trace) (pages i : ℕ) (start : List Row) (journal : List Entry) → IsSome (cache_from trace pages start journal) → list_any (is_done i) journal ≡ true
    → IsSome (cache_from trace pages start (before_first (is_done i) journal))
leads-before trace pages i start [] some any = some
leads-before trace pages i start (entry ∷ journal) some any = go (is_done i entry) refl any (λ next. leads-before trace pages i next journal)
  where
    go : (b : Bool) → is_done i entry ≡ b → (b || list_any (is_done i) journal) ≡ true
        → ((next : List Row) → IsSome (cache_from trace pages next journal) → list_any (is_done i) journal ≡ true → IsSome (cache_from trace pages next (before_first (is_done i) journal)))
        → IsSome (cache_from trace pages start (before_first (is_done i) (entry ∷ journal)))
    go true is found behind = rw is refl
    go false is found behind =
        subst (λ front. IsSome (cache_from trace pages start front)) (sym (before-skip i entry journal is))
        (leads-on trace pages i journal (after trace pages entry start) (λ next more. behind next more found) some)

reply-there : (o : Option Operation) (cache : Option (List Row)) (operation : Operation) → o ≡ Some operation → IsSome cache → IsSome (reply_on o cache)
reply-there None cache operation is some = absurd (let clash : None ≡ Some operation = is in cc)
reply-there (Some found) None operation is some = some
reply-there (Some found) (Some cache) operation is some = refl

pub replies-each : (trace : Trace) (pages i : ℕ) (journal : List Entry) (operation : Operation) → IsLegal trace pages journal → list_any (is_done i) journal ≡ true
    → command_of trace i ≡ Some operation → IsSome (reply_at trace pages journal i)
replies-each trace pages i journal operation legal any command =
    rw any (reply-there (command_of trace i) (cache_after trace pages (before_first (is_done i) journal)) operation command (leads-before trace pages i [] journal legal any))

-- ---- its evictions

-- an entry at the end is the last one that is named, or is behind it
pub data AtEnd (journal before later : List Entry) (entry named : Entry) : Type 0 where
  IsNamed : before ≡ journal → named ≡ entry → AtEnd journal before later entry named
  IsBehind : (rest : List Entry) → journal ≡ before ++ named ∷ rest → AtEnd journal before later entry named

grow : (first : Entry) (journal before later : List Entry) (entry named : Entry) → AtEnd journal before later entry named
    → AtEnd (first ∷ journal) (first ∷ before) later entry named
grow first journal before later entry named (IsNamed same is) = IsNamed (ap (λ es. first ∷ es) same) is
grow first journal before later entry named (IsBehind rest is) = IsBehind rest (ap (λ es. first ∷ es) is)

pub at_end : (journal before later : List Entry) (entry named : Entry) → journal ++ entry ∷ [] ≡ before ++ named ∷ later → AtEnd journal before later entry named
at_end [] [] later entry named e = IsNamed refl (let same : named ≡ entry = cc in same)
at_end [] (first ∷ []) later entry named e = cc
at_end [] (first ∷ second ∷ before) later entry named e = cc
at_end (first ∷ journal) [] later entry named e = let same : first ≡ named = cc in IsBehind journal (rw same refl)
at_end (first ∷ journal) (other ∷ before) later entry named e =
    let same : first ≡ other = cc in
    let rest : journal ++ entry ∷ [] ≡ before ++ named ∷ later = cc in
    rw same (grow other journal before later entry named (at_end journal before later entry named rest))

by-end : (trace : Trace) (pages bound : ℕ) (journal : List Entry) (entry : Entry) → EvictsAbove trace pages bound journal
    → ((q : ℕ) (cache : List Row) → entry ≡ Evicted q → cache_after trace pages journal ≡ Some cache → bound < live cache)
    → (before later : List Entry) (q : ℕ) (cache : List Row) → cache_after trace pages before ≡ Some cache → AtEnd journal before later entry (Evicted q)
    → bound < live cache
by-end trace pages bound journal entry so_far here before later q cache leads (IsNamed same is) = here q cache (sym is) (rw same at leads)
by-end trace pages bound journal entry so_far here before later q cache leads (IsBehind rest is) = so_far before rest q cache is leads

-- one entry more, where it is no eviction, or one above the bound
pub evicts-more : (trace : Trace) (pages bound : ℕ) (journal : List Entry) (entry : Entry) → EvictsAbove trace pages bound journal
    → ((q : ℕ) (cache : List Row) → entry ≡ Evicted q → cache_after trace pages journal ≡ Some cache → bound < live cache)
    → EvictsAbove trace pages bound (journal ++ entry ∷ [])
evicts-more trace pages bound journal entry so_far here before later q cache e leads =
    by-end trace pages bound journal entry so_far here before later q cache leads (at_end journal before later entry (Evicted q) e)

pub evicts-done : (trace : Trace) (pages bound i : ℕ) (journal : List Entry) → EvictsAbove trace pages bound journal
    → EvictsAbove trace pages bound (journal ++ Done i ∷ [])
evicts-done trace pages bound i journal so_far = evicts-more trace pages bound journal (Done i) so_far (λ q cache e leads. cc)
