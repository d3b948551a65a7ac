-- What a get finds along a journal from which no row goes.
use Rattle.std.proofs.Common.{◌≡◌, ℕ, ◌≤◌, Bool, true, false, not, ◌&&◌, cond, nat_lt, List, [], ◌∷◌, ◌++◌, map, append_assoc, Option, Some, None, IsSome, refl, sym, ap, subst, ◌∙◌, arith, true≢false}
use Rattle.std.specs.List.{list_any}
use Rattle.std.specs.Option.{option_map, option_and_then}
use Rattle.std.proofs.lemmas.Bool.Decides.{nat_tests}
use Rattle.rows.specs.declared.kind.Kind.{Kind}
use Rattle.rows.specs.declared.kind.Kind.TheVariants as kinds
use Rattle.rows.specs.Key.{Key, in_table, is_same_key}
use Rattle.rows.specs.Operation.{Operation}
use Rattle.row_lemmas.proofs.Keys.{is_same_key-Decides}
use Rattle.trace_text.specs.Trace.{Trace, regions}
use Rattle.cache_model.specs.declared.entry.Entry.{Entry}
use Rattle.cache_model.specs.declared.entry.Entry.TheVariants.{Done, Evicted}
use Rattle.rows.specs.Row.{Row, floor, live}
use Rattle.rows.specs.Apply.{Reply, apply, apply_kind, get_where, is_of, row_of, without}
use Rattle.cache_model.specs.Legal.{after, cache_after, cache_from, can_evict, command_of, done, is_done, reply_at, IsLegal}
use Rattle.plain_cache.specs.Kept.{StaysWithin, commands_done, reply_of_get, set_by, value_behind, value_of}

abbrev value_in : Option Row → Option (List ℕ)
value_in o = option_map (λ row. row.value) o

-- ---- the rows of other keys

first-row : (key : Key) (row : Row) (rows : List Row) → is_of key row ≡ true → row_of key (row ∷ rows) ≡ Some row
first-row key row rows is = ap (λ (b : Bool). cond b (Some row) (row_of key rows)) is

later-row : (key : Key) (row : Row) (rows : List Row) → is_of key row ≡ false → row_of key (row ∷ rows) ≡ row_of key rows
later-row key row rows is = ap (λ (b : Bool). cond b (Some row) (row_of key rows)) is

other-cond : (k key : Key) (row : Row) (rows others : List Row) (gone same : Bool) → is_of k row ≡ gone → is_of key row ≡ same → is_same_key k key ≡ false
    → row_of key others ≡ row_of key rows → row_of key (cond (not gone) (row ∷ others) others) ≡ row_of key (row ∷ rows)
other-cond k key row rows others true true gone same other rest =
    let first : row.key ≡ k = (is_same_key-Decides row.key k).0 gone in
    let second : row.key ≡ key = (is_same_key-Decides row.key key).0 same in
    let is : is_same_key k key ≡ true = (is_same_key-Decides k key).1 (sym first ∙ second) in
    absurd (true≢false (sym is ∙ other))
other-cond k key row rows others true false gone same other rest = rest ∙ sym (later-row key row rows same)
other-cond k key row rows others false true gone same other rest = first-row key row others same ∙ sym (first-row key row rows same)
other-cond k key row rows others false false gone same other rest = later-row key row others same ∙ rest ∙ sym (later-row key row rows same)

-- without the rows of one key, those of another are found
other : (k key : Key) (rows : List Row) → is_same_key k key ≡ false → row_of key (without k rows) ≡ row_of key rows
other k key [] e = refl
other k key (row ∷ rows) e = other-cond k key row rows (without k rows) (is_of k row) (is_of key row) refl refl e (other k key rows e)

none-cond : (key : Key) (row : Row) (others : List Row) (b : Bool) → is_of key row ≡ b → row_of key others ≡ None
    → row_of key (cond (not b) (row ∷ others) others) ≡ None
none-cond key row others true is rest = rest
none-cond key row others false is rest = later-row key row others is ∙ rest

-- and none of that key
none : (key : Key) (rows : List Row) → row_of key (without key rows) ≡ None
none key [] = refl
none key (row ∷ rows) = none-cond key row (without key rows) (is_of key row) refl (none key rows)

found-cond : (key : Key) (b : Bool) (row found : Row) (o : Option Row) → is_of key row ≡ b → (o ≡ Some found → is_of key found ≡ true)
    → cond b (Some row) o ≡ Some found → is_of key found ≡ true
found-cond key true row found o is later e = let same : row ≡ found = cc in subst (λ (x : Row). is_of key x ≡ true) same is
found-cond key false row found o is later e = later e

found : (key : Key) (rows : List Row) (row : Row) → row_of key rows ≡ Some row → is_of key row ≡ true
found key [] row e = cc
found key (first ∷ rows) row e = found-cond key (is_of key first) first row (row_of key rows) refl (found key rows row) e

-- ---- one command

put-cond : (key : Key) (operation : Operation) (cache : List Row) (b : Bool) → is_same_key operation.key key ≡ b
    → value_in (cond b (Some (record { key = operation.key; value = operation.value; number = operation.number })) (row_of key (without operation.key cache)))
    ≡ cond b (Some operation.value) (value_of key cache)
put-cond key operation cache true e = refl
put-cond key operation cache false e = ap value_in (other operation.key key cache e)

erase-cond : (key : Key) (operation : Operation) (cache : List Row) (b : Bool) → is_same_key operation.key key ≡ b
    → value_of key (without operation.key cache) ≡ cond b None (value_of key cache)
erase-cond key operation cache true e =
    let same : operation.key ≡ key = (is_same_key-Decides operation.key key).0 e in
    subst (λ (k : Key). value_of key (without k cache) ≡ None) (sym same) (ap value_in (none key cache))
erase-cond key operation cache false e = ap value_in (other operation.key key cache e)

got-cond : (key k : Key) (row : Row) (cache : List Row) (b : Bool) → row_of k cache ≡ Some row → row.key ≡ k → is_same_key k key ≡ b
    → value_of key (row ∷ without k cache) ≡ value_of key cache
got-cond key k row cache true is of e =
    let same : k ≡ key = (is_same_key-Decides k key).0 e in
    let at : is_of key row ≡ true = (is_same_key-Decides row.key key).1 (of ∙ same) in
    let here : row_of key cache ≡ Some row = subst (λ x. row_of x cache ≡ Some row) same is in
    ap value_in (first-row key row (without k cache) at ∙ sym here)
got-cond key k row cache false is of e =
    let at : is_of key row ≡ false = subst (λ (x : Key). is_same_key x key ≡ false) (sym of) e in
    ap value_in (later-row key row (without k cache) at ∙ other k key cache e)

got : (key k : Key) (o : Option Row) (cache : List Row) → row_of k cache ≡ o → value_of key (get_where o k cache).0 ≡ value_of key cache
got key k None cache e = refl
got key k (Some row) cache e = got-cond key k row cache (is_same_key k key) e ((is_same_key-Decides row.key k).0 (found k cache row e)) refl

sets : (kind : Kind) (operation : Operation) (key : Key) (cache : List Row)
    → value_of key (apply_kind kind operation cache).0 ≡ set_by kind operation key (value_of key cache)
sets kinds.Put operation key cache = put-cond key operation cache (is_same_key operation.key key) refl
sets kinds.Get operation key cache = got key operation.key (row_of operation.key cache) cache refl
sets kinds.Erase operation key cache = erase-cond key operation cache (is_same_key operation.key key) refl
sets kinds.Scan operation key cache = refl

-- ---- a journal

-- from one cache to another no row went, and a key has the value that the commands leave
record IsQuiet (trace : Trace) (key : Key) (cache last : List Row) (journal : List Entry) : Type 0 where
  alone : journal ≡ map (λ i. Done i) (done journal)
  value : value_of key last ≡ value_behind key (commands_done trace journal) (value_of key cache)

-- along a journal from a cache no more bytes are live than the bound
abbrev StaysFrom : Trace → ℕ → ℕ → List Row → List Entry → Type 0
StaysFrom trace pages bound cache journal = (before later : List Entry) (mid : List Row)
    → journal ≡ before ++ later → cache_from trace pages cache before ≡ Some mid → live mid ≤ bound

and-false : (a b : Bool) → b ≡ false → (a && b) ≡ false
and-false true b e = e
and-false false b e = refl

not-above : (bound bytes : ℕ) → bytes ≤ bound → nat_lt bound bytes ≡ false
not-above bound bytes low = grind (arith, nat_tests)

done-quiet : (trace : Trace) (key : Key) (i : ℕ) (journal : List Entry) (cache next last : List Row) (o : Option Operation) → command_of trace i ≡ o
    → option_map (λ operation. (apply operation cache).0) o ≡ Some next → IsQuiet trace key next last journal → IsQuiet trace key cache last (Done i ∷ journal)
done-quiet trace key i journal cache next last None command e rest = cc
done-quiet trace key i journal cache next last (Some operation) command e rest =
    let same : (apply operation cache).0 ≡ next = cc in
    record {
      alone = ap (λ es. Done i ∷ es) rest.alone;
      value =
          rw command (rest.value ∙ ap (value_behind key (commands_done trace journal)) (ap (value_of key) (sym same) ∙ sets operation.kind operation key cache));
    }

step-quiet : (trace : Trace) (pages : ℕ) (key : Key) (entry : Entry) (journal : List Entry) (cache next last : List Row) → live cache ≤ floor pages (regions trace)
    → after trace pages entry cache ≡ Some next → IsQuiet trace key next last journal → IsQuiet trace key cache last (entry ∷ journal)
step-quiet trace pages key (Done i) journal cache next last low e rest = done-quiet trace key i journal cache next last (command_of trace i) refl e rest
step-quiet trace pages key (Evicted q) journal cache next last low e rest =
    let cannot : can_evict pages (regions trace) q cache ≡ false = and-false _ (nat_lt (floor pages (regions trace)) (live cache)) (not-above (floor pages (regions trace)) (live cache) low) in
    let stops : after trace pages (Evicted q) cache ≡ None = rw cannot refl in cc

then-quiet : (trace : Trace) (pages : ℕ) (key : Key) (entry : Entry) (journal : List Entry) (cache last : List Row) (o : Option (List Row)) → live cache ≤ floor pages (regions trace)
    → after trace pages entry cache ≡ o
    → ((next : List Row) → o ≡ Some next → cache_from trace pages next journal ≡ Some last → IsQuiet trace key next last journal)
    → option_and_then (λ next. cache_from trace pages next journal) o ≡ Some last → IsQuiet trace key cache last (entry ∷ journal)
then-quiet trace pages key entry journal cache last None low is rest e = cc
then-quiet trace pages key entry journal cache last (Some next) low is rest e = step-quiet trace pages key entry journal cache next last low is (rest next refl e)

from-quiet : (trace : Trace) (pages : ℕ) (key : Key) (journal : List Entry) (cache last : List Row) → StaysFrom trace pages (floor pages (regions trace)) cache journal
    → cache_from trace pages cache journal ≡ Some last → IsQuiet trace key cache last journal
from-quiet trace pages key [] cache last stays e = let same : cache ≡ last = cc in record { alone = refl; value = rw same refl }
from-quiet trace pages key (entry ∷ journal) cache last stays e =
    then-quiet trace pages key entry journal cache last (after trace pages entry cache) (stays [] (entry ∷ journal) cache refl refl) refl
    (λ next is leads. from-quiet trace pages key journal next last
    (λ before later mid parts at. stays (entry ∷ before) later mid (ap (λ es. entry ∷ es) parts) (rw is at)) leads) e

-- ---- the front of a journal

then-front : (trace : Trace) (pages : ℕ) (before later : List Entry) (o : Option (List Row)) (last : List Row)
    → ((next : List Row) → cache_from trace pages next (before ++ later) ≡ Some last → (mid : List Row) × (cache_from trace pages next before ≡ Some mid))
    → option_and_then (λ next. cache_from trace pages next (before ++ later)) o ≡ Some last
    → (mid : List Row) × (option_and_then (λ next. cache_from trace pages next before) o ≡ Some mid)
then-front trace pages before later None last rest e = cc
then-front trace pages before later (Some next) last rest e = rest next e

front : (trace : Trace) (pages : ℕ) (before later : List Entry) (start last : List Row) → cache_from trace pages start (before ++ later) ≡ Some last
    → (mid : List Row) × (cache_from trace pages start before ≡ Some mid)
front trace pages [] later start last e = (start, refl)
front trace pages (entry ∷ before) later start last e =
    then-front trace pages before later (after trace pages entry start) last (λ next. front trace pages before later next last) e

there : (o : Option (List Row)) → IsSome o → (cache : List Row) × (o ≡ Some cache)
there None some = cc
there (Some cache) some = (cache, refl)

pub none_goes : (trace : Trace) (pages : ℕ) (journal : List Entry) → IsLegal trace pages journal → StaysWithin trace pages (floor pages (regions trace)) journal
    → journal ≡ map (λ i. Done i) (done journal)
none_goes trace pages journal legal stays =
    let last = there (cache_after trace pages journal) legal in
    (from-quiet trace pages (in_table 0 []) journal [] last.0 stays last.1).alone

-- ---- a get

found-where : (key : Key) (cache : List Row) (o : Option Row) → (get_where o key cache).1 ≡ reply_of_get (value_in o)
found-where key cache None = refl
found-where key cache (Some row) = refl

gets : (kind : Kind) (operation : Operation) (cache : List Row) → kind ≡ kinds.Get
    → (apply_kind kind operation cache).1 ≡ reply_of_get (value_of operation.key cache)
gets kinds.Put operation cache is = cc
gets kinds.Get operation cache is = found-where operation.key cache (row_of operation.key cache)
gets kinds.Erase operation cache is = cc
gets kinds.Scan operation cache is = cc

-- a command that is done at the end of a journal has the reply that it has on the cache there, and keeps it
abbrev pub RepliesAtEnd : Type 0
RepliesAtEnd = (trace : Trace) (pages i : ℕ) (journal : List Entry) (cache : List Row) (operation : Operation)
    → list_any (is_done i) journal ≡ false → command_of trace i ≡ Some operation → cache_after trace pages journal ≡ Some cache
    → reply_at trace pages (journal ++ Done i ∷ []) i ≡ Some (apply operation cache).1

abbrev pub KeepsReplies : Type 0
KeepsReplies = (trace : Trace) (pages : ℕ) (journal entries : List Entry) (i : ℕ) (reply : Reply)
    → reply_at trace pages journal i ≡ Some reply → reply_at trace pages (journal ++ entries) i ≡ Some reply

pub finds : RepliesAtEnd → KeepsReplies → (trace : Trace) (pages i : ℕ) (before later : List Entry) (operation : Operation)
    → IsLegal trace pages (before ++ Done i ∷ later) → StaysWithin trace pages (floor pages (regions trace)) (before ++ Done i ∷ later)
    → list_any (is_done i) before ≡ false → command_of trace i ≡ Some operation → operation.kind ≡ kinds.Get
    → reply_at trace pages (before ++ Done i ∷ later) i ≡ Some (reply_of_get (value_behind operation.key (commands_done trace before) None))
finds replies kept trace pages i before later operation legal stays once command kind =
    let last = there (cache_after trace pages (before ++ Done i ∷ later)) legal in
    let mid = front trace pages before (Done i ∷ later) [] last.0 last.1 in
    let quiet = from-quiet trace pages operation.key before [] mid.0
    (λ start rest cache parts leads. stays start (rest ++ Done i ∷ later) cache
    (ap (λ es. es ++ Done i ∷ later) parts ∙ append_assoc start rest (Done i ∷ later)) leads) mid.1 in
    let at_end = replies trace pages i before mid.0 operation once command mid.1 in
    let whole : reply_at trace pages (before ++ Done i ∷ later) i ≡ Some (apply operation mid.0).1 =
    subst (λ es. reply_at trace pages es i ≡ Some (apply operation mid.0).1) (append_assoc before (Done i ∷ []) later)
    (kept trace pages (before ++ Done i ∷ []) later i (apply operation mid.0).1 at_end) in
    whole ∙ ap Some (gets operation.kind operation mid.0 kind ∙ ap reply_of_get quiet.value)
