-- What every step of a journal keeps, holds of each cache to which a journal leads.
use Rattle.std.proofs.Common.{◌≡◌, ℕ, ◌-◌, Bool, true, false, cond, List, [], ◌∷◌, length, take, Option, Some, None, refl, subst}
use Rattle.std.specs.List.{find, list_any, before_first}
use Rattle.std.specs.Option.{option_map, option_and_then}
use Rattle.std.specs.Prelude.{All}
use Rattle.std.proofs.lemmas.List.Elements.{All-head, All-tail}
use Rattle.rows.specs.Operation.{Operation}
use Rattle.trace_text.specs.Trace.{Trace, regions}
use Rattle.cache_model.specs.declared.entry.Entry.{Entry}
use Rattle.cache_model.specs.declared.entry.Entry.TheVariants.{Done, Evicted}
use Rattle.rows.specs.Row.{Row}
use Rattle.rows.specs.Apply.{Reply, apply}
use Rattle.cache_model.specs.Legal.{after, cache_after, cache_from, can_evict, command_of, is_done, reply_at, reply_on}

-- a fact about caches that each part of a command and each eviction keeps
pub record IsKept (trace : Trace) (pages : ℕ) (Fact : List Row → Type 0) : Type 0 where
  pub parts : (i : ℕ) (operation : Operation) (cache : List Row) → command_of trace i ≡ Some operation → Fact cache → Fact (apply operation cache).0
  pub evictions : (q : ℕ) (cache : List Row) → can_evict pages (regions trace) q cache ≡ true → Fact cache → Fact (take (length cache - 1) cache)

done-keeps : (Fact : List Row → Type 0) (o : Option Operation) (cache next : List Row)
    → ((operation : Operation) → o ≡ Some operation → Fact (apply operation cache).0)
    → option_map (λ operation. (apply operation cache).0) o ≡ Some next → Fact next
done-keeps Fact None cache next keeps e = cc
done-keeps Fact (Some operation) cache next keeps e =
    let same : (apply operation cache).0 ≡ next = cc in subst Fact same (keeps operation refl)

evicted-keeps : (Fact : List Row → Type 0) (can : Bool) (rows next : List Row) → (can ≡ true → Fact rows) → cond can (Some rows) None ≡ Some next → Fact next
evicted-keeps Fact true rows next keeps e = let same : rows ≡ next = cc in subst Fact same (keeps refl)
evicted-keeps Fact false rows next keeps e = cc

after-keeps : (trace : Trace) (pages : ℕ) (Fact : List Row → Type 0) → IsKept trace pages Fact → (entry : Entry) (cache next : List Row) → Fact cache
    → after trace pages entry cache ≡ Some next → Fact next
after-keeps trace pages Fact kept (Done i) cache next here e =
    done-keeps Fact (command_of trace i) cache next (λ operation is. kept.parts i operation cache is here) e
after-keeps trace pages Fact kept (Evicted q) cache next here e =
    evicted-keeps Fact (can_evict pages (regions trace) q cache) (take (length cache - 1) cache) next (λ can. kept.evictions q cache can here) e

then-keeps : (trace : Trace) (pages : ℕ) (Fact : List Row → Type 0) (journal : List Entry) (o : Option (List Row)) (last : List Row)
    → ((next : List Row) → o ≡ Some next → Fact next)
    → ((next : List Row) → Fact next → cache_from trace pages next journal ≡ Some last → Fact last)
    → option_and_then (λ next. cache_from trace pages next journal) o ≡ Some last → Fact last
then-keeps trace pages Fact journal None last here later e = cc
then-keeps trace pages Fact journal (Some next) last here later e = later next (here next refl) e

from-keeps : (trace : Trace) (pages : ℕ) (Fact : List Row → Type 0) → IsKept trace pages Fact → (journal : List Entry) (cache last : List Row) → Fact cache
    → cache_from trace pages cache journal ≡ Some last → Fact last
from-keeps trace pages Fact kept [] cache last here e = let same : cache ≡ last = cc in subst Fact same here
from-keeps trace pages Fact kept (entry ∷ journal) cache last here e =
    then-keeps trace pages Fact journal (after trace pages entry cache) last (λ next. after-keeps trace pages Fact kept entry cache next here)
    (λ next. from-keeps trace pages Fact kept journal next last) e

-- from the empty cache on
pub kept-after : (trace : Trace) (pages : ℕ) (Fact : List Row → Type 0) → IsKept trace pages Fact → Fact [] → (journal : List Entry) (cache : List Row)
    → cache_after trace pages journal ≡ Some cache → Fact cache
kept-after trace pages Fact kept none journal cache leads = from-keeps trace pages Fact kept journal [] cache none leads

-- what is found in a list, where a fact holds of each element
found-keeps : {X : Type 0} (P : X → Type 0) (b : Bool) (x found : X) (o : Option X) → P x → (o ≡ Some found → P found) → cond b (Some x) o ≡ Some found → P found
found-keeps P true x found o here later e = let same : x ≡ found = cc in subst P same here
found-keeps P false x found o here later e = later e

pub All-find : {X : Type 0} (P : X → Type 0) (test : X → Bool) (xs : List X) (found : X) → All P xs → find test xs ≡ Some found → P found
All-find P test [] found all e = cc
All-find P test (x ∷ xs) found all e =
    found-keeps P (test x) x found (find test xs) (All-head P x xs all) (All-find P test xs found (All-tail P x xs all)) e

-- a reply in a journal is that of a command of the trace on a cache to which a journal leads
pub record IsReplied (trace : Trace) (pages i : ℕ) (journal : List Entry) (reply : Reply) : Type 0 where
  pub operation : Operation
  pub cache : List Row
  pub command : command_of trace i ≡ Some operation
  pub leads : cache_after trace pages (before_first (is_done i) journal) ≡ Some cache
  pub is : reply ≡ (apply operation cache).1

on-replied : (trace : Trace) (pages i : ℕ) (journal : List Entry) (reply : Reply) (o : Option Operation) (c : Option (List Row))
    → command_of trace i ≡ o → cache_after trace pages (before_first (is_done i) journal) ≡ c → reply_on o c ≡ Some reply → IsReplied trace pages i journal reply
on-replied trace pages i journal reply None c command leads e = cc
on-replied trace pages i journal reply (Some operation) None command leads e = cc
on-replied trace pages i journal reply (Some operation) (Some cache) command leads e =
    record { operation = operation; cache = cache; command = command; leads = leads; is = cc }

where-done : (trace : Trace) (pages i : ℕ) (journal : List Entry) (reply : Reply) (b : Bool)
    → cond b (reply_on (command_of trace i) (cache_after trace pages (before_first (is_done i) journal))) None ≡ Some reply → IsReplied trace pages i journal reply
where-done trace pages i journal reply true e =
    on-replied trace pages i journal reply (command_of trace i) (cache_after trace pages (before_first (is_done i) journal)) refl refl e
where-done trace pages i journal reply false e = cc

pub replied : (trace : Trace) (pages i : ℕ) (journal : List Entry) (reply : Reply) → reply_at trace pages journal i ≡ Some reply → IsReplied trace pages i journal reply
replied trace pages i journal reply e = where-done trace pages i journal reply (list_any (is_done i) journal) e
