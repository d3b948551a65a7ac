-- A journal that was walked as far as some entry.
use Rattle.std.specs.Prelude.{◌≡◌, ◌≢◌, ℕ, ◌<◌, Bool, true, false, List, [], ◌∷◌, ◌++◌, length, map, slice_index_or, slice_set, Option, Some, None, Result, Vec, MatchOption, MatchResult}
use Rattle.std.specs.List.{enumerate_from}
use Rattle.std.specs.declared.alloc.Global.{Global}
use Rattle.rows.specs.Apply.{apply}
use Rattle.rows.specs.Operation.{Operation}
use Rattle.rows.specs.Spelled.{spelled}
use Rattle.trace_text.specs.Parsed.{Parsed, trace_in}
use Rattle.trace_text.specs.Parts.{parts}
use Rattle.trace_text.specs.Trace.{regions}
use Rattle.cache_model.specs.declared.entry.Entry.{Entry}
use Rattle.cache_model.specs.Legal.{cache_after}
use Rattle.cache_model.specs.OwnParts.{HoldsReplies, part_reply}
use Rattle.cache_model.specs.Report.{occupancy}
use Rattle.run_log.specs.Replies.{Replies}
use Rattle.run_log.specs.Runs.{occupancies_in, occupancy_in}
use Rattle.run_log.specs.declared.shard_line.ShardLine.{ShardLine}
use Rattle.plain_cache.specs.Cache.{Cache}
use Rattle.part_lemmas.specs.Exchange.{done_for}
use Rattle.part_lemmas.specs.Rest.{RestState}
use Rattle.report_check.specs.Verdict.{is_sound, unsound_line}
use Rattle.report_check.specs.declared.walking.Walk.{Walk}

-- ---- what one step does

-- no command of this number is the next of its origin
abbrev pub NextIsOther : ℕ → RestState → Type 0
NextIsOther number rest = (operation : Operation) (others : List Operation) → rest.left ≡ operation ∷ others → operation.number ≢ number

-- the next command of its origin has this number, and its part was done on the cache, and logged
pub record DoesNext (asked : ℕ) (cache cache' : Cache) (rest rest' : RestState) (log log' : Replies) : Type 0 where
  pub operation : Operation
  pub left : rest.left ≡ operation ∷ rest'.left
  pub number : operation.number ≡ asked
  pub applied : cache' ≡ record cache { rows = (apply operation cache.rows).0 }
  pub logged : log'.replies ≡ slice_set log.replies rest.part (Some (spelled (apply operation cache.rows).1))
  pub trace : rest'.trace ≡ rest.trace
  pub origin : rest'.origin ≡ rest.origin
  pub shard : rest'.shard ≡ rest.shard

-- ---- where a walk stands

-- of the commands that origin o issues to shard s these are left behind the entries
pub record IsRestBehind (trace : Parsed) (s : ℕ) (entries : List Entry) (o : ℕ) (rest : RestState) : Type 0 where
  pub of_trace : rest.trace ≡ trace
  pub origin : rest.origin ≡ o
  pub shard : rest.shard ≡ s
  pub passed : done_for trace.shards o entries ++ map (λ (operation : Operation). operation.number) rest.left ≡ parts (trace_in trace) trace.shards o s

pub record AreRests (trace : Parsed) (s : ℕ) (entries : List Entry) (rests : List RestState) : Type 0 where
  pub many : length rests ≡ trace.shards
  pub each : (o : ℕ) (d : RestState) → o < trace.shards → IsRestBehind trace s entries o (slice_index_or rests o d)

-- the logs hold the replies in these journals, which are those of the first shards, and no others
pub record AreLogs (trace : Parsed) (pages : ℕ) (journals : List (List Entry)) (logs : List Replies) : Type 0 where
  pub many : length logs ≡ trace.shards
  pub each : (o : ℕ) (d : Replies) → o < trace.shards
      → HoldsReplies (trace_in trace) trace.shards o (part_reply (trace_in trace) pages journals) (slice_index_or logs o d).replies

-- the entries of shard s lead to the cache; its number is that of the journals before
pub record StandsBehind (trace : Parsed) (own_pages s : ℕ) (entries : List Entry) (walk : Walk) : Type 0 where
  pub leads : cache_after (trace_in trace) own_pages entries ≡ Some walk.cache.rows
  pub pages : walk.cache.pages ≡ own_pages
  pub regions : walk.cache.regions ≡ regions (trace_in trace)
  pub rests : AreRests trace s entries walk.rests.items

-- the same, and the logs hold the replies in the journals of the shards before and in these entries
pub record StandsOver (trace : Parsed) (pages s : ℕ) (walked : List (List Entry)) (entries : List Entry) (walk : Walk) (replies : List Replies) : Type 0 where
  pub shard : s < trace.shards
  pub before : length walked ≡ s
  pub behind : StandsBehind trace pages s entries walk
  pub logs : AreLogs trace pages (walked ++ entries ∷ []) replies

-- after one entry more it stands behind that, or the entry may not stand there, whatever comes later
abbrev pub Steps : Parsed → ℕ → ℕ → List (List Entry) → List Entry → Entry → Bool → Walk → List Replies → Type 0
Steps trace pages s walked before entry true walk logs = StandsOver trace pages s walked (before ++ entry ∷ []) walk logs
Steps trace pages s walked before entry false walk logs =
    (later : List Entry) → is_sound (trace_in trace) trace.shards pages (s, before ++ entry ∷ later) ≡ false

-- after all entries of a journal it stands behind them, or one of them may not stand where it does
abbrev pub Ends : Parsed → ℕ → ℕ → List (List Entry) → List Entry → Bool → Walk → List Replies → Type 0
Ends trace pages s walked entries true walk logs = StandsOver trace pages s walked entries walk logs
Ends trace pages s walked entries false walk logs = is_sound (trace_in trace) trace.shards pages (s, entries) ≡ false

-- A journal of shard s was walked: it is sound, the logs hold its replies too, and the line says what its cache holds; or it is not.
pub record IsWalked (trace : Parsed) (pages s : ℕ) (walked : List (List Entry)) (entries : List Entry) (replies : List Replies) (written : ShardLine) : Type 0 where
  pub sound : is_sound (trace_in trace) trace.shards pages (s, entries) ≡ true
  pub logs : AreLogs trace pages (walked ++ entries ∷ []) replies
  pub line : occupancy_in written ≡ occupancy (trace_in trace) trace.shards pages (s, entries)

abbrev pub Walks : Parsed → ℕ → ℕ → List (List Entry) → List Entry → List Replies → Option ShardLine → Type 0
Walks trace pages s walked entries logs found =
    MatchOption found (is_sound (trace_in trace) trace.shards pages (s, entries) ≡ false) (IsWalked trace pages s walked entries logs)

-- All journals were walked, and the lines say what their caches hold; or this is the line of the first that is not sound.
pub record AreWalked (trace : Parsed) (pages : ℕ) (journals : List (List Entry)) (replies : List Replies) (written : List ShardLine) : Type 0 where
  pub sound : unsound_line (trace_in trace) trace.shards pages (enumerate_from 0 journals) ≡ None
  pub logs : AreLogs trace pages journals replies
  pub lines : occupancies_in written ≡ map (occupancy (trace_in trace) trace.shards pages) (enumerate_from 0 journals)

abbrev pub WalksAll : Parsed → ℕ → List (List Entry) → List Replies → Result (Vec ShardLine Global) ℕ → Type 0
WalksAll trace pages journals logs result = MatchResult result (λ lines. AreWalked trace pages journals logs lines.items)
    (λ line. unsound_line (trace_in trace) trace.shards pages (enumerate_from 0 journals) ≡ Some line)
