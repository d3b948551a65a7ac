-- The record of a run, and when the run is finished.
use Rattle.std.specs.Prelude.{◌≡◌, ℕ, ◌+◌, ◌<◌, List, length, map, Option}
use Rattle.std.specs.List.{enumerate_from, slice_index_or}
use Rattle.layout.specs.Sizes.{dense}
use Rattle.trace_text.specs.Trace.{Trace, regions}
use Rattle.rows.specs.Row.{tight_floor}
use Rattle.rows.specs.declared.reply_kind.ReplyKind.{ReplyKind}
use Rattle.cache_model.specs.declared.entry.Entry.{Entry}
use Rattle.cache_model.specs.Legal.{EvictsAbove, IsComplete, IsLegal}
use Rattle.cache_model.specs.Logged.{AreLogged}
use Rattle.cache_model.specs.Report.{Occupancy, answers, occupancy}
use Rattle.run_log.specs.JournalState.{JournalState}
use Rattle.run_log.specs.Replies.{Replies}
use Rattle.run_log.specs.declared.shard_line.ShardLine.{ShardLine}

-- what the nodes left that have finished, in the order of their shards
pub record RanState : Type 0 where
  -- the trace that they worked on, of so many shards with so many pages each
  pub trace : Trace
  pub shards : ℕ
  pub pages : ℕ
  pub journals : List JournalState
  pub logs : List Replies
  pub lines : List ShardLine

-- it is of a run of this trace on n shards of so many pages each
pub record IsOfRun (trace : Trace) (n pages : ℕ) (ran : RanState) : Type 0 where
  pub of_trace : ran.trace ≡ trace
  pub of_shards : ran.shards ≡ n
  pub of_pages : ran.pages ≡ pages

-- what the journals and the logs have
abbrev pub journals_in : List JournalState → List (List Entry)
journals_in journals = map (λ journal. journal.entries) journals

abbrev pub replies_in : List Replies → List (List (Option (ReplyKind × List ℕ)))
replies_in logs = map (λ log. log.replies) logs

-- what a report says of a shard by its line
abbrev pub occupancy_in : ShardLine → Occupancy
occupancy_in line = record { rows = line.rows; live = line.live; lent = line.lent; back = line.back }

abbrev pub occupancies_in : List ShardLine → List Occupancy
occupancies_in lines = map occupancy_in lines

-- All n shards of so many pages each are done with the trace, and this is what they left: a journal, a log and a line of each.
pub record IsFinished (trace : Trace) (n pages : ℕ) (ran : RanState) : Type 0 where
  pub of_run : IsOfRun trace n pages ran
  pub journal_each : length ran.journals ≡ n
  pub log_each : length ran.logs ≡ n
  pub line_each : length ran.lines ≡ n
  -- each journal is legal, and has the parts of its shard, neither more nor fewer
  pub legal : (s : ℕ) (d : List Entry) → s < n → IsLegal trace pages (slice_index_or (journals_in ran.journals) s d)
  pub complete : (s : ℕ) (d : List Entry) → s < n → IsComplete trace n s (slice_index_or (journals_in ran.journals) s d)
  -- the logs have the answers
  pub logged : AreLogged trace n (replies_in ran.logs) (answers trace n pages (journals_in ran.journals))
  -- the lines say what is in the caches to which the journals lead; each shard lent as many blocks as a report says, and all came back
  pub occupied : occupancies_in ran.lines ≡ map (occupancy trace n pages) (enumerate_from 0 (journals_in ran.journals))
  -- one shard evicts nothing but where the live bytes exceed what no lent block leaves, and a dense segment more
  pub evicts : n ≡ 1 → (d : List Entry) → EvictsAbove trace pages (tight_floor pages 0 (regions trace) + dense) (slice_index_or (journals_in ran.journals) 0 d)
