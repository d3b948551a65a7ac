-- The report of what the shards did.
use Rattle.std.proofs.Common.{◌≡◌, ℕ, ◌+◌, ◌<◌, List, length, map, Option, Some, arith, refl, ◌∙◌}
use Rattle.std.specs.List.{All, enumerate_from, slice_get}
use Rattle.std.specs.Option.{option_map}
use Rattle.std.proofs.lemmas.List.{length-map}
use Rattle.trace_text.specs.Trace.{Trace}
use Rattle.trace_text.specs.Parsed.{IsWellFormed}
use Rattle.cache_model.specs.declared.entry.Entry.{Entry}
use Rattle.rows.specs.declared.reply_kind.ReplyKind.{ReplyKind}
use Rattle.rows.specs.Apply.{Reply}
use Rattle.cache_model.specs.Logged.{AreLogged}
use Rattle.cache_model.specs.Summary.{IsSummaryOf, summary}
use Rattle.cache_model.specs.Report.{IsReportOf, Occupancy, answers, journal_text, occupancy, report, report_of, text_lines}
use Rattle.cache_model.specs.Unbroken.{IsUnbroken}
use Rattle.cache_lemmas.proofs.UnbrokenAnswers.{answers-unbroken}
use Rattle.run_log.specs.Runs.{IsFinished, RanState, journals_in, replies_in}
use Rattle.settings.specs.declared.settings.Settings.{Settings as Found}
use Rattle.settings.specs.Settings.{view}
use Rattle.shardcache.specs.Meanings.{Shown}

-- the laws of answers and of reports, as their functions promise them
pub record ReportLaws : Type 0 where
  pub lines : (answers : List (ℕ × Reply)) (journals : List (List Entry)) (occupancies : List Occupancy) (s : ℕ) → All (λ answer. IsUnbroken answer.1) answers
      → s < length journals
      → slice_get (text_lines (report_of answers journals occupancies)) (length answers + s) ≡ option_map (λ journal. journal_text (s, journal)) (slice_get journals s)
  pub count : (trace : Trace) (n : ℕ) (logs : List (List (Option (ReplyKind × List ℕ)))) (answers : List (ℕ × Reply))
      → AreLogged trace n logs answers → length answers ≡ length trace.operations

-- the report of the journals is legal
pub reported : ReportLaws → (trace : Trace) (n pages : ℕ) (ran : RanState) → All IsWellFormed trace.operations → IsFinished trace n pages ran
    → IsReportOf trace n pages (report trace n pages (journals_in ran.journals)) (journals_in ran.journals)
reported laws trace n pages ran formed run =
    let journals = journals_in ran.journals in
    let list = answers trace n pages journals in
    let occupancies = map (occupancy trace n pages) (enumerate_from 0 journals) in
    let unbroken : All (λ (given : ℕ × Reply). IsUnbroken given.1) list = answers-unbroken trace n pages journals formed in
    let count : length list ≡ length trace.operations = laws.count trace n (replies_in ran.logs) list run.logged in
    let shards : length journals ≡ n = length-map ran.journals (λ journal. journal.entries) ∙ run.journal_each in
    record {
      printed = record { shards = shards; spelled = λ s below. rw (← count) (laws.lines list journals occupancies s unbroken (omega (arith, shards, below))) };
      legal = run.legal;
      complete = run.complete;
      text = refl;
    }

-- ---- what is shown of a run

pub shows_report : ReportLaws → (found : Found) (trace : Trace) (ran : RanState) → All IsWellFormed trace.operations → IsFinished trace found.shards found.pages ran
    → Shown IsReportOf (view found) trace (Some ran) (report trace found.shards found.pages (journals_in ran.journals))
shows_report laws found trace ran formed run =
    (ran, refl, run, reported laws trace found.shards found.pages ran formed run)

pub shows_summary : (found : Found) (trace : Trace) (ran : RanState) → IsFinished trace found.shards found.pages ran
    → Shown IsSummaryOf (view found) trace (Some ran) (summary trace found.shards found.pages (journals_in ran.journals))
shows_summary found trace ran run =
    (ran, refl, run, refl)
