-- Pieces of the report, each made in memory of its own.
use Rattle.std.specs.Prelude.{◌≡◌, ℕ, ◌+◌, ◌*◌, ◌<◌, ◌≤◌, min, List, length}
use Rattle.std.specs.List.{slice_index_or}
use Rattle.trace_text.specs.Parsed.{Parsed, trace_in}
use Rattle.trace_text.specs.Trace.{Trace}
use Rattle.rows.specs.Apply.{Reply}
use Rattle.cache_model.specs.Logged.{AreLogged}
use Rattle.cache_model.specs.OwnParts.{Log}
use Rattle.cache_model.specs.Report.{line, journal_text}
use Rattle.run_log.specs.JournalState.{JournalState}
use Rattle.report_text.specs.declared.held.Held.{Held}
use Rattle.report_text.specs.declared.pieces.Piece.{Piece}
use Rattle.report_text.specs.declared.stretch.Stretch.{Stretch}
use Rattle.report_text.specs.inside.Places.{ArePlaces}
use Rattle.report_text.specs.inside.Stretches.{answer_lines}
pub use Rattle.report_text.specs.AnswerLines.{piece_commands}

-- where no write failed, the text is the lines of the answers to the commands of a stretch
abbrev pub SaysAnswers : Trace → ℕ → List Log → Stretch → Held → Type 0
SaysAnswers trace n logs stretch held =
    held.faults ≡ 0 → (answers : List (ℕ × Reply)) → AreLogged trace n logs answers → held.bytes.items ≡ answer_lines answers stretch.from stretch.to

-- where no write failed, the text is the line of a shard's journal
abbrev pub SaysJournal : ℕ → JournalState → Held → Type 0
SaysJournal shard journal held = held.faults ≡ 0 → held.bytes.items ≡ line (journal_text (shard, journal.entries))

-- where piece k of a round begins that starts at a command, of so many commands
abbrev pub begins : ℕ → ℕ → ℕ → ℕ
begins commands start k = min (start + k * piece_commands) commands

-- the pieces have the commands from `start` on, one piece behind another
pub record AreRound (trace : Parsed) (start : ℕ) (pieces : List Piece) : Type 0 where
  pub within : start ≤ length trace.commands
  pub from : (k : ℕ) (d : Piece) → k < length pieces → (slice_index_or pieces k d).stretch.from ≡ begins (length trace.commands) start k
  pub to : (k : ℕ) (d : Piece) → k < length pieces → (slice_index_or pieces k d).stretch.to ≡ begins (length trace.commands) start (k + 1)
  pub places : (k : ℕ) (d : Piece) → k < length pieces
      → ArePlaces (trace_in trace) trace.shards (slice_index_or pieces k d).stretch.from (slice_index_or pieces k d).stretch.places
