-- The verdict on a report: whether it is a legal one, or which line is the first that says that it is not.
use Rattle.std.specs.Prelude.{ℕ, ◌==◌, ◌+◌, ◌++◌, ◌&&◌, Bool, List, [], ◌∷◌, length, drop, filter, codes, decimal, if◌then◌else◌, is_some, Option, Some, None, Result, Ok, Err}
use Rattle.std.specs.List.{enumerate_from, list_all, range_with_len}
use Rattle.std.specs.Str.{bytes_eq}
use Rattle.trace_text.specs.Parts.{origin, parts}
use Rattle.trace_text.specs.Trace.{Trace}
use Rattle.cache_model.specs.declared.entry.Entry.{Entry}
use Rattle.cache_model.specs.Legal.{cache_after, done}
use Rattle.cache_model.specs.Report.{line, report}
use Rattle.report_check.specs.declared.verdict.Verdict.{Verdict}
use Rattle.report_check.specs.declared.verdict.Verdict.TheVariants.{Legal, Illegal}
use Rattle.report_check.specs.Lines.{Line, first_difference, lines_of}
use Rattle.report_check.specs.Spelled.{journals_of}

-- a test whether a journal is complete for shard s of n: of each origin it has the parts that the shard does, in order
abbrev pub has_parts : Trace → ℕ → ℕ → List Entry → ℕ → Bool
has_parts trace n s journal o = bytes_eq (filter (λ i. origin i n == o) (done journal)) (parts trace n o s)

abbrev pub is_complete : Trace → ℕ → ℕ → List Entry → Bool
is_complete trace n s journal = list_all (has_parts trace n s journal) (range_with_len 0 n)

-- a test whether the journal of a shard is legal and complete
abbrev pub is_sound : Trace → ℕ → ℕ → ℕ × List Entry → Bool
is_sound trace n pages (s, journal) = is_some (cache_after trace pages journal) && is_complete trace n s journal

-- the line of the first journal that is not
abbrev pub unsound_line : Trace → ℕ → ℕ → List (ℕ × List Entry) → Option ℕ
unsound_line trace n pages [] = None
unsound_line trace n pages (journal ∷ journals) =
    if is_sound trace n pages journal then unsound_line trace n pages journals else Some (length trace.operations + journal.0 + 1)

abbrev pub illegal_at : Option ℕ → Verdict → Verdict
illegal_at None later = later
illegal_at (Some line) later = Illegal line

-- a journal that is not legal comes before a line that is not the report's
abbrev pub of_journals : Trace → ℕ → ℕ → List Line → Result (List (List Entry)) ℕ → Verdict
of_journals trace n pages lines (Err line) = Illegal line
of_journals trace n pages lines (Ok journals) =
    illegal_at (unsound_line trace n pages (enumerate_from 0 journals))
    (illegal_at (first_difference 1 lines (lines_of (report trace n pages journals))) Legal)

-- The verdict on bytes as a report of n shards, each with so many pages. The lines of the journals are looked at first, then the
-- journals, and then each line.
abbrev pub verdict : Trace → ℕ → ℕ → List ℕ → Verdict
verdict trace n pages bytes =
    of_journals trace n pages (lines_of bytes)
    (journals_of (length trace.operations) (range_with_len 0 n) (drop (length trace.operations) (lines_of bytes)))

-- what is written of it
abbrev pub verdict_text : Verdict → List ℕ
verdict_text Legal = line (codes "legal")
verdict_text (Illegal number) = line (codes "illegal line " ++ decimal number)
