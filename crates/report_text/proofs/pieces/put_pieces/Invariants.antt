-- The lines of the pieces so far were added.
use Rattle.std.proofs.Common.{ℕ, List, length}
use Rattle.rows.specs.Apply.{Reply}
use Rattle.cache_model.specs.Logged.{AreLogged}
use Rattle.trace_text.specs.Parsed.{trace_in}
use Rattle.report_text.specs.Views.{replies_in}
use Rattle.report_text.specs.inside.Pieces.{AreRound, begins}
use Rattle.report_text.specs.inside.Stretches.{answer_lines}
use Rattle.report_text.proofs.Outputs.{Added}
use Rattle.report_text.proofs.pieces.put_pieces.Given as goal

abbrev pub invariant-loop-piece : goal.invariant-loop-piece
invariant-loop-piece g l =
    (start : ℕ) (answers : List (ℕ × Reply)) → AreRound l.run.trace.now start l.pieces → AreLogged (trace_in l.run.trace.now) l.run.shards (replies_in l.run.logs.now) answers →
    Added l.fn.writer l.writer
    (answer_lines answers start (begins (length l.run.trace.now.commands) start l.piece-index))
