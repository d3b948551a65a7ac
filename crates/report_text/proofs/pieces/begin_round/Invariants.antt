-- The pieces so far have their commands, and the next piece begins behind them.
use Rattle.std.proofs.Common.{◌≡◌, ℕ, ◌<◌, length, get_or}
use Rattle.trace_text.specs.Parsed.{trace_in}
use Rattle.report_text.specs.declared.pieces.Piece.{Piece}
use Rattle.report_text.specs.inside.Pieces.{begins}
use Rattle.report_text.specs.inside.Places.{ArePlaces}
use Rattle.report_text.proofs.Rounds.{IsPieceAt}
use Rattle.report_text.proofs.pieces.begin_round.Given as goal

abbrev pub invariant-loop-k : goal.invariant-loop-k
invariant-loop-k l = record {
  len : length l.pieces ≡ length l.fn.pieces;
  at : l.at ≡ begins (length l.trace.commands) l.from l.k;
  places : ArePlaces (trace_in l.trace) l.trace.shards l.at l.places;
  begun : (k : ℕ) (d : Piece) → k < l.k → IsPieceAt l.trace l.from k (get_or l.pieces k d).stretch;
}
