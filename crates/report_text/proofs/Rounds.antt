-- The pieces of a round, and the commands of each.
use Rattle.std.proofs.Common.{◌≡◌, ℕ, ◌+◌, ◌<◌, ◌≤◌, List, length, get_or, ap, sym, ◌∙◌, subst, arith}
use Rattle.trace_text.specs.Parsed.{Parsed, trace_in}
use Rattle.rows.specs.Apply.{Reply}
use Rattle.report_text.specs.declared.pieces.Piece.{Piece}
use Rattle.report_text.specs.declared.stretch.Stretch.{Stretch}
use Rattle.report_text.specs.inside.Places.{ArePlaces}
use Rattle.report_text.specs.inside.Pieces.{AreRound, begins}
use Rattle.report_text.specs.inside.Stretches.{answer_lines}

pub begins-past : (n start k : ℕ) → start ≤ n → start ≤ begins n start k
begins-past n start k within = omega (arith, within)

pub begins-order : (n start k j : ℕ) → k ≤ j → begins n start k ≤ begins n start j
begins-order n start k j order = omega (arith, order)

pub begins-within : (n start k : ℕ) → begins n start k ≤ n
begins-within n start k = omega arith

-- the commands of piece k of a round that starts at a command
pub record IsPieceAt (trace : Parsed) (start k : ℕ) (stretch : Stretch) : Type 0 where
  pub from : stretch.from ≡ begins (length trace.commands) start k
  pub to : stretch.to ≡ begins (length trace.commands) start (k + 1)
  pub places : ArePlaces (trace_in trace) trace.shards stretch.from stretch.places

piece_at : (trace : Parsed) (start : ℕ) (pieces : List Piece) (k : ℕ) (piece : Piece) → k < length pieces → piece ≡ get_or pieces k piece → AreRound trace start pieces
    → IsPieceAt trace start k piece.stretch
piece_at trace start pieces k piece below is round =
    subst (λ (p : Piece). IsPieceAt trace start k p.stretch) (sym is) (record { from = round.from k piece below; to = round.to k piece below; places = round.places k piece below })

-- the lines of its answers
pub piece_lines : (trace : Parsed) (start : ℕ) (pieces : List Piece) (k : ℕ) (piece : Piece) (answers : List (ℕ × Reply)) → k < length pieces → piece ≡ get_or pieces k piece
    → AreRound trace start pieces
    → answer_lines answers piece.stretch.from piece.stretch.to ≡ answer_lines answers (begins (length trace.commands) start k) (begins (length trace.commands) start (k + 1))
piece_lines trace start pieces k piece answers below is round =
    let p = piece_at trace start pieces k piece below is round in
    ap (λ a. answer_lines answers a piece.stretch.to) p.from ∙ ap (λ b. answer_lines answers (begins (length trace.commands) start k) b) p.to

-- the pieces keep their commands while they are made
pub round_kept : (trace : Parsed) (start : ℕ) (old new : List Piece) → length new ≡ length old
    → ((k : ℕ) (d : Piece) → k < length old → (get_or new k d).stretch ≡ (get_or old k d).stretch) → AreRound trace start old → AreRound trace start new
round_kept trace start old new many same round =
    let kept : (k : ℕ) (d : Piece) → k < length new → IsPieceAt trace start k (get_or new k d).stretch =
    λ k d below.
    let within : k < length old = omega (arith, below, many) in
    subst (IsPieceAt trace start k) (sym (same k d within))
    (record { from = round.from k d within; to = round.to k d within; places = round.places k d within }) in
    record {
      within = round.within;
      from = λ k d below. (kept k d below).from;
      to = λ k d below. (kept k d below).to;
      places = λ k d below. (kept k d below).places;
    }
