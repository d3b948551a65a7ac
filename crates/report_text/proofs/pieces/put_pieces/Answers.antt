use Rattle.std.proofs.Common.{◌≡◌, ◌+◌, ◌≤◌, length, subst, arith}
use Rattle.text_lemmas.specs.Writing.{Writes}
use Rattle.report_text.specs.inside.Pieces.{begins}
use Rattle.text_lemmas.proofs.Written.{Writes-exit}
use Rattle.report_text.proofs.Rounds.{begins-order, begins-past, piece_lines}
use Rattle.report_text.proofs.Stretches.{Lines-next, Lines-broken}
use Rattle.report_text.proofs.LineTexts.{answer_line}
use Rattle.report_text.proofs.pieces.put_pieces.Goals as goal

pub loop-piece-preserved : goal.loop-piece-preserved
loop-piece-preserved g c = λ start answers round logged.
    let n = length c.args.run.now.trace.now.commands in
    let k = c.loop-piece.piece-index in
    let piece = c.piece-item.result in
    let here = subst (Writes _ _ _) (piece_lines c.args.run.now.trace.now start c.args.pieces.now k piece answers c.loop-piece-test.true c.piece-item.is round) (c.in_ok-put_piece.ensures answers logged) in
    Lines-next answer_line answers start (begins n start k) (begins n start (k + 1)) (begins-past n start k round.within) (begins-order n start k (k + 1) (omega arith))
    (c.loop-piece.invariant start answers round logged) here

pub returns-in_err-put_piece : goal.returns-in_err-put_piece
returns-in_err-put_piece g c = λ start answers round logged.
    let n = length c.args.run.now.trace.now.commands in
    let k = c.loop-piece.piece-index in
    let piece = c.piece-item.result in
    let here = subst (Writes _ _ _) (piece_lines c.args.run.now.trace.now start c.args.pieces.now k piece answers c.loop-piece-test.true c.piece-item.is round) (c.in_err-put_piece.ensures answers logged) in
    let last : k + 1 ≤ length c.args.pieces.now = omega (arith, c.loop-piece-test.true) in
    Writes-exit _ c.from_residual.ensures.1
    (Lines-broken answer_line answers start (begins n start k) (begins n start (k + 1)) (begins n start (length c.args.pieces.now)) (begins-past n start k round.within)
    (begins-order n start k (k + 1) (omega arith)) (begins-order n start (k + 1) (length c.args.pieces.now) last) (c.loop-piece.invariant start answers round logged) here)

pub returns : goal.returns
returns g c = λ start answers round logged.
    let k = c.loop-piece.piece-index in
    let last : k ≡ length c.args.pieces.now = omega (arith, c.loop-piece-test.false, c.loop-piece.auto.piece-index-end) in
    rw last at c.loop-piece.invariant start answers round logged
