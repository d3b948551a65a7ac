use Rattle.std.proofs.Common.{◌≡◌, ◌≤◌, List, length, refl, sym, ap, ◌∙◌, subst, arith}
use Rattle.trace_text.specs.declared.command.Command.{Command}
use Rattle.text_lemmas.specs.Writing.{Writes}
use Rattle.report_text.specs.inside.Pieces.{begins}
use Rattle.text_lemmas.proofs.Written.{Writes-exit}
use Rattle.report_text.proofs.Places.{answers_for}
use Rattle.report_text.proofs.Rounds.{begins-past, begins-within, round_kept}
use Rattle.report_text.proofs.Stretches.{lines-all, Lines-to, Lines-next, Lines-broken}
use Rattle.report_text.proofs.LineTexts.{answer_line}
use Rattle.cache_lemmas.proofs.Laws.{answers_are_read_by_command-count}
use Rattle.report_text.proofs.side_by_side.put_rounds.Goals as goal

pub loop-from-preserved : goal.loop-from-preserved
loop-from-preserved g c =
    let trace = c.args.run.now.trace.now in
    let n = length trace.commands in
    let from = c.loop-from.from in
    let made = c.make_pieces.new.pieces in
    let many : length made ≡ length c.loop-from.pieces = c.make_pieces.ensures.len ∙ c.begin_round-to.ensures.len in
    let end : begins n from (length made) ≡ c.begin_round-to.result = ap (begins n from) many ∙ sym c.begin_round-to.ensures.next in
    let past : from ≤ c.begin_round-to.result = omega (arith, end, begins-past n from (length made) c.loop-from.invariant.within) in
    let round = round_kept trace from c.begin_round-to.new.pieces made c.make_pieces.ensures.len c.make_pieces.ensures.stretches c.begin_round-to.ensures.round in
    record {
      pieces = omega (arith, many, c.loop-from.invariant.pieces);
      within = omega (arith, end, begins-within n from (length made));
      places = c.begin_round-to.ensures.places_behind;
      added = λ answers logged.
          Lines-next answer_line answers 0 from c.begin_round-to.result (omega arith) past (c.loop-from.invariant.added answers logged)
          (Lines-to answer_line answers from end (c.in_ok-put_pieces.ensures from answers round logged));
    }

pub returns-in_err-put_pieces : goal.returns-in_err-put_pieces
returns-in_err-put_pieces g c = λ answers logged.
    let trace = c.args.run.now.trace.now in
    let n = length trace.commands in
    let from = c.loop-from.from in
    let made = c.make_pieces.new.pieces in
    let round = round_kept trace from c.begin_round-to.new.pieces made c.make_pieces.ensures.len c.make_pieces.ensures.stretches c.begin_round-to.ensures.round in
    let each : length answers ≡ n = answers_for answers_are_read_by_command-count trace c.args.run.now.shards trace.commands c.args.run.now.logs.now answers refl logged in
    Writes-exit _ c.from_residual.ensures.1
    (subst (Writes _ _ _) (lines-all answer_line answers 0 n refl (omega (arith, each)))
    (Lines-broken answer_line answers 0 from (begins n from (length made)) n (omega arith) (begins-past n from (length made) c.loop-from.invariant.within) (begins-within n from (length made))
    (c.loop-from.invariant.added answers logged) (c.in_err-put_pieces.ensures from answers round logged)))

pub returns : goal.returns
returns g c = λ answers logged.
    let trace = c.args.run.now.trace.now in
    let each : length answers ≡ length trace.commands =
    answers_for answers_are_read_by_command-count trace c.args.run.now.shards trace.commands c.args.run.now.logs.now answers refl logged in
    let last = ap (λ (list : List Command). length list) c.commands-commands.ensures.value in
    subst (Writes _ _ _) (lines-all answer_line answers 0 c.loop-from.from refl (omega (arith, each, last, c.loop-from-test.false)))
    (c.loop-from.invariant.added answers logged)
