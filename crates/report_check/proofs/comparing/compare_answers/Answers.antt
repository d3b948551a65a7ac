-- A piece more is the same, or a line of it is the first that differs.
use Rattle.std.proofs.Common.{◌≡◌, ◌≤◌, length, arith, sym, ap, ◌∙◌}
use Rattle.trace_text.specs.Parsed.{Parsed, trace_in}
use Rattle.cache_lemmas.proofs.Laws.{answers_are_read_by_command-count}
use Rattle.part_lemmas.proofs.Cursors.Places.{length-operations}
use Rattle.run_log.specs.Runs.{replies_in}
use Rattle.report_text.specs.AnswerLines.{answer_lines}
use Rattle.report_check.proofs.AnswerPieces.{all-behind, logged-in, piece-behind, piece-differs}
use Rattle.report_check.proofs.Written.{added, on-ok}
use Rattle.report_check.proofs.comparing.compare_answers.Goals as goal

pub compare-requires : goal.compare-requires
compare-requires c = record {
  short = let given = c.requires.answered in let far = (c.loop-lines.invariant.so_far given.0 given.1 given.2).shorter in let short = c.requires.short in omega (arith, far, short);
}

pub loop-lines-preserved : goal.loop-lines-preserved
loop-lines-preserved c =
    let l = c.loop-lines in let i = l.invariant in let e = c.write_next.ensures in let next = c.write_next.new.self in
    let up : l.lines.given ≤ next.given =
    (let given = e.given in let many = ap (λ (t : Parsed). length t.commands) i.trace in let all = ap length c.commands-commands.ensures.value in
    let is = c.given.ensures in let below = c.loop-lines-test.true in omega (arith, given, many, all, is, below)) in
    record {
      trace = e.trace ∙ i.trace;
      shards = e.shards ∙ i.shards;
      logs = e.logs ∙ i.logs;
      so_far = λ answers logged unbroken.
          let text-is : c.bytes.result.now ≡ answer_lines answers l.lines.given next.given =
          c.bytes.ensures
          ∙ added c.clear.new.self.bytes.items c.write_next.new.sink.bytes.items (answer_lines answers l.lines.given next.given) c.clear.ensures
          (on-ok c.write_next.result (sym c.in_ok-map_err.ensures.variant) e.written answers (logged-in l.lines c.args.trace.now c.args.logs.now answers i.trace i.shards i.logs logged)) in
          piece-behind c.args.report.now answers unbroken l.lines.given next.given up c.bytes.result.now text-is l.left (i.so_far answers logged unbroken) c.in-Ok.behind c.in-Ok.ensures;
    }

pub returns-in-Err : goal.returns-in-Err
returns-in-Err c =
    let l = c.loop-lines in let i = l.invariant in let e = c.write_next.ensures in let next = c.write_next.new.self in
    let up : l.lines.given ≤ next.given =
    (let given = e.given in let many = ap (λ (t : Parsed). length t.commands) i.trace in let all = ap length c.commands-commands.ensures.value in
    let is = c.given.ensures in let below = c.loop-lines-test.true in omega (arith, given, many, all, is, below)) in
    λ answers logged unbroken.
    let text-is : c.bytes.result.now ≡ answer_lines answers l.lines.given next.given =
    c.bytes.ensures
    ∙ added c.clear.new.self.bytes.items c.write_next.new.sink.bytes.items (answer_lines answers l.lines.given next.given) c.clear.ensures
    (on-ok c.write_next.result (sym c.in_ok-map_err.ensures.variant) e.written answers (logged-in l.lines c.args.trace.now c.args.logs.now answers i.trace i.shards i.logs logged)) in
    piece-differs c.args.report.now answers unbroken l.lines.given next.given up c.bytes.result.now text-is l.left (i.so_far answers logged unbroken) c.in-Err.line c.in-Err.ensures

pub returns : goal.returns
returns c =
    let l = c.loop-lines in let trace = c.args.trace.now in
    λ answers logged unbroken.
    let count = answers_are_read_by_command-count (trace_in trace) trace.shards (replies_in c.args.logs.now) answers logged in
    let many = length-operations trace.bytes trace.commands in
    let all = ap length c.commands-commands.ensures.value in
    let is = c.given.ensures in let end = c.loop-lines-test.false in
    all-behind c.args.report.now answers l.lines.given l.left (omega (arith, count, many, all, is, end)) (l.invariant.so_far answers logged unbroken)
