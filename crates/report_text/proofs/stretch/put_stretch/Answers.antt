use Rattle.std.proofs.Common.{◌≡◌, ◌+◌, ◌<◌, ◌≤◌, get_or, length, refl, sym, subst, arith}
use Rattle.trace_text.specs.declared.command.Command.{Command}
use Rattle.rows.specs.declared.kind.Kind.TheVariants.{Put}
use Rattle.trace_text.specs.Parsed.{trace_in}
use Rattle.trace_text.specs.Parts.{longest_value}
use Rattle.rows.specs.Apply.{Stored}
use Rattle.text_lemmas.specs.Writing.{Writes}
use Rattle.text_lemmas.proofs.Written.{Writes-exit}
use Rattle.report_text.proofs.Places.{answers_for, read_for}
use Rattle.report_text.proofs.Stretches.{lines-one, Lines-next, Lines-broken}
use Rattle.report_text.proofs.LineTexts.{answer_line}
use Rattle.cache_lemmas.proofs.Laws.{answers_are_read_by_command-count}
use Rattle.report_text.proofs.stretch.put_stretch.Goals as goal

abbrev none : Command
none = record { number = 0; line = 0; kind = Put; table = 0; key = record { start = 0; len = 0 }; value = record { start = 0; len = 0 }; count = 0 }

pub put_answer-requires-clause-read : goal.put_answer-requires-clause-read
put_answer-requires-clause-read g c =
    let all = c.requires.answered in
    let k = c.commands-commands in
    let r = c.next_replies-first in
    let i = c.loop-index.index in (
      c.args.run.now.trace.now.bytes,
      longest_value (trace_in c.args.run.now.trace.now),
      get_or all.0 i (0, Stored),
      read_for c.args.run.now.trace.now c.args.run.now.shards i r.result.1 k.result.now c.args.run.now.logs.now
          r.result.0.now all.0 none (0, Stored) c.args.run.now.parsed_for k.ensures.value r.ensures.read all.1,
    )

pub loop-index-preserved : goal.loop-index-preserved
loop-index-preserved g c = record {
  from = omega (arith, c.loop-index.invariant.from);
  to = omega (arith, c.loop-index-test.true);
  places = c.next_replies-first.ensures.places_behind;
  added = λ answers logged.
      let k = c.commands-commands in
      let r = c.next_replies-first in
      let i = c.loop-index.index in
      let each : length answers ≡ length c.args.run.now.trace.now.commands =
      answers_for answers_are_read_by_command-count c.args.run.now.trace.now c.args.run.now.shards c.args.run.now.trace.now.commands c.args.run.now.logs.now answers refl logged in
      let within : i < length answers = omega (arith, c.loop-index-test.true, c.requires.stretch.within, each) in
      let read = read_for c.args.run.now.trace.now c.args.run.now.shards i r.result.1 k.result.now c.args.run.now.logs.now r.result.0.now answers none (0, Stored) c.args.run.now.parsed_for k.ensures.value r.ensures.read logged in
      let next : i ≤ i + 1 = omega arith in
      Lines-next answer_line answers c.args.stretch.now.from i (i + 1) c.loop-index.invariant.from next (c.loop-index.invariant.added answers logged)
      (subst (Writes _ _ _) (sym (lines-one answer_line answers i (0, Stored) within))
      (c.in_ok-put_answer.ensures c.args.run.now.trace.now.bytes (longest_value (trace_in c.args.run.now.trace.now)) (get_or answers i (0, Stored)) read));
}

pub returns-in_err-put_answer : goal.returns-in_err-put_answer
returns-in_err-put_answer g c = λ answers logged.
    let k = c.commands-commands in
    let r = c.next_replies-first in
    let i = c.loop-index.index in
    let each : length answers ≡ length c.args.run.now.trace.now.commands =
    answers_for answers_are_read_by_command-count c.args.run.now.trace.now c.args.run.now.shards c.args.run.now.trace.now.commands c.args.run.now.logs.now answers refl logged in
    let within : i < length answers = omega (arith, c.loop-index-test.true, c.requires.stretch.within, each) in
    let read = read_for c.args.run.now.trace.now c.args.run.now.shards i r.result.1 k.result.now c.args.run.now.logs.now r.result.0.now answers none (0, Stored) c.args.run.now.parsed_for k.ensures.value r.ensures.read logged in
    let next : i ≤ i + 1 = omega arith in
    let below : i + 1 ≤ c.args.stretch.now.to = omega (arith, c.loop-index-test.true) in
    Writes-exit _ c.from_residual.ensures.1
    (Lines-broken answer_line answers c.args.stretch.now.from i (i + 1) c.args.stretch.now.to c.loop-index.invariant.from next below (c.loop-index.invariant.added answers logged)
    (subst (Writes _ _ _) (sym (lines-one answer_line answers i (0, Stored) within))
    (c.in_err-put_answer.ensures c.args.run.now.trace.now.bytes (longest_value (trace_in c.args.run.now.trace.now)) (get_or answers i (0, Stored)) read)))

pub returns : goal.returns
returns g c = λ answers logged.
    let i = c.loop-index.index in
    let last : i ≡ c.args.stretch.now.to = omega (arith, c.loop-index-test.false, c.loop-index.invariant.to) in
    rw last at c.loop-index.invariant.added answers logged
