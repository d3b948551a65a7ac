use Rattle.std.proofs.Common.{◌+◌, ◌≤◌, ◌<◌, get_or, length, ap, sym, ◌∙◌, arith}
use Rattle.trace_text.specs.declared.command.Command.{Command}
use Rattle.rows.specs.declared.kind.Kind.TheVariants.{Put}
use Rattle.trace_text.specs.Operation.{operation}
use Rattle.trace_text.specs.Parsed.{trace_in}
use Rattle.trace_text.specs.Parts.{longest_value}
use Rattle.rows.specs.Apply.{Stored}
use Rattle.report_text.specs.inside.Tallies.{with_answer}
use Rattle.report_text.proofs.Answered.{read_kind}
use Rattle.report_text.proofs.Places.{answers_for, read_for}
use Rattle.report_text.proofs.Tallied.{tally_all, tally_next}
use Rattle.cache_lemmas.proofs.Laws.{answers_are_read_by_command-count}
use Rattle.report_text.proofs.tally.tally_of.Goals as goal

abbrev none : Command
none = record { number = 0; line = 0; kind = Put; table = 0; key = record { start = 0; len = 0 }; value = record { start = 0; len = 0 }; count = 0 }

pub kind_at-requires : goal.kind_at-requires
kind_at-requires c =
    let all = c.requires.answered in
    let k = c.commands-index-end in
    let r = c.next_replies-first in
    let i = c.loop-index.index in
    let n = c.args.run.now.shards in
    let some : 1 ≤ n = omega (arith, k.ensures.some_shards, c.args.run.now.parsed_for) in
    let read = read_for c.args.run.now.trace.now n i r.result.1 k.result.now c.args.run.now.logs.now r.result.0.now all.0 none (0, Stored) c.args.run.now.parsed_for k.ensures.value r.ensures.read all.1 in
    let at = read_kind (longest_value (trace_in c.args.run.now.trace.now)) n (operation c.args.run.now.trace.now.bytes (get_or k.result.now i none)) r.result.0.now.replies r.result.1
    (get_or all.0 i (0, Stored)) some read in
    (at.part, at.recorded)

pub loop-index-preserved : goal.loop-index-preserved
loop-index-preserved c = record {
  places = c.next_replies-first.ensures.places_behind;
  many = c.add.ensures.one_more ∙ ap (λ k. k + 1) c.loop-index.invariant.many;
  counted = λ answers logged.
      let k = c.commands-index-end in
      let r = c.next_replies-first in
      let i = c.loop-index.index in
      let n = c.args.run.now.shards in
      let some : 1 ≤ n = omega (arith, k.ensures.some_shards, c.args.run.now.parsed_for) in
      let each = answers_are_read_by_command-count in
      let within : i < length answers =
      omega (arith, c.loop-index-test.true, answers_for each c.args.run.now.trace.now n k.result.now c.args.run.now.logs.now answers k.ensures.value logged) in
      let read = read_for c.args.run.now.trace.now n i r.result.1 k.result.now c.args.run.now.logs.now r.result.0.now answers none (0, Stored) c.args.run.now.parsed_for k.ensures.value r.ensures.read logged in
      let at = read_kind (longest_value (trace_in c.args.run.now.trace.now)) n (operation c.args.run.now.trace.now.bytes (get_or k.result.now i none)) r.result.0.now.replies r.result.1
      (get_or answers i (0, Stored)) some read in
      c.add.ensures.counted (get_or answers i (0, Stored)).1 (c.kind_at.ensures at.part at.recorded ∙ at.same)
      ∙ ap (with_answer (get_or answers i (0, Stored)).1) (c.loop-index.invariant.counted answers logged)
      ∙ sym (tally_next answers i (0, Stored) within);
}

pub returns : goal.returns
returns c = λ answers logged.
    let k = c.commands-index-end in
    let each = answers_are_read_by_command-count in
    let many = answers_for each c.args.run.now.trace.now c.args.run.now.shards k.result.now c.args.run.now.logs.now answers k.ensures.value logged in
    c.loop-index.invariant.counted answers logged ∙ tally_all answers c.loop-index.index (omega (arith, many, c.loop-index-test.false))
