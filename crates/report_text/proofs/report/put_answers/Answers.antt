use Rattle.std.proofs.Common.{◌≡◌, ◌≤◌, length, refl, subst, arith}
use Rattle.text_lemmas.specs.Writing.{Writes}
use Rattle.report_text.proofs.Places.{answers_for}
use Rattle.report_text.proofs.Stretches.{lines-all}
use Rattle.report_text.proofs.LineTexts.{answer_line}
use Rattle.cache_lemmas.proofs.Laws.{answers_are_read_by_command-count}
use Rattle.report_text.proofs.report.put_answers.Goals as goal

pub returns : goal.returns
returns g c = λ answers logged.
    let all = c.all_commands in
    let each : length answers ≡ length c.args.run.now.trace.now.commands =
    answers_for answers_are_read_by_command-count c.args.run.now.trace.now c.args.run.now.shards c.args.run.now.trace.now.commands c.args.run.now.logs.now answers refl logged in
    let past : length answers ≤ all.result.to = omega (arith, each, all.ensures.to) in
    subst (Writes _ _ _) (lines-all answer_line answers all.result.from all.result.to all.ensures.from past) (c.put_stretch.ensures answers logged)
