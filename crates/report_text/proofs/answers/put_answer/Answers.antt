use Rattle.std.proofs.Common.{ℕ, ap, subst, sym}
use Rattle.trace_text.specs.Operation.{operation}
use Rattle.text_lemmas.specs.Writing.{Writes}
use Rattle.report_text.proofs.Answered.{answer-pair, read_joined, read_one}
use Rattle.report_text.proofs.LineTexts.{answer_line}
use Rattle.cache_lemmas.proofs.Laws.{one_shard_answers_alone-fitting}
use Rattle.report_text.proofs.answers.put_answer.Goals as goal

pub put_scan-requires-clause-replied : goal.put_scan-requires-clause-replied
put_scan-requires-clause-replied g c =
    let some = c.requires.read in
    let p = read_joined some.1 c.args.shards (operation some.0 c.args.command.now) c.args.log.now.replies c.args.first some.2
    (c.is_joined.ensures.joined c.if-is_joined.true) c.requires.few some.3 in
    (p.lists, p.found)

pub returns-then-is_joined : goal.returns-then-is_joined
returns-then-is_joined g c = λ bytes longest answer read.
    let p = read_joined longest c.args.shards (operation bytes c.args.command.now) c.args.log.now.replies c.args.first answer
    (c.is_joined.ensures.joined c.if-is_joined.true) c.requires.few read in
    subst (Writes _ _ _) (ap answer_line (answer-pair answer _ _ read.number p.joined)) (c.put_scan.ensures p.lists p.found)

pub put_one-requires : goal.put_one-requires
put_one-requires g c =
    let some = c.requires.read in
    let p = read_one one_shard_answers_alone-fitting some.1 c.args.shards (operation some.0 c.args.command.now) c.args.log.now.replies c.args.first some.2
    (c.is_joined.ensures.alone c.if-is_joined.false) some.3 in
    record { answered = (some.2.1, p.legal, p.recorded) }

pub returns-else-is_joined : goal.returns-else-is_joined
returns-else-is_joined g c = λ bytes longest answer read.
    let p = read_one one_shard_answers_alone-fitting longest c.args.shards (operation bytes c.args.command.now) c.args.log.now.replies c.args.first answer
    (c.is_joined.ensures.alone c.if-is_joined.false) read in
    subst (Writes _ _ _) (ap (λ (n : ℕ). answer_line (n, answer.1)) (sym read.number)) (c.put_one.ensures answer.1 p.recorded p.legal)
