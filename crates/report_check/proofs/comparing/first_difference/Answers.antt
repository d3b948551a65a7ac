-- The lines of the answers are there, and then those of the journals.
use Rattle.std.proofs.Common.{◌≡◌, ℕ, ◌+◌, arith, drop, length, map, Some, refl, sym, ap, ◌∙◌}
use Rattle.std.specs.List.{enumerate_from}
use Rattle.std.proofs.lemmas.List.{length-map}
use Rattle.std.proofs.lemmas.Result.{IfOk-weaker}
use Rattle.trace_text.specs.Parsed.{trace_in}
use Rattle.cache_model.specs.Report.{Occupancy, answer_text, occupancy_text}
use Rattle.cache_lemmas.proofs.Laws.{answers_are_read_by_command-count}
use Rattle.part_lemmas.proofs.Cursors.Places.{length-operations}
use Rattle.run_log.specs.Runs.{occupancies_in, replies_in}
use Rattle.report_check.specs.Lines.{Line, lines_of}
use Rattle.report_check.proofs.AnswerPieces.{lines_for}
use Rattle.report_check.proofs.Differences.{behind-printed, compared-behind}
use Rattle.report_check.proofs.comparing.first_difference.Goals as goal

pub overflow_add-left : goal.overflow_add-left
overflow_add-left c =
    let given = c.requires.answered in
    let one = compared-behind c.args.report.now 1 (lines_for given.0) c.in_ok-left.field-0 c.in-Ok.left c.in-Ok.is (c.in_ok-left.ensures given.0 given.1 given.2) in
    let far = one.shorter in let short = c.requires.short in let few = c.shards.ensures.few in
    omega (arith, far, short, few)

pub shards_differ-requires : goal.shards_differ-requires
shards_differ-requires c =
    let given = c.requires.answered in
    let one = compared-behind c.args.report.now 1 (lines_for given.0) c.in_ok-left.field-0 c.in-Ok.left c.in-Ok.is (c.in_ok-left.ensures given.0 given.1 given.2) in
    let far = one.shorter in let short = c.requires.short in let few = c.shards.ensures.few in let within = c.requires.printed.1.within in
    record { short = omega (arith, far, short, few, within) }

pub returns-in-Ok : goal.returns-in-Ok
returns-in-Ok c =
    let trace = c.args.trace.now in
    let shards = map {B = Line} (λ (one : ℕ × Occupancy). Some (occupancy_text one)) (enumerate_from 0 (occupancies_in c.args.lines.now)) in
    IfOk-weaker c.shards_differ.result _ _
    (λ found is answers printed logged unbroken stands.
    let answered = lines_for answers in
    let one = compared-behind c.args.report.now 1 answered c.in_ok-left.field-0 c.in-Ok.left c.in-Ok.is (c.in_ok-left.ensures answers logged unbroken) in
    let count = answers_are_read_by_command-count (trace_in trace) trace.shards (replies_in c.args.logs.now) answers logged in
    let many = length-operations trace.bytes trace.commands in
    let place : length answered ≡ length trace.commands = length-map answers (λ answer. Some (answer_text answer)) ∙ count ∙ many in
    let value = c.shards.ensures.value in let each = stands.many in
    is ∙ sym (behind-printed c.args.report.now answered (map {B = Line} (λ text. Some text) printed) shards printed c.in-Ok.left (record { bytes = c.args.behind; line = c.in-Ok.left.line + c.shards.result }) refl one c.args.behind.now
    (ap (λ (k : ℕ). drop k (lines_of c.args.report.now)) place ∙ stands.lines) refl (omega (arith, value, each))))
    c.shards_differ.ensures
