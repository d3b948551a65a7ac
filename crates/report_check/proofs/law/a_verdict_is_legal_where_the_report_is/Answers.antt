-- Legal is said of legal reports, and of each.
use Rattle.std.proofs.Common.{◌<◌, ◌^◌, arith, length}
use Rattle.trace_text.specs.Parsed.{trace_in}
use Rattle.part_lemmas.proofs.Cursors.Places.{length-operations, numbered}
use Rattle.report_check.proofs.LegalReports.{said-legal}
use Rattle.report_check.proofs.Verdicts.{legal}
use Rattle.report_check.proofs.law.a_verdict_is_legal_where_the_report_is.Goals as goal

pub returns-clause-legal : goal.returns-clause-legal
returns-clause-legal c = λ trace pages bytes read formed said.
    legal c.numbers_are_spelled_once.ensures.once (trace_in trace) trace.shards pages bytes formed said

pub returns-clause-report : goal.returns-clause-report
returns-clause-report c = λ trace pages bytes read formed is.
    let many = length-operations trace.bytes trace.commands in
    let most = read.spelled.few in
    let few : length (trace_in trace).operations < 2 ^ 32 = omega (arith, many, most) in
    said-legal c.numbers_are_spelled_once.ensures.spelled (trace_in trace) trace.shards pages bytes formed (numbered trace.bytes trace.commands read.spelled.numbered) few is
