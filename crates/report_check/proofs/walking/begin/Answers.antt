-- The cache is empty, and no command is passed.
use Rattle.std.proofs.Common.{◌&&◌, ◌==◌, arith}
use Rattle.std.proofs.lemmas.List.Sums.{count_by-le-length}
use Rattle.rows.specs.Operation.{Operation, is_put}
use Rattle.trace_text.specs.Parsed.{trace_in}
use Rattle.trace_text.specs.Parts.{owner}
use Rattle.part_lemmas.proofs.Cursors.Places.{length-operations}
use Rattle.report_check.proofs.Begun.{walk-begins}
use Rattle.report_check.proofs.walking.begin.Goals as goal

pub new-requires-clause-puts : goal.new-requires-clause-puts
new-requires-clause-puts c =
    let trace = c.args.trace.now in
    let most = count_by-le-length (λ (x : Operation). is_put x.kind && owner x.key.bytes c.shards.result == c.args.shard) (trace_in trace).operations in
    let many = length-operations trace.bytes trace.commands in
    let puts = c.needs-puts.ensures.here_puts in
    let few = c.shards.ensures.consistent.spelled.few in
    omega (arith, most, many, puts, few)

pub returns : goal.returns
returns c = walk-begins c.args.trace.now c.args.pages c.args.shard c.regions.result _ c.in_ok-cache.ensures c.regions.ensures.value c.in_ok-rests.ensures
