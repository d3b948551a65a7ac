-- What goes to other shards or comes from them is lent for.
use Rattle.std.proofs.Common.{arith}
use Rattle.trace_text.specs.Parsed.{trace_in}
use Rattle.report_check.proofs.LentParts.{lent-counted}
use Rattle.report_check.proofs.logs.lent_by.Goals as goal

pub overflow_mul-result : goal.overflow_mul-result
overflow_mul-result c =
    let needs = c.needs-needs in
    let all = lent-counted (trace_in c.args.trace.now) c.shards.result c.args.trace.now.shards c.args.shard needs.result.own_parts needs.result.here_parts c.own_commands.result
    c.shards.ensures.value c.requires needs.ensures.issued needs.ensures.done_here c.own_commands.ensures in
    omega (arith, all)

pub overflow_sub-result : goal.overflow_sub-result
overflow_sub-result c =
    let needs = c.needs-needs in
    let all = lent-counted (trace_in c.args.trace.now) c.shards.result c.args.trace.now.shards c.args.shard needs.result.own_parts needs.result.here_parts c.own_commands.result
    c.shards.ensures.value c.requires needs.ensures.issued needs.ensures.done_here c.own_commands.ensures in
    omega (arith, all)

pub returns : goal.returns
returns c =
    let needs = c.needs-needs in
    let all = lent-counted (trace_in c.args.trace.now) c.shards.result c.args.trace.now.shards c.args.shard needs.result.own_parts needs.result.here_parts c.own_commands.result
    c.shards.ensures.value c.requires needs.ensures.issued needs.ensures.done_here c.own_commands.ensures in
    omega (arith, all)
