-- One command more was passed.
use Rattle.std.proofs.Common.{Bor, length, arith, sym, ap, ◌∙◌}
use Rattle.std.proofs.lemmas.List.{length-drop, length-map}
use Rattle.rows.specs.Operation.{Operation}
use Rattle.trace_text.specs.declared.command.Command.{Command}
use Rattle.trace_text.specs.Operation.{operation}
use Rattle.trace_text.specs.Parsed.{trace_in}
use Rattle.part_lemmas.specs.Due.{operations_for}
use Rattle.report_check.proofs.Passed.{none-left, some-left}
use Rattle.report_check.proofs.logs.own_commands.Goals as goal

pub loop-rest-init : goal.loop-rest-init
loop-rest-init c = let all = ap length c.of-rest.ensures.left in omega (arith, all)

pub loop-rest-preserved : goal.loop-rest-preserved
loop-rest-preserved c =
    let l = c.loop-rest in
    let all = l.invariant in
    let some = some-left c.first.result (λ (command : Bor Command). operation l.rest.trace.bytes command.now) l.rest.left c.first.ensures.some (sym c.is_some.ensures ∙ c.loop-rest-test.true) in
    let fewer = ap length c.pass.ensures.left in
    let less = length-drop 1 l.rest.left in
    omega (arith, all, some, fewer, less)

pub returns : goal.returns
returns c =
    let l = c.loop-rest in
    let all = l.invariant in
    let none = ap length (none-left c.first.result l.rest.left c.first.ensures.none (sym c.is_some.ensures ∙ c.loop-rest-test.false)) in
    let parts = length-map (operations_for (trace_in c.args.trace.now) c.args.trace.now.shards c.args.shard c.args.shard) (λ (x : Operation). x.number) in
    omega (arith, all, none, parts)
