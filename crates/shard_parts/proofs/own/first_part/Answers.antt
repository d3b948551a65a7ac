use Rattle.std.proofs.Common.{◌<◌, length, sym, ◌∙◌}
use Rattle.trace_text.specs.Parsed.{trace_in}
use Rattle.part_lemmas.proofs.OwnParts.IssuedParts.{scans-not}
use Rattle.part_lemmas.proofs.Cursors.Places.{length-operations, no_operation}
use Rattle.shard_parts.proofs.own.first_part.Goals as goal

pub returns-then-not-is_scan-clause-first : goal.returns-then-not-is_scan-clause-first
returns-then-not-is_scan-clause-first c =
    let trace = c.args.trace.now in
    let ops = (trace_in trace).operations in
    let inside : c.args.at < length trace.commands = rw c.commands_in_turn-commands.ensures.value at c.if-at-commands.true in
    let within : c.args.at < length ops = rw (length-operations trace.bytes trace.commands) inside in
    scans-not ops _ c.args.at no_operation within (sym (c.is_scan.ensures no_operation) ∙ c.if-not-is_scan.true)
