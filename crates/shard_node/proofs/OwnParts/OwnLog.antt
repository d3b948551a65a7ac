-- The parts that a consistent shard issues, and the commands of its trace.
use Rattle.std.proofs.Common.{◌≡◌, ℕ, ◌*◌, ◌<◌, ◌≤◌, length, slice_get, Some, arith, sym, ap, ◌∙◌}
use Rattle.std.specs.List.{Contains}
use Rattle.std.proofs.lemmas.Option.{slice_get_within}
use Rattle.trace_text.specs.declared.command.Command.{Command}
use Rattle.trace_text.specs.Operation.{operation}
use Rattle.trace_text.specs.Parsed.{Parsed, trace_in}
use Rattle.trace_text.specs.Parts.{most_shards}
use Rattle.trace_text.specs.Reading.{most_commands}
use Rattle.cache_model.specs.OwnParts.{issued_parts}
use Rattle.shard_node.specs.declared.shard.Shard.{Shard}
use Rattle.shard_parts.specs.Own.{own_log}
use Rattle.shard_node.specs.inside.Shards.{issued_by, IsConsistent}
use Rattle.cache_lemmas.proofs.Laws.{issued_parts_are_counted-count, parts_go_up_by_command-most}
use Rattle.part_lemmas.proofs.OwnParts.IssuedParts.{few-parts, place-end}
use Rattle.part_lemmas.proofs.Cursors.Places.{length-operations, operation-at}

-- its own parts are those that it issues
pub own-log-is : {L G : Type 0} (shard : Shard L G) → IsConsistent shard → own_log shard.own ≡ issued_by shard
own-log-is shard x =
    ap (λ (trace : Parsed). issued_parts (trace_in trace) trace.shards shard.own.shard) x.own.own_trace
    ∙ ap (λ n. issued_parts (trace_in shard.trace.now) n shard.own.shard) (sym x.parsed_for)
    ∙ ap (issued_parts (trace_in shard.trace.now) shard.shards) x.own.own_shard

-- no more of them were begun than there are, and they are few
pub begun-within : {L G : Type 0} (shard : Shard L G) → IsConsistent shard → shard.own.begun ≤ length (own_log shard.own)
begun-within shard x =
    let same = ap length (own-log-is shard x) in
    let begun = x.begun in
    omega (arith, same, begun)

pub few-begun : {L G : Type 0} (shard : Shard L G) → IsConsistent shard → shard.own.begun ≤ most_commands * most_shards
few-begun shard x =
    let trace = shard.trace.now in
    let below = x.within in
    let most = x.read.most_shards in
    let parsed = x.parsed_for in
    let many = length-operations trace.bytes trace.commands in
    let all = few-parts parts_go_up_by_command-most trace shard.shards shard.shard 0 (length trace.commands) (omega (arith, below)) (omega (arith, most, parsed)) x.read.spelled.few in
    let end = place-end issued_parts_are_counted-count trace shard.shards shard.shard 0 (length trace.commands) (omega (arith, many)) in
    let begun = x.begun in
    omega (arith, all, end, begun)

-- one that is next was not begun
pub next-is-left : {L G : Type 0} (shard : Shard L G) (part : ℕ × ℕ) → IsConsistent shard → slice_get (issued_by shard) shard.own.begun ≡ Some part
    → shard.own.begun < length (own_log shard.own)
next-is-left shard part x next =
    let within = slice_get_within (issued_by shard) shard.own.begun part next in
    let same = ap length (own-log-is shard x) in
    omega (arith, within, same)

-- a command of a trace asks one of the trace's operations
pub operation-there : (trace : Parsed) (command : Command) → Contains trace.commands command → Contains (trace_in trace).operations (operation trace.bytes command)
operation-there trace command there =
    let many = length-operations trace.bytes trace.commands in
    let within = there.1 in (
      there.0,
      omega (arith, many, within),
      operation-at trace.bytes trace.commands there.0 command (operation trace.bytes command) there.1 ∙ ap (operation trace.bytes) there.2,
    )
