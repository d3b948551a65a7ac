use Rattle.std.proofs.Common.{suc, arith, ap, sym, ◌∙◌, ◌<◌, ◌%◌, length}
use Rattle.trace_text.specs.Parsed.{trace_in}
use Rattle.cache_model.specs.OwnParts.{parts_before}
use Rattle.part_lemmas.proofs.OwnParts.PartsBefore.{parts-behind}
use Rattle.part_lemmas.proofs.Cursors.Places.{after-first, no_command, no_operation, round}
use Rattle.part_lemmas.proofs.Cursors.Rests.{count-left}
use Rattle.cache_lemmas.proofs.Laws.{issued_parts_are_counted-count, issued_parts_are_counted-peer}
use Rattle.shard_parts.proofs.rest.Rest.pass_on.Goals as goal

pub find-self-inside-requires-clause-origin : goal.find-self-inside-requires-clause-origin
find-self-inside-requires-clause-origin c = ap (λ at. at % c.self.inside.trace.now.shards) c.past-from.ensures.at ∙ round _ _ _ c.self.invariant.origin

pub find-self-inside-requires-clause-before : goal.find-self-inside-requires-clause-before
find-self-inside-requires-clause-before c =
    let value = c.commands_in_turn-commands.ensures.value in
    let within : c.self.inside.next.at < length c.self.inside.trace.now.commands = rw value at c.if-self-commands.true in
    c.past-from.ensures.before no_operation
    ∙ parts-behind c.self.inside.trace.now c.self.inside.trace.now.shards c.self.inside.origin c.self.inside.next.at c.self.inside.next.before no_operation c.commands_in_turn-commands.ensures.next c.self.invariant.shards
    c.self.invariant.origin within c.self.invariant.parts
    ∙ ap (λ at. parts_before (trace_in c.self.inside.trace.now) c.self.inside.trace.now.shards c.self.inside.origin at) (sym c.past-from.ensures.at)

pub returns-then-self-commands-clause-left : goal.returns-then-self-commands-clause-left
returns-then-self-commands-clause-left c =
    let within = rw c.commands_in_turn-commands.ensures.value at c.if-self-commands.true in
    let below = c.self.invariant.shard in
    let further = c.past-from.ensures.at in
    rw (← c.self.view_is)
    (c.find-self-inside.ensures.left (suc c.self.inside.next.at) (omega (arith, further, below)) (omega (arith, further))
    ∙ after-first c.self.inside.trace.now c.self.inside.trace.now.shards c.self.inside.origin c.self.inside.shard c.self.inside.next.at no_command no_operation within (c.self.invariant.here no_operation within))

pub returns-then-self-commands-clause-stood : goal.returns-then-self-commands-clause-stood
returns-then-self-commands-clause-stood c = rw (← c.self.view_is) (count-left issued_parts_are_counted-count issued_parts_are_counted-peer _ _ _ _ _ _ c.self.invariant)

pub returns-else-self-commands-clause-stood : goal.returns-else-self-commands-clause-stood
returns-else-self-commands-clause-stood c = rw (← c.self.view_is) (count-left issued_parts_are_counted-count issued_parts_are_counted-peer _ _ _ _ _ _ c.self.invariant)
