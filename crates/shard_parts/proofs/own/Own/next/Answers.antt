use Rattle.std.proofs.Common.{Some, sym, ap, ◌∙◌}
use Rattle.std.proofs.lemmas.List.{get_or_default}
use Rattle.rows.specs.Operation.{Operation}
use Rattle.trace_text.specs.Parts.{has_part}
use Rattle.shard_parts.proofs.OwnNext.{all-begun, next-in-log}
use Rattle.part_lemmas.proofs.Cursors.Places.{no_command, no_operation, operation-at}
use Rattle.cache_lemmas.proofs.Laws.{issued_parts_are_counted-count}
use Rattle.shard_parts.proofs.own.Own.next.Goals as goal

pub returns-then-self-commands-clause-some : goal.returns-then-self-commands-clause-some
returns-then-self-commands-clause-some c =
    let value = c.commands-commands.ensures.value in
    let within = rw value at c.if-self-commands.true in
    let trace = c.self.inside.trace.now in
    rw (← c.self.view_is, value)
    (next-in-log issued_parts_are_counted-count _ _ _ _ _ _ no_operation (rw value at c.commands-commands.ensures.numbered) c.self.invariant within
    ∙ ap (λ (x : Operation). Some (x.number, c.self.inside.next.to)) (operation-at trace.bytes trace.commands c.self.inside.next.at no_command no_operation within))

pub returns-then-self-commands-clause-of_trace : goal.returns-then-self-commands-clause-of_trace
returns-then-self-commands-clause-of_trace c =
    let within = rw c.commands-commands.ensures.value at c.if-self-commands.true in
    rw (← c.self.view_is, c.commands-commands.ensures.value)
    (c.self.inside.next.at, within, get_or_default c.self.inside.trace.now.commands c.self.inside.next.at _ no_command within)

pub returns-then-self-commands-clause-has_part : goal.returns-then-self-commands-clause-has_part
returns-then-self-commands-clause-has_part c =
    let within = rw c.commands-commands.ensures.value at c.if-self-commands.true in
    let trace = c.self.inside.trace.now in
    let stands = c.self.invariant in
    rw (← c.self.view_is, c.commands-commands.ensures.value)
    (ap (has_part trace.shards c.self.inside.next.to) (sym (operation-at trace.bytes trace.commands c.self.inside.next.at no_command no_operation within)) ∙ stands.does no_operation within)

pub returns-else-self-commands-clause-none : goal.returns-else-self-commands-clause-none
returns-else-self-commands-clause-none c =
    rw (← c.self.view_is)
    (all-begun issued_parts_are_counted-count _ _ _ _ _ _ c.self.invariant (rw c.commands-commands.ensures.value at c.if-self-commands.false))
