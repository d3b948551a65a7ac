use Rattle.std.proofs.lemmas.List.{get_or_default}
use Rattle.part_lemmas.proofs.Cursors.Places.{first-left, no_command, no_operation}
use Rattle.shard_parts.proofs.rest.Rest.first.Goals as goal

pub returns-then-self-commands-clause-some : goal.returns-then-self-commands-clause-some
returns-then-self-commands-clause-some c =
    let within = rw c.commands-commands.ensures.value at c.if-self-commands.true in
    rw (← c.self.view_is, c.commands-commands.ensures.value)
    (first-left c.self.inside.trace.now c.self.inside.trace.now.shards c.self.inside.origin c.self.inside.shard c.self.inside.next.at no_command no_operation within (c.self.invariant.here no_operation within))

pub returns-then-self-commands-clause-of_trace : goal.returns-then-self-commands-clause-of_trace
returns-then-self-commands-clause-of_trace c =
    let within = rw c.commands-commands.ensures.value at c.if-self-commands.true in
    rw (← c.self.view_is, c.commands-commands.ensures.value)
    (c.self.inside.next.at, within, get_or_default c.self.inside.trace.now.commands c.self.inside.next.at _ no_command within)
