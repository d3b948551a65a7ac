use Rattle.std.proofs.Common.{arith}
use Rattle.shard_parts.proofs.OwnNext.{few-begun, some-left}
use Rattle.part_lemmas.proofs.OwnParts.PartsBefore.{few-before}
use Rattle.cache_lemmas.proofs.Laws.{issued_parts_are_counted-count, parts_go_up_by_command-most}
use Rattle.shard_parts.proofs.own.Own.pass.Goals as goal

pub part_after-self-inside-requires-clause-within : goal.part_after-self-inside-requires-clause-within
part_after-self-inside-requires-clause-within c =
    some-left issued_parts_are_counted-count _ _ _ _ _ _ c.self.invariant (rw (← c.self.view_is) at c.requires)

pub overflow_add-self : goal.overflow_add-self
overflow_add-self c =
    let stands = c.self.invariant in
    let within = some-left issued_parts_are_counted-count _ _ _ _ _ _ stands (rw (← c.self.view_is) at c.requires) in
    let commands = stands.read.spelled.few in
    let before = few-before parts_go_up_by_command-most c.self.inside.trace.now c.self.inside.trace.now.shards c.self.inside.shard c.self.inside.next.at
    stands.read.some_shards stands.read.most_shards (omega (arith, commands, within)) in
    let few = few-begun _ _ _ _ _ _ stands within before in
    omega (arith, few)
