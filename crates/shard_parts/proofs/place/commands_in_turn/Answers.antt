use Rattle.std.proofs.Common.{arith}
use Rattle.part_lemmas.proofs.OwnParts.PartsBefore.{few-before, next-of-it, none-first}
use Rattle.cache_lemmas.proofs.Laws.{parts_go_up_by_command-next, parts_go_up_by_command-most}
use Rattle.shard_parts.proofs.place.commands_in_turn.Goals as goal

pub returns-clause-first : goal.returns-clause-first
returns-clause-first c o below =
    none-first parts_go_up_by_command-next c.args.trace.now c.args.trace.now.shards o (rw c.commands.ensures.value at c.commands.ensures.numbered) below

pub returns-clause-next : goal.returns-clause-next
returns-clause-next c o at d here within =
    next-of-it parts_go_up_by_command-next c.args.trace.now c.args.trace.now.shards o at d (rw c.commands.ensures.value at c.commands.ensures.numbered) c.commands.ensures.some_shards here within

pub returns-clause-most : goal.returns-clause-most
returns-clause-most c o at within =
    let few = rw c.commands.ensures.value at c.commands.ensures.few in
    few-before parts_go_up_by_command-most c.args.trace.now c.args.trace.now.shards o at c.commands.ensures.some_shards c.commands.ensures.most_shards (omega (arith, few, within))
