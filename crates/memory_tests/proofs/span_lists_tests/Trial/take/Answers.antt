use Rattle.std.proofs.Common.{arith}
use Rattle.memory_tests.proofs.Taken.{noted, past_the_table}
use Rattle.memory_tests.proofs.span_lists_tests.Trial.take.Goals as goal

pub invariant_of-self-then-first-len : goal.invariant_of-self-then-first-len
invariant_of-self-then-first-len c =
    let below = c.if-first-len.true in
    noted c.self.inside.spans c.take.new.self c.self.inside.taken.items c.in_ok-first.first c.args.order (omega arith) c.in_ok-first.ensures.allocated c.self.invariant

pub invariant_of-self-else-first-len : goal.invariant_of-self-else-first-len
invariant_of-self-else-first-len c =
    let found = c.in_ok-first.ensures in
    past_the_table c.self.inside.spans c.take.new.self c.self.inside.taken.items c.in_ok-first.first c.args.order found.was_free found.allocated c.self.invariant
