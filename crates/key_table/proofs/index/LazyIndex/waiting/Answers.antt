use Rattle.std.proofs.Common.{arith}
use Rattle.key_table.proofs.index.LazyIndex.waiting.Goals as goal

pub overflow_cast-result : goal.overflow_cast-result
overflow_cast-result c =
    let few = c.self.invariant.few in
    let small = c.self.invariant.small in
    let is = c.len.ensures in
    omega (arith, few, small, is)
