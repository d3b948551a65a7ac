use Rattle.std.proofs.Common.{arith}
use Rattle.small_pools.proofs.ClassFacts.{least_of_all, is_class}
use Rattle.small_pools.proofs.classes.class_of.Goals as goal

pub returns-then-size-le32-clause-some : goal.returns-then-size-le32-clause-some
returns-then-size-le32-clause-some c = least_of_all c.args.size (omega arith)

pub returns-then-size-le32-clause-bounds : goal.returns-then-size-le32-clause-bounds
returns-then-size-le32-clause-bounds c = is_class 0 (omega arith)
