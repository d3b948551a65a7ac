use Rattle.std.proofs.Common.{◌≡◌, length, ap, arith}
use Rattle.part_examples.proofs.tests.piece_of.Goals as goal

pub take-requires-clause-disjoint : goal.take-requires-clause-disjoint
take-requires-clause-disjoint c = λ k d within. absurd (let none : length c.in_ok-range.range.allocated ≡ 0 = ap length c.in_ok-range.ensures.none_allocated in omega arith)
