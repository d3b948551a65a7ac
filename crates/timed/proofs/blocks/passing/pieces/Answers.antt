use Rattle.std.proofs.Common.{◌≡◌, length, ap, arith}
use Rattle.timed.proofs.blocks.passing.pieces.Goals as goal

pub take-piece-requires-clause-disjoint : goal.take-piece-requires-clause-disjoint
take-piece-requires-clause-disjoint c = λ k d within. absurd (let none : length c.in_ok-range.range.allocated ≡ 0 = ap length c.in_ok-range.ensures.none_allocated in omega arith)
