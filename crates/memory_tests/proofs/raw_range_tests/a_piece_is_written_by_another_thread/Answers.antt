use Rattle.std.proofs.Common.{◌≡◌, length, ap, arith}
use Rattle.memory_tests.proofs.raw_range_tests.a_piece_is_written_by_another_thread.Goals as goal

pub take-piece-requires-clause-disjoint : goal.take-piece-requires-clause-disjoint
take-piece-requires-clause-disjoint g c =
    λ k d within. absurd (let none : length c.in_ok-range.range.allocated ≡ 0 = ap length c.in_ok-range.ensures.none_allocated in omega arith)
