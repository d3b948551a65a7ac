use Rattle.std.proofs.Common.{◌≡◌, [], length, ap, arith}
use Rattle.part_examples.proofs.tests.pieces.piece.Goals as goal

pub take-requires-clause-disjoint : goal.take-requires-clause-disjoint
take-requires-clause-disjoint c k d w =
    let none : c.in_ok-range.range.allocated ≡ [] = c.in_ok-range.ensures.none_allocated in absurd (omega (arith, w, ap length none))

pub returns : goal.returns
returns c = ap (λ p. p.len) c.take.ensures.extent
