use Rattle.part_examples.proofs.lent.lend_piece.Goals as goal

pub returns-clause-lent : goal.returns-clause-lent
returns-clause-lent c = c.lend.ensures.block.piece_is
