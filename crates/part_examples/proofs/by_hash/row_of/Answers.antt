use Rattle.part_examples.proofs.by_hash.row_of.Goals as goal

pub returns-in-Ok : goal.returns-in-Ok
returns-in-Ok g c = (c.in-Ok.ensures.0.has, c.in-Ok.ensures.1)
