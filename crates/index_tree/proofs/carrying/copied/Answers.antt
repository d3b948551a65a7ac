use Rattle.index_tree.proofs.carrying.copied.Goals as goal

pub returns : goal.returns
returns c = c.in-Ok.ensures.1.same
