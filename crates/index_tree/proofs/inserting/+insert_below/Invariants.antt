use Rattle.index_tree.proofs.inserting.+insert_below.Given as goal

abbrev pub decreases-insert_below : goal.decreases-insert_below
decreases-insert_below l = l.level
