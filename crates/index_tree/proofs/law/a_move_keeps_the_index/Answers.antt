use Rattle.index_tree.proofs.Moved.{index_moved}
use Rattle.index_tree.proofs.Whole.{tree_moved}
use Rattle.index_tree.proofs.law.a_move_keeps_the_index.Goals as goal

pub returns-clause-tree : goal.returns-clause-tree
returns-clause-tree c = λ nodes t from to room_from room_to far free. tree_moved nodes from to room_from room_to far free t

pub returns-clause-index : goal.returns-clause-index
returns-clause-index c = λ nodes t from to room_from room_to far free tree. index_moved nodes from to room_from room_to far free t tree.rooted
