use Rattle.foreign_list.specs.Blocks.{piece_id_of}
use Rattle.foreign_list.proofs.foreign.Foreign.lend.Given as goal

abbrev pub ghosts-split : goal.ghosts-split
ghosts-split a = record { ticket = a.ticket; piece_id = piece_id_of a.piece.now }
