use denote.RattleType.{RattleType}
use denote.Param.Send.{IsSend, Frees}
use Rattle.std.specs.declared.alloc.Allocator.{Ghosts}
use Rattle.raw_range.proofs.Crosses.{sole-send}
use Rattle.raw_range.specs.contracts.memory.Sole as C

pub send : (A : RattleType) (g : Ghosts A.Denot) → IsSend A → Frees g g.dealloc_token → IsSend (C.the_row A g)
send = sole-send
