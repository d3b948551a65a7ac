use denote.Param.Send.{IsSend}
use Rattle.raw_range.proofs.Crosses.{unallocated-send}
use Rattle.raw_range.specs.contracts.memory.Unallocated as C

pub send : IsSend C.the_row
send = unallocated-send
