use denote.Param.Send.{IsSend}
use Rattle.raw_range.proofs.Crosses.{held-send}
use Rattle.raw_range.specs.contracts.memory.Held as C

pub send : IsSend C.the_row
send = held-send
