use denote.Param.Send.{IsSend}
use Rattle.raw_range.proofs.Crosses.{unfilled-send}
use Rattle.raw_range.specs.contracts.memory.Unfilled as C

pub send : IsSend C.the_row
send = unfilled-send
