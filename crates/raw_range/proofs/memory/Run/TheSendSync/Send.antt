use denote.Param.Send.{IsSend}
use Rattle.raw_range.proofs.Crosses.{run-send}
use Rattle.raw_range.specs.contracts.memory.Run as C

pub send : IsSend C.the_row
send = run-send
