use Rattle.std.proofs.lemmas.Nat.Bits.{bit_at_set_same, bit_at_set_other}
use Rattle.std.specs.Int.{w64}
use Rattle.foreign_list.proofs.idle_tickets.marked_idle.Goals as goal

pub returns-clause-here : goal.returns-clause-here
returns-clause-here c = bit_at_set_same w64 c.args.idle c.args.ticket c.requires

pub returns-clause-others : goal.returns-clause-others
returns-clause-others c t low far = bit_at_set_other w64 c.args.idle c.args.ticket c.requires t far
