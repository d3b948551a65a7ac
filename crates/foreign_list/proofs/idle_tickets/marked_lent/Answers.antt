use Rattle.std.proofs.lemmas.Nat.Bits.{bit_at_clear_same, bit_at_clear_other}
use Rattle.std.specs.Int.{w64}
use Rattle.foreign_list.proofs.idle_tickets.marked_lent.Goals as goal

pub returns-clause-here : goal.returns-clause-here
returns-clause-here c = bit_at_clear_same w64 c.args.idle c.args.ticket c.requires

pub returns-clause-others : goal.returns-clause-others
returns-clause-others c t low far = bit_at_clear_other w64 c.args.idle c.args.ticket c.requires t low far
