use Rattle.number_set.proofs.WordBits.{bit_at_top, bit_at_above}
use Rattle.number_set.proofs.bits.highest.Goals as goal

pub returns-clause-here : goal.returns-clause-here
returns-clause-here c = bit_at_top c.args.word c.ilog2.result c.ilog2.ensures.power_le c.ilog2.ensures.next_power_gt

pub returns-clause-above : goal.returns-clause-above
returns-clause-above c k over = bit_at_above c.args.word c.ilog2.result k c.ilog2.ensures.next_power_gt over
