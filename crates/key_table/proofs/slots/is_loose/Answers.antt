use Rattle.key_table.proofs.Gaps.{loose_between, tight_between}
use Rattle.key_table.proofs.slots.is_loose.Goals as goal

pub returns-clause-loose : goal.returns-clause-loose
returns-clause-loose c is = loose_between c.args.slots.now.items c.args.home c.args.at c.run_start-low.result c.requires.probed.1.gaps c.requires.first c.run_start-low.ensures (c.has_gap.ensures.gap is)

pub returns-clause-tight : goal.returns-clause-tight
returns-clause-tight c is mask probed = tight_between mask c.args.slots.now.items c.args.home c.args.at c.run_start-low.result probed c.requires.room c.requires.first c.run_start-low.ensures (c.has_gap.ensures.none is)
