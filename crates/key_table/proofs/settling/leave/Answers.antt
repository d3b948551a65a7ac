use Rattle.std.proofs.Common.{arith}
use Rattle.key_table.proofs.Both.{taken_times}
use Rattle.key_table.proofs.settling.leave.Goals as goal

pub returns-clause-all : goal.returns-clause-all
returns-clause-all c n = let t = taken_times c.args.standing.found.row n c.args.order.now.rows c.remove_at.new.self.rows c.remove_at.ensures.rows in omega (arith, t)

pub returns-clause-ordered : goal.returns-clause-ordered
returns-clause-ordered c = c.remove_at.ensures.ordered

pub returns-clause-fewer : goal.returns-clause-fewer
returns-clause-fewer c n = let t = taken_times c.args.standing.found.row n c.args.order.now.rows c.remove_at.new.self.rows c.remove_at.ensures.rows in omega (arith, t)
