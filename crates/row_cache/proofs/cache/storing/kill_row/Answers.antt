use Rattle.row_cache.proofs.Placed.{grouped_killed, killed_stays, left_kept}
use Rattle.row_cache.proofs.cache.storing.kill_row.Goals as goal

pub returns-clause-left : goal.returns-clause-left
returns-clause-left c = left_kept c.args.region.now c.kill.new.self c.kill.ensures.used c.kill.ensures.shape

pub returns-clause-grouped : goal.returns-clause-grouped
returns-clause-grouped c = grouped_killed c.args.region.now c.kill.new.self c.args.place c.kill.ensures.killed c.kill.ensures.shape

pub returns-clause-stay : goal.returns-clause-stay
returns-clause-stay c = killed_stays c.args.region.now c.kill.new.self c.args.place c.kill.ensures.killed
