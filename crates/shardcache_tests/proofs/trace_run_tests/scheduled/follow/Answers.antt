use Rattle.std.proofs.Common.{◌<◌, get_or, refl, subst, sym}
use Rattle.shardcache_tests.proofs.Scheduled.{below-two, in-turn, still-standing}
use Rattle.shardcache_tests.proofs.trace_run_tests.scheduled.follow.Goals as goal

pub drive_schedule-requires : goal.drive_schedule-requires
drive_schedule-requires g c κs = ((refl, tt), λ k d below. subst (λ n. get_or (in-turn 20) k d < n) (sym c.requires.two) (below-two 20 k d below))

pub are_done-requires : goal.are_done-requires
are_done-requires g c = still-standing c.args.nodes.now c.drive_schedule.new.nodes c.drive_schedule.auto.nodes c.drive_schedule.ensures.standing c.requires.standing

pub returns-clause-standing : goal.returns-clause-standing
returns-clause-standing g c = still-standing c.args.nodes.now c.drive_schedule.new.nodes c.drive_schedule.auto.nodes c.drive_schedule.ensures.standing c.requires.standing
