-- The journals so far are sound.
use Rattle.run_log.specs.Runs.{journals_in}
use Rattle.report_check.proofs.WalkedAll.{AreWalkedTo}
use Rattle.report_check.proofs.walking.walk_all.Given as goal

abbrev pub invariant-loop-shard : goal.invariant-loop-shard
invariant-loop-shard l = AreWalkedTo l.trace l.pages l.shard (journals_in l.journals) l.logs l.lines.items
