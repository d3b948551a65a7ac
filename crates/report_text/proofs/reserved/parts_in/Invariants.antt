-- Each shard issues fewer than 2 ^ 32 parts.
use Rattle.std.proofs.Common.{◌*◌, ◌≤◌}
use Rattle.report_text.proofs.reserved.parts_in.Given as goal

abbrev pub invariant-loop-shard : goal.invariant-loop-shard
invariant-loop-shard l = l.parts ≤ l.shard * 4294967296
