-- The journals so far, and those that the lines behind them spell, are all.
use Rattle.std.proofs.Common.{◌≡◌, ◌-◌, ◌≤◌, drop, length}
use Rattle.std.specs.List.{range_with_len}
use Rattle.run_log.specs.Runs.{journals_in}
use Rattle.report_check.specs.Lines.{lines_of}
use Rattle.report_check.specs.Spelled.{journals_of}
use Rattle.report_check.proofs.ReadJournals.{behind}
use Rattle.report_check.proofs.journals.read_journals.Given as goal

abbrev pub invariant-loop-shard : goal.invariant-loop-shard
invariant-loop-shard l = record {
  below : l.shard ≤ l.shards;
  joined : journals_of l.count (range_with_len 0 l.shards) (lines_of l.bytes)
      ≡ behind (journals_in l.journals.items) (journals_of l.count (range_with_len l.shard (l.shards - l.shard)) (lines_of l.rest));
  lines : lines_of l.rest ≡ drop l.shard (lines_of l.bytes);
  shorter : length l.rest ≤ length l.bytes;
}
