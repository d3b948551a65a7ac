-- The lines of the shards so far were added.
use Rattle.std.proofs.Common.{take}
use Rattle.std.specs.List.{flat_map, enumerate_from}
use Rattle.cache_model.specs.Report.{line, occupancy_text}
use Rattle.report_text.specs.Views.{occupancies_in}
use Rattle.report_text.proofs.Outputs.{Added}
use Rattle.report_text.proofs.lines.put_shard_lines.Given as goal

abbrev pub invariant-loop-shard : goal.invariant-loop-shard
invariant-loop-shard g l =
    Added l.fn.writer l.writer
    (flat_map (λ occupancy. line (occupancy_text occupancy)) (take l.shard (enumerate_from 0 (occupancies_in l.lines))))
