-- So many replies were recorded, and there is room for the other bodies.
use Rattle.std.proofs.Common.{◌≡◌, ◌+◌, ◌*◌, ◌≤◌}
use Rattle.text_tests.proofs.TwoShards.{filled}
use Rattle.text_tests.proofs.report_text_tests.two_shards.filled_log.Given as goal

abbrev pub invariant-loop-part : goal.invariant-loop-part
invariant-loop-part g l = record {
  filled : l.log.replies ≡ filled l.replies l.part;
  room : 1000 ≤ l.log.room + 100 * l.part;
}
