use Rattle.std.proofs.Common.{◌∙◌, arith}
use Rattle.text_tests.proofs.TwoShards.{filled_more}
use Rattle.text_tests.proofs.report_text_tests.two_shards.filled_log.Goals as goal

pub loop-part-preserved : goal.loop-part-preserved
loop-part-preserved g c = record {
  filled = c.record.ensures.replies ∙ filled_more c.args.replies.now c.loop-part.part _ c.loop-part.log.replies c.loop-part-test.true c.loop-part.invariant.filled;
  room = omega (arith, c.record.ensures.room, c.loop-part.invariant.room);
}
