-- One line more.
use Rattle.std.proofs.Common.{◌<◌, length, arith}
use Rattle.trace_text.proofs.LinesRead.{reads_more}
use Rattle.trace_text.proofs.Routes.{routes_more}
use Rattle.trace_text.proofs.reading.commands_of.Goals as goal

pub loop-rest-preserved : goal.loop-rest-preserved
loop-rest-preserved c =
    let some : 0 < length c.loop-rest.rest.now = grind arith in
    let reads = c.loop-rest.invariant.reads in
    let front = c.cut_line-sound.ensures.front in
    record {
      reads = reads_more c.args.version c.args.bytes.now _ _ _ _ c.cut_line-sound.result.0.now _ reads
          (c.cut_line-sound.ensures.lines c.loop-rest.line) c.cut_line-sound.ensures.rest front (c.cut_line-sound.ensures.progress some) c.in_ok-add_line.ensures.added c.in_ok-add_line.ensures.few;
      routes = routes_more c.args.version c.args.shards c.args.bytes.now _ _ _ _ _ _ c.cut_line-sound.result.0.now reads front c.in_ok-add_line.ensures.route c.loop-rest.invariant.routes;
    }
