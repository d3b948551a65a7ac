-- One line more is cut, and a stretch that has its length is read.
use Rattle.std.proofs.Common.{◌≡◌, ◌<◌, length, arith}
use Rattle.trace_text.proofs.Stretches.{cutting_done, cutting_more, cutting_settled}
use Rattle.trace_text.proofs.reading_on.read_stretches.Goals as goal

pub settle_stretch-requires-clause-cut : goal.settle_stretch-requires-clause-cut
settle_stretch-requires-clause-cut g c κs _ =
    let some : 0 < length c.loop-rest.rest.now = grind arith in
    (cutting_more c.args.version c.args.bytes.now _ _ _ _ _ c.cut_line-sound.result.0.now _ c.loop-rest.invariant (c.cut_line-sound.ensures.lines c.loop-rest.line)
    c.cut_line-sound.ensures.rest c.cut_line-sound.ensures.front (c.cut_line-sound.ensures.progress some)
    c.in_ok-add_place.ensures.added c.in_ok-add_place.ensures.few).cut

pub loop-rest-preserved : goal.loop-rest-preserved
loop-rest-preserved g c =
    let some : 0 < length c.loop-rest.rest.now = grind arith in
    let more = cutting_more c.args.version c.args.bytes.now _ _ _ _ _ c.cut_line-sound.result.0.now _ c.loop-rest.invariant
    (c.cut_line-sound.ensures.lines c.loop-rest.line)
    c.cut_line-sound.ensures.rest c.cut_line-sound.ensures.front (c.cut_line-sound.ensures.progress some)
    c.in_ok-add_place.ensures.added c.in_ok-add_place.ensures.few in
    cutting_settled c.args.version c.args.bytes.now _ _ _ _ _ _ more c.in_ok-settle_stretch.ensures

pub returns : goal.returns
returns g c =
    let none : length c.loop-rest.rest.now ≡ 0 = grind arith in
    cutting_done c.args.version c.args.bytes.now _ _ _ _ _ c.loop-rest.invariant none c.in_ok-settle.ensures.commands
