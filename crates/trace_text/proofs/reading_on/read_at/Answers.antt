-- The line's command lies in the trace, where the line does.
use Rattle.std.proofs.Common.{◌≡◌, ◌+◌, ◌-◌, arith}
use Rattle.trace_text.proofs.Stretches.{place_lies}
use Rattle.trace_text.proofs.reading_on.read_at.Goals as goal

pub returns-in-Ok : goal.returns-in-Ok
returns-in-Ok c =
    let text = c.args.place.now.text in
    let same : text.start + text.len - text.start ≡ text.len = omega arith in
    (rw same at c.in-Ok.ensures.found) c.args.bytes.now (place_lies c.args.bytes.now c.args.place.now c.requires.place)
