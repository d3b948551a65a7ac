use Rattle.std.proofs.Common.{◌+◌, ◌-◌, ◌<◌, length, take, drop, arith}
use Rattle.report_text.proofs.Gathered.{gathered_next, gathered_room}
use Rattle.report_text.proofs.Keys.{cuts_at}
use Rattle.report_text.proofs.found.keys_of.Goals as goal

pub push-requires : goal.push-requires
push-requires c =
    let body = c.args.body.now in
    let at = c.loop-span.at in
    let span = c.in-Some.span in
    let cuts = cuts_at body at span.start span.len c.loop-span.invariant.within c.in-Some.ensures.first in
    let all = c.requires.keys in
    let room : length c.loop-span.keys.items < 32 =
    gathered_room c.loop-span.keys.items (take (span.start + span.len - span.start) (drop span.start body)) (drop at body)
    (drop (span.start + span.len) body) all.0 32 (c.loop-span.invariant.gathered all.0 all.1) cuts all.2 in
    (omega arith, room)

pub loop-span-preserved : goal.loop-span-preserved
loop-span-preserved c =
    let body = c.args.body.now in
    let at = c.loop-span.at in
    let span = c.in-Some.span in
    let cuts = cuts_at body at span.start span.len c.loop-span.invariant.within c.in-Some.ensures.first in
    record {
      within = c.in-Some.ensures.within;
      gathered = λ keys are.
          gathered_next c.loop-span.keys.items c.push.new.self.items _ (drop at body) (drop (span.start + span.len) body) keys
          (c.loop-span.invariant.gathered keys are) cuts c.push.ensures.items;
    }
