use Rattle.std.proofs.Common.{◌+◌, ◌-◌, take, drop}
use Rattle.report_text.proofs.Keys.{added_next, added_broken, cuts_at}
use Rattle.text_lemmas.proofs.Written.{Writes-exit}
use Rattle.report_text.proofs.lines.put_keys.Goals as goal

pub returns-in_err-put_word : goal.returns-in_err-put_word
returns-in_err-put_word g c = λ keys are.
    let body = c.args.body.now in
    let at = c.loop-span.at in
    let span = c.in-Some.span in
    let cuts = cuts_at body at span.start span.len c.loop-span.invariant.within c.in-Some.ensures.first in
    Writes-exit _ c.from_residual.ensures.1
    (added_broken _ _ _ _ (drop at body) (take (span.start + span.len - span.start) (drop span.start body)) (drop (span.start + span.len) body) keys
    (c.loop-span.invariant.added keys are) cuts c.in_err-put_word.ensures)

pub loop-span-preserved : goal.loop-span-preserved
loop-span-preserved g c =
    let body = c.args.body.now in
    let at = c.loop-span.at in
    let span = c.in-Some.span in
    let cuts = cuts_at body at span.start span.len c.loop-span.invariant.within c.in-Some.ensures.first in
    record {
      within = c.in-Some.ensures.within;
      added = λ keys are.
          added_next _ _ _ (drop at body) (take (span.start + span.len - span.start) (drop span.start body)) (drop (span.start + span.len) body) keys
          (c.loop-span.invariant.added keys are) cuts c.in_ok-put_word.ensures;
    }
