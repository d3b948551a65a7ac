use Rattle.std.proofs.Common.{◌≡◌, ◌+◌, true, false, ◌%◌, refl, sym, ap, subst, slice_get, ◌∙◌, arith}
use Rattle.trace_text.specs.Parsed.{trace_in}
use Rattle.part_lemmas.specs.Rest.{shards_before}
use Rattle.shard_parts.proofs.OwnNext.{part-next}
use Rattle.part_lemmas.proofs.Cursors.Places.{no_operation, round}
use Rattle.part_lemmas.proofs.OwnParts.PartsBefore.{GoRound, next-of-it}
use Rattle.cache_lemmas.proofs.Laws.{parts_go_up_by_command-next}
use Rattle.shard_parts.proofs.own.part_after.Goals as goal
use Rattle.shard_parts.proofs.own.part_after.Goals.{else-is_scan-via-then-is_scan+else-part-shards, else-is_scan-via-else-is_scan}

pub returns-clause-origin : goal.returns-clause-origin
returns-clause-origin c = ap (λ at. at % c.args.trace.now.shards) (c.first_part.ensures.at ∙ ap (λ n. c.args.part.at + n) c.shards-shards.ensures.value)
    ∙ round _ _ _ c.requires.origin

pub returns-clause-next : goal.returns-clause-next
returns-clause-next c =
    let scan = sym (c.is_scan.ensures no_operation) in
    let read = c.shards-shards.ensures.consistent in
    let turns : GoRound c.args.trace.now = λ o at d here within. next-of-it parts_go_up_by_command-next c.args.trace.now c.args.trace.now.shards o at d read.spelled.numbered read.some_shards here within in
    part-next c.args.trace.now c.args.trace.now.shards c.args.shard c.args.part.at c.args.part.to c.first_part.result.to c.first_part.result.at
    turns refl c.requires.origin c.requires.within c.requires.to
    (elim c.else-is_scan.branch [
      | else-is_scan-via-then-is_scan+else-part-shards w ↦ λ is. omega (arith, w.if-part-shards.false, c.shards-shards.ensures.value)
      | else-is_scan-via-else-is_scan w ↦ λ is. absurd (let clash : false ≡ true = sym w.if-is_scan.false ∙ sym scan ∙ is in cc)
    ])
    (c.first_part.ensures.at ∙ ap (λ n. c.args.part.at + n) c.shards-shards.ensures.value)
    (subst (λ n. shards_before c.first_part.result.to (slice_get (trace_in c.args.trace.now).operations (c.args.part.at + n)) ≡ 0) c.shards-shards.ensures.value c.first_part.ensures.first)
