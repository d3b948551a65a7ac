-- One log more, without a reply.
use Rattle.std.proofs.Common.{ℕ, ◌+◌, List, [], length, sym, ap, subst, ◌∙◌}
use Rattle.std.specs.List.{slice_index_or}
use Rattle.std.proofs.lemmas.List.{length_push}
use Rattle.trace_text.specs.Parsed.{trace_in}
use Rattle.cache_model.specs.OwnParts.{HoldsReplies, issued_parts, part_reply}
use Rattle.run_log.specs.Replies.{Replies}
use Rattle.cache_lemmas.proofs.Laws.{issued_parts_are_counted-count}
use Rattle.report_check.proofs.Begun.{log-begins, pushed-each}
use Rattle.report_check.proofs.logs.empty_logs.Goals as goal

pub loop-shard-preserved : goal.loop-shard-preserved
loop-shard-preserved c =
    let t = trace_in c.args.trace.now in let n = c.args.trace.now.shards in let l = c.loop-shard in let i = l.invariant in
    let log = c.in_ok-new.field-0 in let needs = c.needs-needs in
    let more = c.in_ok-push.ensures.items in
    let parts = needs.ensures.own_parts ∙ sym (issued_parts_are_counted-count t c.shards-shards.result l.shard)
    ∙ ap (λ (m : ℕ). length (issued_parts t m l.shard)) c.shards-shards.ensures.value in
    record {
      many = ap length more ∙ length_push l.logs.items log ∙ ap (λ (k : ℕ). k + 1) i.many;
      each = λ pages o d below.
          subst (λ (logs : List Replies). HoldsReplies t n o (part_reply t pages []) (slice_index_or logs o d).replies) (sym more)
          (pushed-each (λ (k : ℕ) (one : Replies). HoldsReplies t n k (part_reply t pages []) one.replies) l.logs.items log l.shard i.many (i.each pages)
          (log-begins t n l.shard pages needs.result.own_parts log parts (ap (λ (r : Replies). r.replies) c.in_ok-new.ensures))
          o d below);
    }
