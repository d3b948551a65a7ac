use Rattle.std.proofs.Common.{◌≡◌, ◌==◌, ℕ, count_by, take, length, ap, ◌∙◌, arith}
use Rattle.trace_text.specs.Parsed.{trace_in}
use Rattle.cache_model.specs.OwnParts.{issued_parts}
use Rattle.part_lemmas.specs.Due.{operations_for}
use Rattle.part_lemmas.specs.Rest.{RestState, all_of, log_of}
use Rattle.part_lemmas.proofs.OwnParts.Counts.{longer_front, some_dropped}
use Rattle.shard_parts.proofs.rest.Rest.pass.Goals as goal

pub returns-clause-rises : goal.returns-clause-rises
returns-clause-rises c some =
    let old : RestState = c.args.self.now in
    let new : RestState = c.pass_on.new.self in
    let log : log_of new ≡ log_of old =
    ap (λ t. issued_parts (trace_in t) t.shards new.origin) c.pass_on.ensures.trace ∙ ap (λ o. issued_parts (trace_in old.trace) old.trace.shards o) c.pass_on.ensures.origin in
    let all : all_of new ≡ all_of old =
    ap (λ t. operations_for (trace_in t) t.shards new.origin new.shard) c.pass_on.ensures.trace
    ∙ (ap (λ o. operations_for (trace_in old.trace) old.trace.shards o new.shard) c.pass_on.ensures.origin ∙ ap (operations_for (trace_in old.trace) old.trace.shards old.origin) c.pass_on.ensures.shard) in
    let count : count_by (λ (part : ℕ × ℕ). part.1 == new.shard) (take new.part (log_of new)) ≡ count_by (λ (part : ℕ × ℕ). part.1 == old.shard) (take new.part (log_of old)) =
    ap (λ s. count_by (λ (part : ℕ × ℕ). part.1 == s) (take new.part (log_of new))) c.pass_on.ensures.shard ∙ ap (λ l. count_by (λ (part : ℕ × ℕ). part.1 == old.shard) (take new.part l)) log in
    let before = c.pass_on.ensures.stood in
    let after = c.facts.ensures.before in
    let fewer = ap length c.pass_on.ensures.left in
    let one = some_dropped old.left some in
    let so_many = ap length all in
    longer_front (λ (part : ℕ × ℕ). part.1 == old.shard) (log_of old) old.part new.part (omega (arith, count, before, after, fewer, one, so_many))
