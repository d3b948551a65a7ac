use Rattle.std.proofs.Common.{◌-◌, [], get_or, take, arith, ap, ◌∙◌}
use Rattle.report_text.specs.inside.Merged.{merged}
use Rattle.report_text.proofs.Gathered.{texts}
use Rattle.report_text.proofs.Joined.{all_first, found_at, next_first}
use Rattle.row_lemmas.proofs.Laws.{sorted_keys_are_in_order}
use Rattle.report_text.proofs.found.joined_keys.Goals as goal

pub shard_keys-keys-requires : goal.shard_keys-keys-requires
shard_keys-keys-requires c =
    let all = c.requires.replied in
    (get_or all.0 (c.loop-part.part - c.args.first) [], found_at c.args.log.now.replies c.args.first c.args.shards c.loop-part.part all.0 all.1 c.loop-part.auto.part c.loop-part-test.true)

pub loop-part-preserved : goal.loop-part-preserved
loop-part-preserved c = λ lists p.
    let log = c.args.log.now.replies in
    let first = c.args.first in
    let part = c.loop-part.part in
    let n = c.args.count in
    let keys = get_or lists (part - first) [] in
    let found = c.loop-part.found.items in
    let at = found_at log first c.args.shards part lists p c.loop-part.auto.part c.loop-part-test.true in
    next_first log first c.args.shards part n lists (texts found) (texts c.first_of_both-found.result.items) p c.loop-part.auto.part c.loop-part-test.true (c.loop-part.invariant lists p)
    (c.first_of_both-found.ensures ∙ ap (λ list. take n (merged list (texts c.as_slice-in-loop-part.result.now))) (ap texts c.as_slice.ensures.value ∙ c.shard_keys-keys.ensures keys at)
    ∙ ap (λ list. take n (merged keys (texts list))) c.as_slice-in-loop-part.ensures.value)

pub returns : goal.returns
returns c = λ lists p.
    all_first sorted_keys_are_in_order c.args.log.now.replies c.args.first c.args.shards c.loop-part.part c.args.count lists (texts c.loop-part.found.items) p
    (omega (arith, c.loop-part-test.false)) (c.loop-part.invariant lists p)
