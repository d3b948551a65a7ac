use Rattle.std.proofs.Common.{◌≡◌, length, slice_index_or, slice_set, sym, subst, ◌∙◌}
use Rattle.shard_run.specs.inside.Parting.{EndsWithPairOf, Parts}
use Rattle.shard_run.proofs.Partings.{IsParted, next_pair, one_parted}
use Rattle.shard_run.proofs.closing.close_with.Goals as goal

pub close_last-requires : goal.close_last-requires
close_last-requires c =
    let fewer = c.pop.new.self in
    let place : c.len.result ≡ length fewer.items = c.len.ensures ∙ fewer.ok.0 in
    subst (λ i. EndsWithPairOf (slice_index_or c.loop-end.links i c.index-links-len.result).items c.in-Some.end) (sym place)
    (next_pair c.args.links.now c.loop-end.links c.args.own.items c.loop-end.own.items fewer.items c.index-links-len.result c.in-Some.end c.loop-end.invariant c.requires.pairs
    c.requires.one_each c.in-Some.ensures.items).1

pub loop-end-preserved : goal.loop-end-preserved
loop-end-preserved c =
    let fewer = c.pop.new.self in
    let place : c.len.result ≡ length fewer.items = c.len.ensures ∙ fewer.ok.0 in
    let parts = subst (λ i. Parts (slice_index_or c.loop-end.links i c.index-links-len.result).items c.close_last.new.shard.items c.in-Some.end) place c.close_last.ensures in
    subst (λ i. IsParted c.args.links.now (slice_set c.loop-end.links i c.close_last.new.shard) c.args.own.items fewer.items) (sym place)
    (one_parted c.args.links.now c.loop-end.links c.args.own.items c.loop-end.own.items fewer.items c.close_last.new.shard c.index-links-len.result c.in-Some.end
    c.loop-end.invariant c.requires.one_each c.in-Some.ensures.items parts)
