use Rattle.std.proofs.Common.{length, refl, ap, sym, ◌∙◌}
use Rattle.shard_node_tests.proofs.alone.play.Goals as goal

pub finish-requires : goal.finish-requires
finish-requires g c κs =
    let x = c.loop.invariant in
    let same = c.turn.ensures.same in (
      (refl, tt),
      (
        (c.turn.ensures.done x.0).0 c.in-Done.is,
        (x.2.of_trace ∙ sym same.trace, (x.2.of_shards ∙ sym same.shards, (x.2.of_pages ∙ sym same.pages, ap length x.3 ∙ sym x.1 ∙ sym same.shard))),
      ),
    )

pub loop-preserved : goal.loop-preserved
loop-preserved g c =
    let x = c.loop.invariant in
    let same = c.turn.ensures.same in (
      c.turn.ensures.standing x.0,
      same.shard ∙ x.1,
      record { of_trace = x.2.of_trace ∙ sym same.trace; of_shards = x.2.of_shards ∙ sym same.shards; of_pages = x.2.of_pages ∙ sym same.pages },
      x.3,
    )
