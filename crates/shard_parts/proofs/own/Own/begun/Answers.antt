use Rattle.std.proofs.Common.{arith}
use Rattle.part_lemmas.proofs.OwnParts.IssuedParts.{few-parts}
use Rattle.shard_parts.proofs.OwnNext.{begun-within}
use Rattle.cache_lemmas.proofs.Laws.{issued_parts_are_counted-count, parts_go_up_by_command-most}
use Rattle.shard_parts.proofs.own.Own.begun.Goals as goal

pub returns-clause-begun : goal.returns-clause-begun
returns-clause-begun c =
    rw (← c.self.view_is)
    (begun-within issued_parts_are_counted-count _ _ _ _ _ _ c.self.invariant.read.spelled.numbered c.self.invariant)

pub returns-clause-few : goal.returns-clause-few
returns-clause-few c =
    let all = few-parts parts_go_up_by_command-most c.self.inside.trace.now c.self.inside.trace.now.shards c.self.inside.shard c.self.inside.next.to c.self.inside.next.at
    c.self.invariant.below c.self.invariant.read.most_shards c.self.invariant.read.spelled.few in
    let stood = c.self.invariant.part in
    rw (← c.self.view_is) (omega (arith, all, stood))
