use Rattle.part_lemmas.proofs.OwnParts.IssuedParts.{few-parts}
use Rattle.part_lemmas.proofs.Cursors.Rests.{count-left, few-left, in-log, last-left}
use Rattle.cache_lemmas.proofs.Laws.{issued_parts_are_counted-count, issued_parts_are_counted-peer, parts_go_up_by_command-most}
use Rattle.shard_parts.proofs.rest.Rest.facts.Goals as goal

pub returns-clause-in_log : goal.returns-clause-in_log
returns-clause-in_log c = rw (← c.self.view_is) (in-log issued_parts_are_counted-count _ _ _ _ _ _ c.self.invariant)

pub returns-clause-before : goal.returns-clause-before
returns-clause-before c = rw (← c.self.view_is) (count-left issued_parts_are_counted-count issued_parts_are_counted-peer _ _ _ _ _ _ c.self.invariant)

pub returns-clause-rest : goal.returns-clause-rest
returns-clause-rest c = rw (← c.self.view_is) (last-left _ _ _ _ _ _ c.self.invariant)

pub returns-clause-few : goal.returns-clause-few
returns-clause-few c =
    rw (← c.self.view_is) (few-left c.self.inside.trace.now c.self.inside.trace.now.shards c.self.inside.origin c.self.inside.shard c.self.inside.next.at c.self.invariant.read.spelled.few)

pub returns-clause-parts : goal.returns-clause-parts
returns-clause-parts c =
    rw (← c.self.view_is)
    (few-parts parts_go_up_by_command-most c.self.inside.trace.now c.self.inside.trace.now.shards c.self.inside.origin c.self.inside.shard c.self.inside.next.at c.self.invariant.shard c.self.invariant.read.most_shards c.self.invariant.read.spelled.few)
