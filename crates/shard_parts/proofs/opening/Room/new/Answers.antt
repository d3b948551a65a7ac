use Rattle.std.proofs.Common.{rules}
use Rattle.shard_parts.proofs.opening.Room.new.Goals as goal

pub returns-clause-journal : goal.returns-clause-journal
returns-clause-journal g c = rw (← c.shards-shards.ensures.value) (search rules)

pub returns-clause-log : goal.returns-clause-log
returns-clause-log g c = rw (← c.shards-shards.ensures.value) (search rules)

pub returns-clause-rows : goal.returns-clause-rows
returns-clause-rows g c = rw (← c.shards-shards.ensures.value) c.needs-needs.ensures.here_puts
