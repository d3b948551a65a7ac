-- What a command asks has the command's fields.
use Rattle.std.proofs.Common.{ap}
use Rattle.rows.specs.Operation.{Operation}
use Rattle.rows.specs.Apply.{apply}
use Rattle.shard_rings.proofs.asking.operation_of.Goals as goal

pub with_fields-requires : goal.with_fields-requires
with_fields-requires c = rw c.value.ensures.value c.key.ensures.lies.fields

pub returns-clause-asked : goal.returns-clause-asked
returns-clause-asked c = rw (c.key.ensures.value, c.value.ensures.value) at (c.with_fields.ensures c.args.command.now.number)

pub returns-clause-askable : goal.returns-clause-askable
returns-clause-askable c =
    rw (c.with_fields.ensures c.args.command.now.number) (record {
      table = c.key.ensures.lies.table;
      key = record { some = c.key.ensures.some; short = c.key.ensures.most };
      value = c.value.ensures.most;
      fields = with_fields-requires c.before;
    })

pub returns-clause-same : goal.returns-clause-same
returns-clause-same c cache = ap (λ (o : Operation). apply o cache) (returns-clause-asked c)
