-- An operation is written by its fields.
use Rattle.std.proofs.Common.{sym, ap, subst, length, ◌∙◌}
use Rattle.rows.specs.Operation.{Operation}
use Rattle.rows.specs.Askable.{IsAskable}
use Rattle.shard_rings.specs.Request.{request}
use Rattle.shard_rings.proofs.Requests.{by_fields}
use Rattle.shard_rings.proofs.request.write_request.Goals as goal

pub write_fields-requires-clause-askable : goal.write_fields-requires-clause-askable
write_fields-requires-clause-askable c =
    subst IsAskable (sym (by_fields c.args.number c.args.operation.now _ _ _ _ c.kind.ensures c.key.ensures c.value.ensures c.count.ensures)) c.requires.askable

pub write_fields-requires-clause-room : goal.write_fields-requires-clause-room
write_fields-requires-clause-room c =
    c.requires.room
    ∙ ap (λ (o : Operation). length (request o))
    (sym (by_fields c.args.number c.args.operation.now _ _ _ _ c.kind.ensures c.key.ensures c.value.ensures c.count.ensures))

pub returns : goal.returns
returns c =
    c.write_fields.ensures
    ∙ ap request (by_fields c.args.number c.args.operation.now _ _ _ _ c.kind.ensures c.key.ensures c.value.ensures c.count.ensures)
