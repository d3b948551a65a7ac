-- What is none of the three is no request.
use Rattle.rows.specs.Operation.{Operation}
use Rattle.shard_rings.specs.Request.{IsRequest}
use Rattle.shard_rings.proofs.Messages.{if_none}
use Rattle.shard_rings.proofs.Requests.{head_of, head_for, fields_of, is_read}
use Rattle.shard_rings.proofs.request.read_request.Goals as goal

pub returns-in_err-head-clause-none : goal.returns-in_err-head-clause-none
returns-in_err-head-clause-none c =
    if_none c.from_residual.result ((operation : Operation) → IsRequest c.args.bytes.now operation → ⊥)
    (λ operation h. c.in_err-head.ensures.none (head_of operation) (head_for c.args.bytes.now operation h))

pub returns-in_err-operation-clause-none : goal.returns-in_err-operation-clause-none
returns-in_err-operation-clause-none c =
    if_none c.from_residual-in_err-operation.result ((operation : Operation) → IsRequest c.args.bytes.now operation → ⊥)
    (λ operation h. c.in_err-operation.ensures.none operation (fields_of c.args.bytes.now c.in_ok-key.key.now c.in_ok-key.value.now c.in_ok-head.head operation c.in_ok-head.ensures.some
    c.in_ok-key.ensures.fill c.in_ok-key.ensures.key h))

pub returns-clause-read : goal.returns-clause-read
returns-clause-read c =
    is_read c.args.bytes.now c.in_ok-key.key.now c.in_ok-key.value.now c.in_ok-head.head c.in_ok-operation.operation c.in_ok-head.ensures.some
    c.in_ok-key.ensures.fill c.in_ok-key.ensures.key c.in_ok-key.ensures.value (c.in_ok-operation.ensures.some c.in_ok-head.head.number)
