-- The size is that of the fields.
use Rattle.std.proofs.Common.{◌≡◌, ◌+◌, length, ap, ◌∙◌, arith}
use Rattle.rows.specs.Key.{Key}
use Rattle.rows.specs.Operations.{key_of, value_of}
use Rattle.shard_rings.proofs.Requests.{request_length}
use Rattle.shard_rings.proofs.request.request_size.Goals as goal

pub size_of-requires-clause-key : goal.size_of-requires-clause-key
size_of-requires-clause-key c =
    let same : c.key.result.bytes.now ≡ (key_of c.args.operation.now).bytes = ap (λ (key : Key). key.bytes) c.key.ensures in
    rw same c.requires.key

pub size_of-requires-clause-value : goal.size_of-requires-clause-value
size_of-requires-clause-value c = rw c.value.ensures c.requires.value

pub returns-clause-fields : goal.returns-clause-fields
returns-clause-fields c =
    let same : c.key.result.bytes.now ≡ (key_of c.args.operation.now).bytes = ap (λ (key : Key). key.bytes) c.key.ensures in
    rw (same, c.value.ensures) at c.size_of.ensures

pub returns-clause-size : goal.returns-clause-size
returns-clause-size c number = returns-clause-fields c ∙ request_length number c.args.operation.now

pub returns-clause-most : goal.returns-clause-most
returns-clause-most c =
    let fields : c.size_of.result ≡ 16 + length (key_of c.args.operation.now).bytes + length (value_of c.args.operation.now) = returns-clause-fields c in
    omega (arith, fields, c.requires.key.short, c.requires.value)
