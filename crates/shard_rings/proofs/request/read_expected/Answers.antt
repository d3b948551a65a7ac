-- What was read is the operation where it has its number and asks the same.
use Rattle.std.proofs.Common.{sym, ap, ◌∙◌, refl, true≢false}
use Rattle.rows.specs.Operations.{numbered}
use Rattle.shard_rings.specs.Request.{request}
use Rattle.shard_rings.proofs.Requests.{same_operation, tested}
use Rattle.shard_rings.proofs.request.read_expected.Goals as goal

pub returns-in_default-clause-exactly : goal.returns-in_default-clause-exactly
returns-in_default-clause-exactly c =
    let expected = numbered c.args.number c.args.operation.now in
    tested c.args.bytes.now (request expected) _ (
      λ yes. absurd (true≢false (sym yes)),
      λ same. absurd (c.in_default.ensures.none expected (record { number = c.ranges.number.fits; askable = c.requires; is = same })),
    )

pub returns-then-not-is_same_as-clause-exactly : goal.returns-then-not-is_same_as-clause-exactly
returns-then-not-is_same_as-clause-exactly c =
    let number = c.args.number in
    let expected = numbered number c.args.operation.now in
    let read = rw c.if-found-number.false at c.in-Some.ensures.read in
    tested c.args.bytes.now (request expected) _ (
      λ yes. absurd (true≢false (sym yes)),
      λ same.
          let is = same_operation c.args.bytes.now (numbered number c.in-Some.read) expected read (record { number = c.ranges.number.fits; askable = c.requires; is = same }) in
          absurd (true≢false (sym ((c.is_same_as.ensures number).1 is) ∙ c.if-not-is_same_as.true)),
    )

pub returns-clause-same : goal.returns-clause-same
returns-clause-same c = (c.is_same_as.ensures c.args.number).0 c.if-not-is_same_as.false

pub returns-clause-exactly : goal.returns-clause-exactly
returns-clause-exactly c =
    let read = rw c.if-found-number.false at c.in-Some.ensures.read in
    tested c.args.bytes.now (request (numbered c.args.number c.args.operation.now)) _ (λ yes. read.is ∙ ap request (returns-clause-same c), λ same. refl)
