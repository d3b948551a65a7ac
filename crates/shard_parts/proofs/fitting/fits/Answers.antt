use Rattle.std.proofs.Common.{◌≡◌, true, true≢false, ◌∙◌, ap, sym}
use Rattle.rows.specs.Key.{Key}
use Rattle.rows.specs.CanAnswer.{can_answer}
use Rattle.rows.specs.Spelled.{spelled}
use Rattle.rows.specs.Operations.{count_of, key_of, kind_of}
use Rattle.shard_parts.proofs.FitsByBody.{fits_by_body}
use Rattle.shard_parts.proofs.fitting.fits.Goals as goal

pub returns-then-can_answer : goal.returns-then-can_answer
returns-then-can_answer c number reply sendable view =
    let operation = c.args.operation.now in
    let from : c.key-from.result.bytes.now ≡ (key_of operation).bytes = ap (λ (key : Key). key.bytes) c.key-from.ensures in
    let body = rw (from, c.count-most.ensures) at (c.body_fits.ensures reply sendable view) in
    let kind : can_answer (kind_of operation) (spelled reply).0 ≡ true =
    rw (view.spelled, ← c.kind-answered.ensures, ← c.kind-asked.ensures) (sym c.can_answer.ensures ∙ c.if-can_answer.true) in
    let fits = fits_by_body c.args.longest (kind_of operation) (key_of operation) (count_of operation) reply sendable in
    (λ is. fits.1 (kind, body.0 is), λ fit. body.1 (fits.0 fit).1)

pub returns-else-can_answer : goal.returns-else-can_answer
returns-else-can_answer c number reply sendable view =
    let operation = c.args.operation.now in
    let fits = fits_by_body c.args.longest (kind_of operation) (key_of operation) (count_of operation) reply sendable in
    let no = sym c.can_answer.ensures ∙ c.if-can_answer.false in (
      λ is. absurd (true≢false (sym is ∙ c.if-can_answer.false)),
      λ fit. absurd (true≢false (sym (rw (view.spelled, ← c.kind-answered.ensures, ← c.kind-asked.ensures) at (fits.0 fit).0) ∙ no)),
    )
