use Rattle.std.proofs.Common.{◌≡◌, length, subst, sym, ap, Some, None, arith}
use Rattle.std.specs.List.{slice_get}
use Rattle.trace_text.specs.Operation.{operation}
use Rattle.rows.specs.Bodies.{most_of_body}
use Rattle.part_lemmas.proofs.Packets.BodyLengths.{fits_short}
use Rattle.shard_parts.proofs.peer.Peer.record.Goals as goal

pub record-requires-clause-part : goal.record-requires-clause-part
record-requires-clause-part g c =
    let d = operation c.args.self.now.answers.trace.bytes c.in-Some.command.now in
    subst (λ k. slice_get c.args.log.now.replies k ≡ Some None) (sym c.part.ensures) (c.requires.«open» d (ap (λ l. slice_get l 0) c.in-Some.ensures.some))

pub record-requires-clause-fits : goal.record-requires-clause-fits
record-requires-clause-fits g c =
    let d = operation c.args.self.now.answers.trace.bytes c.in-Some.command.now in
    let read = c.in-Some-expected_reply.ensures.some in
    let room = c.requires.room d (ap (λ l. slice_get l 0) c.in-Some.ensures.some) in
    let most = fits_short _ c.args.longest _ _ read.0 read.3 in
    let same = ap (most_of_body c.args.longest) c.operation_of-operation.ensures.asked in
    let body = ap (λ s. length s.1) read.1.spelled in
    let long = ap length c.body.ensures in
    omega (arith, room, most, same, body, long)
