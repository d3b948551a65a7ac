use Rattle.std.proofs.Common.{◌≡◌, ◌<◌, ◌^◌, ℕ, length, ap, subst, sym, true≢false}
use Rattle.rows.specs.Apply.{Reply}
use Rattle.rows.specs.Fits.{Fits}
use Rattle.rows.specs.Operations.{numbered}
use Rattle.shard_rings.specs.Reply.{HoldsReply}
use Rattle.part_lemmas.proofs.Packets.BodyLengths.{sendable_short}
use Rattle.shard_parts.proofs.expected.expected_reply.Goals as goal

pub fits-requires-clause-sendable : goal.fits-requires-clause-sendable
fits-requires-clause-sendable c = let read = c.in_ok-found.ensures.read in (read.0, read.2.sendable, read.1)

pub fits-requires-clause-short : goal.fits-requires-clause-short
fits-requires-clause-short c =
    let read = c.in_ok-found.ensures.read in
    subst (λ b. length b < 2 ^ 32) (ap (λ s. s.1) read.1.spelled) (sendable_short read.0 read.2.sendable)

pub returns-then-not-fits-clause-none : goal.returns-then-not-fits-clause-none
returns-then-not-fits-clause-none c reply holds fit =
    let read = c.in_ok-found.ensures.read in
    let number = c.args.number in
    let same : reply ≡ read.0 = c.a_message_is_one_reply.ensures.reply c.args.bytes.now number c.in_ok-found.found reply read.0 holds read.2 in
    let is = (c.fits.ensures number read.0 read.2.sendable read.1).1 (subst (λ (r : Reply). Fits c.args.longest (numbered number c.args.operation.now) r) same fit) in
    true≢false (sym (rw c.if-not-fits.true at is))

pub returns-clause-some : goal.returns-clause-some
returns-clause-some c =
    let read = c.in_ok-found.ensures.read in (
      read.0,
      read.1,
      subst (λ (n : ℕ). HoldsReply c.args.bytes.now n read.0) c.if-found-number.false read.2,
      (c.fits.ensures c.args.number read.0 read.2.sendable read.1).0 c.if-not-fits.false,
    )
