use Rattle.std.proofs.Common.{ℕ, arith, subst, sym, ◌∙◌, true≢false}
use Rattle.rows.specs.Apply.{Reply}
use Rattle.shard_rings.specs.Reply.{HoldsReply}
use Rattle.shard_rings.specs.inside.Body.{IsBody}
use Rattle.shard_rings.proofs.Bodies.{own_body}
use Rattle.shard_rings.proofs.Messages.{if_none, head_for, holds_head, is_read, is_shown}
use Rattle.shard_rings.proofs.replying.read_reply.Goals as goal

pub returns-in_err-head-clause-none : goal.returns-in_err-head-clause-none
returns-in_err-head-clause-none c = if_none c.from_residual.result ((number : ℕ) (reply : Reply) → HoldsReply c.args.bytes.now number reply → ⊥) (λ number reply h. c.in_err-head.ensures.none (head_for number reply) (holds_head c.args.bytes.now number reply h))

pub returns-in_err-body-clause-none : goal.returns-in_err-body-clause-none
returns-in_err-body-clause-none c = if_none c.from_residual-in_err-body.result ((number : ℕ) (reply : Reply) → HoldsReply c.args.bytes.now number reply → ⊥) (λ number reply h.
    let read = is_read c.args.bytes.now c.in_ok-head.head number reply c.in_ok-head.ensures.some h in
    omega (arith, read.2, c.in_err-body.ensures.none))

pub returns-then-not-is_body-clause-none : goal.returns-then-not-is_body-clause-none
returns-then-not-is_body-clause-none c number reply h =
    let read = is_read c.args.bytes.now c.in_ok-head.head number reply c.in_ok-head.ensures.some h in
    let body : IsBody c.in_ok-head.head.kind c.in_ok-head.head.keys c.in_ok-body.body.now = subst (IsBody c.in_ok-head.head.kind c.in_ok-head.head.keys) (sym c.in_ok-body.ensures.some) read.1 in
    true≢false (sym (c.is_body.ensures.1 body) ∙ c.if-not-is_body.true)

pub with_body-requires : goal.with_body-requires
with_body-requires c = own_body c.in_ok-head.head.kind c.in_ok-head.head.keys c.in_ok-body.body.now (c.is_body.ensures.0 c.if-not-is_body.false)

pub returns-clause-read : goal.returns-clause-read
returns-clause-read c =
    is_shown c.args.bytes.now c.in_ok-body.body.now c.in_ok-head.head c.with_body.result c.in_ok-head.ensures.some c.in_ok-body.ensures.some c.in_ok-body.ensures.length
    (c.is_body.ensures.0 c.if-not-is_body.false) c.with_body.ensures.kind c.with_body.ensures.body c.with_body.ensures.keys
