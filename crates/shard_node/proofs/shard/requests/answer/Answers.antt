-- The request of a peer is done where it is the one that is due.
use Rattle.std.proofs.Common.{◌≡◌, ℕ, List, ◌∷◌, drop, inr, refl, sym, ap, subst, ◌∙◌, true, false}
use Rattle.std.specs.List.{Contains}
use Rattle.std.specs.Str.{bytes_eq}
use Rattle.rows.specs.Operation.{Operation, is_put}
use Rattle.trace_text.specs.Operation.{operation}
use Rattle.trace_text.specs.Parsed.{Parsed, trace_in}
use Rattle.rows.specs.Apply.{apply}
use Rattle.rows.specs.Askable.{IsAskable}
use Rattle.rows.specs.Operations.{numbered}
use Rattle.shard_rings.specs.Request.{request}
use Rattle.shard_rings.specs.declared.link.Packet.TheVariants.{Block as InBlock}
use Rattle.shard_node.proofs.Requests.NextAsk.{answered, next-is, same-due, set-stray}
use Rattle.shard_node.proofs.OwnParts.OwnLog.{operation-there}
use Rattle.shard_node.proofs.shard.requests.answer.Goals as goal

pub returns-in_default-read_expected-clause-ends : goal.returns-in_default-read_expected-clause-ends
returns-in_default-read_expected-clause-ends g c =
    let old = c.args.peer.now in
    let command = c.in-Some.command.now in
    let expected = numbered command.number c.operation_of-expected.result in
    let is : old.asks.left ≡ operation c.args.trace.now.bytes command ∷ drop 1 old.asks.left =
    c.in-Some.ensures.some ∙ ap (λ (t : Parsed). operation t.bytes command ∷ drop 1 old.asks.left) c.requires.trace in
    let other : bytes_eq c.args.block.now.piece.bytes (request expected) ≡ false =
    ap (λ (t : List ℕ). bytes_eq t (request expected)) (sym c.bytes-bytes.ensures) ∙ sym c.in_default-read_expected.ensures.exactly in
    set-stray (InBlock c.args.block.now) old c.args.store.now c.args.journal.now _ _ c.unexpected_request-in_default-read_expected.ensures (cc)
    (same-due old _ expected c.args.block.now.piece.bytes is (c.operation_of-expected.ensures.asked) ∙ other)

pub reply-requires-clause-askable : goal.reply-requires-clause-askable
reply-requires-clause-askable g c = subst IsAskable (sym c.in-Some-read_expected.ensures.same) c.operation_of-expected.ensures.askable

pub reply-requires-clause-within : goal.reply-requires-clause-within
reply-requires-clause-within g c = c.requires.within

pub reply-requires-clause-room : goal.reply-requires-clause-room
reply-requires-clause-room g c = λ put.
    let old = c.args.peer.now in
    let command = c.in-Some.command.now in
    let is : old.asks.left ≡ operation c.args.trace.now.bytes command ∷ drop 1 old.asks.left =
    c.in-Some.ensures.some ∙ ap (λ (t : Parsed). operation t.bytes command ∷ drop 1 old.asks.left) c.requires.trace in
    let line = c.in-Some-read_expected.ensures.same ∙ c.operation_of-expected.ensures.asked in
    inr (c.requires.room (operation c.args.trace.now.bytes command) (next-is old _ is) (ap is_put (ap (λ (o : Operation). o.kind) (sym line) ∙ put)))

pub reply-requires-clause-spare : goal.reply-requires-clause-spare
reply-requires-clause-spare g c =
    let old = c.args.peer.now in
    let command = c.in-Some.command.now in
    let is : old.asks.left ≡ operation c.args.trace.now.bytes command ∷ drop 1 old.asks.left =
    c.in-Some.ensures.some ∙ ap (λ (t : Parsed). operation t.bytes command ∷ drop 1 old.asks.left) c.requires.trace in
    c.requires.spare (operation c.args.trace.now.bytes command) (next-is old _ is)

pub returns-clause-ends : goal.returns-clause-ends
returns-clause-ends g c =
    let old = c.args.peer.now in
    let command = c.in-Some.command.now in
    let expected = numbered command.number c.operation_of-expected.result in
    let read = numbered command.number c.in-Some-read_expected.operation in
    let is : old.asks.left ≡ operation c.args.trace.now.bytes command ∷ drop 1 old.asks.left =
    c.in-Some.ensures.some ∙ ap (λ (t : Parsed). operation t.bytes command ∷ drop 1 old.asks.left) c.requires.trace in
    let same : read ≡ expected = c.in-Some-read_expected.ensures.same in
    let there : Contains (trace_in old.asks.trace).operations (operation c.args.trace.now.bytes command) =
    subst (λ (t : Parsed). Contains (trace_in old.asks.trace).operations (operation t.bytes command)) c.requires.trace (operation-there old.asks.trace command c.in-Some.ensures.of_trace) in
    let yes : bytes_eq c.args.block.now.piece.bytes (request expected) ≡ true =
    ap (λ (t : List ℕ). bytes_eq t (request expected)) (sym c.bytes-bytes.ensures) ∙ sym c.in-Some-read_expected.ensures.exactly in
    answered old _ c.args.block.now (operation c.args.trace.now.bytes command) read c.reply.result c.args.store.now c.reply.new.store c.args.journal.now c.reply.new.journal is
    (ap (λ (o : Operation). bytes_eq c.args.block.now.piece.bytes (request o)) same ∙ yes) (record {
      of_trace = there;
      line = same ∙ c.operation_of-expected.ensures.asked;
      same = λ cache. ap (λ (o : Operation). apply o cache) same ∙ c.operation_of-expected.ensures.same cache;
      replied = c.reply.ensures.replied;
      lends = c.reply.ensures.lends;
      reply = refl;
      left = c.pass.ensures.left;
      trace = c.pass.ensures.trace;
      origin = c.pass.ensures.origin;
      shard = c.pass.ensures.shard;
      heard = refl;
    })
