-- What a peer asks next, and what becomes of a block that came.
use Rattle.std.proofs.Common.{◌≡◌, ℕ, true, false, List, ◌∷◌, drop, slice_get, refl, sym, ap, subst, ◌∙◌, Option, Some, None, Decides}
use Rattle.std.specs.List.{Contains}
use Rattle.std.specs.Option.{option_map}
use Rattle.std.specs.Str.{bytes_eq}
use Rattle.std.proofs.lemmas.Bool.Decides.{same_from_decides}
use Rattle.std.proofs.lemmas.Slice.Eq.{bytes_eq-Decides}
use Rattle.rows.specs.Operation.{Operation}
use Rattle.trace_text.specs.Parsed.{trace_in}
use Rattle.rows.specs.Apply.{Reply, apply}
use Rattle.rows.specs.Row.{Row}
use Rattle.foreign_list.specs.Blocks.{Block}
use Rattle.run_log.specs.JournalState.{JournalState}
use Rattle.shard_memory.specs.declared.share.Share.TheVariants as shares
use Rattle.shard_rings.specs.Reply.{HoldsReply}
use Rattle.shard_rings.specs.Request.{request}
use Rattle.shard_rings.specs.declared.link.Packet.{Packet}
use Rattle.shard_rings.specs.declared.link.Packet.TheVariants.{Block as InBlock}
use Rattle.shard_store.specs.Lending.{LendsBlock}
use Rattle.shard_store.specs.Stores.{StoreState}
use Rattle.shard_store.specs.Works.{floor_of}
use Rattle.shard_node.specs.inside.Did.{DoesAbove}
use Rattle.shard_parts.specs.declared.stray_packet.Tried.{Tried}
use Rattle.shard_parts.specs.declared.stray_packet.Tried.TheVariants.{Nothing, Expected, Other}
use Rattle.shard_parts.specs.declared.peer.Peer.{Peer}
use Rattle.shard_node.specs.Due.{is_same, number_in, number_said, said}
use Rattle.shard_parts.specs.Receives.{next_ask}
use Rattle.shard_node.specs.inside.Serves.{EndsExpected, EndsRequest, IsDoneFor, due_next}
use Rattle.shard_node.proofs.Requests.Askable.{does_operation, same_number}

-- bytes are compared either way
bytes-same : (a b : List ℕ) → bytes_eq a b ≡ bytes_eq b a
bytes-same a b =
    let ab : Decides (bytes_eq a b) (a ≡ b) = bytes_eq-Decides a b in
    let ba : Decides (bytes_eq b a) (b ≡ a) = bytes_eq-Decides b a in
    same_from_decides (bytes_eq a b) (bytes_eq b a) ab (λ e. sym (ba.0 e), λ e. ba.1 (sym e))

module _ {L : Type 0} where
  pub next-is : (old : Peer L) (operation : Operation) → old.asks.left ≡ operation ∷ drop 1 old.asks.left → next_ask old ≡ Some operation
  next-is old operation is = ap (λ os. slice_get os 0) is

  -- whether bytes are the request that is due
  pub same-due : (old : Peer L) (operation asked : Operation) (bytes : List ℕ) → old.asks.left ≡ operation ∷ drop 1 old.asks.left → asked ≡ operation
      → is_same (due_next old) (Some bytes) ≡ bytes_eq bytes (request asked)
  same-due old operation asked bytes is line =
      ap (λ o. is_same (option_map request o) (Some bytes)) (next-is old operation is) ∙ bytes-same (request operation) bytes ∙ ap (λ o. bytes_eq bytes (request o)) (sym line)

  -- another packet
  pub set-stray : (packet : Packet) (old : Peer L) (store : StoreState) (journal : JournalState) (result : Tried) (found : ℕ)
      → result ≡ Other (record { peer = old.shard; expected = number_said (due_next old); found = found }) → found ≡ number_in packet
      → is_same (due_next old) (said packet) ≡ false → EndsRequest packet old old store store journal journal result
  set-stray packet old store journal result found is number other =
      subst (EndsRequest packet old old store store journal journal) (sym is) (record {
        other = other;
        asks = refl;
        heard = refl;
        reply = refl;
        same_store = refl;
        same_journal = refl;
        stray = ap (λ n. record { peer = old.shard; expected = number_said (due_next old); found = n }) number;
      })

  -- What was asked is done as the command is: it leaves the commands that the peer will ask, and its reply waits in this block.
  pub record AnswersAsk (old new : Peer L) (operation asked : Operation) (block : Block) (store store' : StoreState) (journal journal' : JournalState) : Type 0 where
    pub of_trace : Contains (trace_in old.asks.trace).operations operation
    pub line : asked ≡ operation
    pub same : (cache : List Row) → apply asked cache ≡ apply operation cache
    pub replied : (answer : Reply) × HoldsReply block.piece.bytes asked.number answer
        × DoesAbove (floor_of store.pages store.lent store.regions) asked answer store store' journal journal'
    pub lends : LendsBlock shares.Reply store store' block
    pub reply : new.reply ≡ Some block
    pub left : new.asks.left ≡ drop 1 old.asks.left
    pub trace : new.asks.trace ≡ old.asks.trace
    pub origin : new.asks.origin ≡ old.asks.origin
    pub shard : new.asks.shard ≡ old.asks.shard
    pub heard : new.has_heard_bye ≡ old.has_heard_bye

  is-done-for : (old new : Peer L) (operation asked : Operation) (block : Block) (store store' : StoreState) (journal journal' : JournalState)
      → AnswersAsk old new operation asked block store store' journal journal' → IsDoneFor operation old new store store' journal journal'
  is-done-for old new operation asked block store store' journal journal' a = record {
    of_trace = a.of_trace;
    reply = block;
    answer = a.replied.0;
    waits = a.reply;
    holds = subst (λ n. HoldsReply block.piece.bytes n a.replied.0) (same_number asked operation a.line) a.replied.1;
    does = does_operation asked operation a.line a.same (floor_of store.pages store.lent store.regions) a.replied.0 store store' journal journal' a.replied.2;
    lends = a.lends;
    left = a.left;
    trace = a.trace;
    origin = a.origin;
    shard = a.shard;
    heard = a.heard;
  }

  -- the request came that was due
  pub answered : (old new : Peer L) (came : Block) (operation asked : Operation) (block : Block) (store store' : StoreState) (journal journal' : JournalState)
      → old.asks.left ≡ operation ∷ drop 1 old.asks.left → bytes_eq came.piece.bytes (request asked) ≡ true
      → AnswersAsk old new operation asked block store store' journal journal'
      → EndsRequest (InBlock came) old new store store' journal journal' Expected
  answered old new came operation asked block store store' journal journal' is bytes a = (
    same-due old operation asked came.piece.bytes is a.line ∙ bytes,
    subst (λ o. EndsExpected o old new store store' journal journal') (sym (next-is old operation is))
        (is-done-for old new operation asked block store store' journal journal' a),
  )

  -- what becomes of the packet does not rest on the link
  pub relinked : (packet : Packet) (old new : Peer L) (link : L) (store store' : StoreState) (journal journal' : JournalState) (result : Tried)
      → EndsRequest packet (record old { link = link }) new store store' journal journal' result → EndsRequest packet old new store store' journal journal' result
  relinked packet old new link store store' journal journal' Nothing ends = ends
  relinked packet old new link store store' journal journal' Expected ends = (ends.0, go (next_ask old) ends.1)
    where
      go : (next : Option Operation) → EndsExpected next (record old { link = link }) new store store' journal journal' → EndsExpected next old new store store' journal journal'
      go (Some operation) done = record {
        of_trace = done.of_trace;
        reply = done.reply;
        answer = done.answer;
        waits = done.waits;
        holds = done.holds;
        does = done.does;
        lends = done.lends;
        left = done.left;
        trace = done.trace;
        origin = done.origin;
        shard = done.shard;
        heard = done.heard;
      }
      go None hears = record { heard = hears.heard; asks = hears.asks; reply = hears.reply; same_store = hears.same_store; same_journal = hears.same_journal }
  relinked packet old new link store store' journal journal' (Other stray) none = record {
    other = none.other;
    asks = none.asks;
    heard = none.heard;
    reply = none.reply;
    same_store = none.same_store;
    same_journal = none.same_journal;
    stray = none.stray;
  }
