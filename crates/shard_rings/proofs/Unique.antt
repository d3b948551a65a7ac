-- Bytes hold at most one reply.
use Rattle.std.proofs.Common.{◌≡◌, ℕ, zero, suc, ◌≤◌, List, [], ◌∷◌, ◌++◌, length, take, drop, sym, ap, ap₂, ◌∙◌, refl, arith, length-append}
use Rattle.std.specs.Prelude.{All}
use Rattle.std.specs.List.{flat_map}
use Rattle.std.proofs.lemmas.List.Elements.{All-head, All-tail}
use Rattle.std.proofs.Math.Seq.{take-append_seam, drop-append_seam}
use Rattle.byteorder.specs.Numbers.{little_number-reads_back}
use Rattle.rows.specs.Spelled.{IsKey, key_field, spelled}
use Rattle.rows.specs.declared.reply_kind.ReplyKind.{ReplyKind}
use Rattle.rows.specs.declared.reply_kind.ReplyKind.TheVariants as kinds
use Rattle.rows.specs.Apply.{Reply, Stored, Replaced, Value, Missing, Erased, Keys}
use Rattle.shard_rings.specs.Reply.{HoldsReply, IsSendable}
use Rattle.shard_rings.specs.declared.head.Head.{Head}
use Rattle.shard_rings.proofs.FirstKeys.{len_at}
use Rattle.shard_rings.proofs.Headers.{heads_same}
use Rattle.shard_rings.proofs.Messages.{head_for, holds_head, holds_body}

-- at most n keys, read from a body
abbrev keys_from : ℕ → List ℕ → List (List ℕ)
keys_from zero body = []
keys_from (suc n) [] = []
keys_from (suc n) (low ∷ behind) =
    take (len_at (low ∷ behind)) (drop 1 behind) ∷ keys_from n (drop (len_at (low ∷ behind)) (drop 1 behind))

keys_again : (n : ℕ) (keys : List (List ℕ)) → All IsKey keys → length (flat_map key_field keys) ≤ n → keys_from n (flat_map key_field keys) ≡ keys
keys_again zero [] are room = refl
keys_again (suc n) [] are room = refl
keys_again zero (key ∷ keys) are room = absurd (omega (arith, room))
keys_again (suc n) (key ∷ keys) are room =
    let others = flat_map key_field keys in
    let long : len_at (key_field key ++ others) ≡ length key = little_number-reads_back 2 (length key) (key ++ others) (omega (arith, (All-head IsKey key keys are).short)) in
    let more = keys_again n keys (All-tail IsKey key keys are) (omega (arith, room, length-append (key_field key) others)) in
    ap₂ (λ k (ks : List (List ℕ)). k ∷ ks)
    (ap (λ (m : ℕ). take m (key ++ others)) long ∙ take-append_seam key others)
    (ap (λ (m : ℕ). keys_from n (drop m (key ++ others))) long ∙ ap (keys_from n) (drop-append_seam key others) ∙ more)

-- the reply that is spelled so
abbrev reply_from : ReplyKind → List ℕ → Reply
reply_from kinds.Stored body = Stored
reply_from kinds.Replaced body = Replaced
reply_from kinds.Value body = Value body
reply_from kinds.Missing body = Missing
reply_from kinds.Erased body = Erased
reply_from kinds.Keys body = Keys (keys_from (length body) body)

reply_again : (reply : Reply) → IsSendable reply → reply_from (spelled reply).0 (spelled reply).1 ≡ reply
reply_again Stored can = refl
reply_again Replaced can = refl
reply_again (Value value) can = refl
reply_again Missing can = refl
reply_again Erased can = refl
reply_again (Keys keys) can = ap Keys (keys_again (length (flat_map key_field keys)) keys can.1 (omega arith))

-- the reply that stands behind a header
reply_behind : List ℕ → Head → Reply
reply_behind bytes h = reply_from h.kind (take h.len (drop 16 bytes))

behind_again : (bytes : List ℕ) (number : ℕ) (reply : Reply) → HoldsReply bytes number reply → reply_behind bytes (head_for number reply) ≡ reply
unfolding reply_behind
behind_again bytes number reply h = rw (holds_body bytes number reply h) (reply_again reply h.sendable)

pub same_reply : (bytes : List ℕ) (i j : ℕ) (reply other : Reply) → HoldsReply bytes i reply → HoldsReply bytes j other → reply ≡ other
same_reply bytes i j reply other p q =
    let heads = heads_same bytes (head_for i reply) (head_for j other) (holds_head bytes i reply p) (holds_head bytes j other q) in
    sym (behind_again bytes i reply p) ∙ ap (reply_behind bytes) heads ∙ behind_again bytes j other q
