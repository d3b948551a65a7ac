-- A message is its header and its body.
use Rattle.std.proofs.Common.{◌≡◌, ℕ, ◌+◌, ◌<◌, ◌≤◌, ◌^◌, List, ◌++◌, length, take, drop, Option, Some, None, sym, ap, ap₂, ◌∙◌, subst, refl, arith, length-append}
use Rattle.std.specs.Prelude.{IfNone}
use Rattle.std.specs.Io.{StartsWith}
use Rattle.std.proofs.lemmas.List.{drop-take, length-take}
use Rattle.std.proofs.Math.Seq.{take-add, take-append_seam, take-take}
use Rattle.rows.specs.Apply.{Reply}
use Rattle.rows.specs.Spelled.{spelled}
use Rattle.shard_rings.specs.declared.head.Head.{Head}
use Rattle.rows.specs.declared.reply.Reply.{Reply as Shown}
use Rattle.rows.specs.Shown.{body_shown, key_count, keys_shown, kind_shown, IsViewOf}
use Rattle.shard_rings.specs.Reply.{reply_header, reply_message, HoldsReply, IsSendable}
use Rattle.shard_rings.specs.inside.Body.{IsBody}
use Rattle.shard_rings.specs.inside.Head.{IsHeadOf}
use Rattle.shard_rings.proofs.Bodies.{fits_count, fits_len}
use Rattle.shard_rings.proofs.Headers.{heads_same}

pub if_none : {A : Type 0} (x : Option A) (P : Type 0) → P → IfNone x P
if_none None P p = p
if_none (Some y) P p = tt

abbrev pub head_for : ℕ → Reply → Head
head_for number reply = record { kind = (spelled reply).0; keys = key_count reply; number = number; len = length (spelled reply).1 }

-- so many bytes are the message
holds_whole : (bytes : List ℕ) (number : ℕ) (reply : Reply) → HoldsReply bytes number reply → take (16 + length (spelled reply).1) bytes ≡ reply_message number reply
holds_whole bytes number reply h =
    let long : 16 + length (spelled reply).1 ≡ length (reply_message number reply) = omega arith in
    ap (λ (n : ℕ). take n bytes) long ∙ h.begins

pub holds_body : (bytes : List ℕ) (number : ℕ) (reply : Reply) → HoldsReply bytes number reply → take (length (spelled reply).1) (drop 16 bytes) ≡ (spelled reply).1
holds_body bytes number reply h = sym (drop-take 16 (length (spelled reply).1) bytes) ∙ ap (drop 16) (holds_whole bytes number reply h)

pub holds_head : (bytes : List ℕ) (number : ℕ) (reply : Reply) → HoldsReply bytes number reply → IsHeadOf (head_for number reply) bytes
holds_head bytes number reply h = record {
  keys = fits_count reply h.sendable;
  number = h.numbered;
  len = fits_len reply h.sendable;
  begins = sym (take-take 16 (16 + length (spelled reply).1) bytes (omega arith)) ∙ ap (take 16) (holds_whole bytes number reply h);
}

-- the header that was read is that of the reply, and the body too
pub is_read : (bytes : List ℕ) (head : Head) (number : ℕ) (reply : Reply) → IsHeadOf head bytes → HoldsReply bytes number reply
    → (number ≡ head.number) × IsBody head.kind head.keys (take head.len (drop 16 bytes)) × (16 + head.len ≤ length bytes)
is_read bytes head number reply is h =
    rw (← heads_same bytes (head_for number reply) head (holds_head bytes number reply h) is) (
      refl,
      record { reply = reply; sendable = h.sendable; spelled = rw (holds_body bytes number reply h) refl; keys = refl },
      omega (arith, ap length (holds_whole bytes number reply h), length-take (16 + length (spelled reply).1) bytes),
    )

starts_both : (bytes front behind : List ℕ) → StartsWith bytes front → take (length behind) (drop (length front) bytes) ≡ behind → StartsWith bytes (front ++ behind)
starts_both bytes front behind p q =
    ap (λ (n : ℕ). take n bytes) (length-append front behind) ∙ take-add (length front) (length behind) bytes ∙ ap₂ (λ (s t : List ℕ). s ++ t) p q

-- a header and a body that were read are the reply of the code that has them
pub is_shown : (bytes body : List ℕ) (head : Head) (view : Shown) → IsHeadOf head bytes → body ≡ take head.len (drop 16 bytes) → length body ≡ head.len
    → IsBody head.kind head.keys body → kind_shown view ≡ head.kind → body_shown view ≡ body → keys_shown view ≡ head.keys
    → (reply : Reply) × IsViewOf view reply × HoldsReply bytes head.number reply
is_shown bytes body head view is some len b kind shows keys =
    let front = reply_header head.kind head.keys head.number (length body) in
    let tail : take (length body) (drop 16 bytes) ≡ body = ap (λ (n : ℕ). take n (drop 16 bytes)) len ∙ sym some in
    let same : reply_message head.number b.reply ≡ front ++ body = rw (b.spelled, b.keys) refl in (
      b.reply,
      record { spelled = rw (kind, shows) b.spelled; keys = keys ∙ sym b.keys },
      record {
        numbered = is.number;
        sendable = b.sendable;
        begins = subst (StartsWith bytes) (sym same) (starts_both bytes front body (rw len is.begins) tail);
      },
    )

-- bytes that begin with what a reply of the code shows hold each reply of which it is a view
pub holds_written : (into rest : List ℕ) (number : ℕ) (view : Shown) (reply : Reply) → number < 2 ^ 32 → IsSendable reply → IsViewOf view reply
    → into ≡ reply_header (kind_shown view) (keys_shown view) number (length (body_shown view)) ++ body_shown view ++ rest → HoldsReply into number reply
holds_written into rest number view reply few can is bytes = record {
  numbered = few;
  sendable = can;
  begins =
      rw (bytes, is.spelled, ← is.keys)
      (take-append_seam (reply_header (kind_shown view) (keys_shown view) number (length (body_shown view)) ++ body_shown view) rest);
}
