-- A reply fits an operation where it is of a kind that the operation can have, and its body fits.
use Rattle.std.proofs.Common.{◌≡◌, ◌↔◌, ℕ, false, true, List, refl, sym, ap, arith}
use Rattle.rows.specs.declared.kind.Kind.{Kind}
use Rattle.rows.specs.declared.kind.Kind.TheVariants.{Put, Get, Erase, Scan}
use Rattle.rows.specs.Apply.{Reply, Stored, Replaced, Value, Missing, Erased, Keys}
use Rattle.rows.specs.Fits.{FitsKind}
use Rattle.rows.specs.Key.{Key}
use Rattle.rows.specs.CanAnswer.{can_answer}
use Rattle.rows.specs.KeyBody.{AreKeys}
use Rattle.rows.specs.declared.reply_kind.ReplyKind.{ReplyKind}
use Rattle.rows.specs.declared.reply_kind.ReplyKind.TheVariants as answered
use Rattle.rows.specs.Spelled.{spelled}
use Rattle.shard_rings.specs.Reply.{reply_byte, IsSendable}
use Rattle.shard_parts.specs.inside.Fitting.{BodyFits}
use Rattle.shard_parts.proofs.RisingKeys.{finds, found}

false-true : false ≡ true → ⊥
false-true e = cc

-- a reply fits where it is of such a kind, and its body fits
pub fits_by_body : (longest : ℕ) (kind : Kind) (key : Key) (count : ℕ) (reply : Reply) → IsSendable reply
    → FitsKind kind longest key count reply ↔ ((can_answer kind (spelled reply).0 ≡ true) × BodyFits longest key.bytes count reply)
fits_by_body longest Put key count Stored sendable = (λ fit. (refl, fit), λ parts. parts.1)
fits_by_body longest Put key count Replaced sendable = (λ fit. (refl, fit), λ parts. parts.1)
fits_by_body longest Put key count (Value value) sendable = (λ fit. absurd fit, λ parts. absurd (false-true parts.0))
fits_by_body longest Put key count Missing sendable = (λ fit. absurd fit, λ parts. absurd (false-true parts.0))
fits_by_body longest Put key count Erased sendable = (λ fit. absurd fit, λ parts. absurd (false-true parts.0))
fits_by_body longest Put key count (Keys keys) sendable = (λ fit. absurd fit, λ parts. absurd (false-true parts.0))
fits_by_body longest Get key count Stored sendable = (λ fit. absurd fit, λ parts. absurd (false-true parts.0))
fits_by_body longest Get key count Replaced sendable = (λ fit. absurd fit, λ parts. absurd (false-true parts.0))
fits_by_body longest Get key count (Value value) sendable = (λ fit. (refl, fit), λ parts. parts.1)
fits_by_body longest Get key count Missing sendable = (λ fit. (refl, fit), λ parts. parts.1)
fits_by_body longest Get key count Erased sendable = (λ fit. absurd fit, λ parts. absurd (false-true parts.0))
fits_by_body longest Get key count (Keys keys) sendable = (λ fit. absurd fit, λ parts. absurd (false-true parts.0))
fits_by_body longest Erase key count Stored sendable = (λ fit. absurd fit, λ parts. absurd (false-true parts.0))
fits_by_body longest Erase key count Replaced sendable = (λ fit. absurd fit, λ parts. absurd (false-true parts.0))
fits_by_body longest Erase key count (Value value) sendable = (λ fit. absurd fit, λ parts. absurd (false-true parts.0))
fits_by_body longest Erase key count Missing sendable = (λ fit. (refl, fit), λ parts. parts.1)
fits_by_body longest Erase key count Erased sendable = (λ fit. (refl, fit), λ parts. parts.1)
fits_by_body longest Erase key count (Keys keys) sendable = (λ fit. absurd fit, λ parts. absurd (false-true parts.0))
fits_by_body longest Scan key count Stored sendable = (λ fit. absurd fit, λ parts. absurd (false-true parts.0))
fits_by_body longest Scan key count Replaced sendable = (λ fit. absurd fit, λ parts. absurd (false-true parts.0))
fits_by_body longest Scan key count (Value value) sendable = (λ fit. absurd fit, λ parts. absurd (false-true parts.0))
fits_by_body longest Scan key count Missing sendable = (λ fit. absurd fit, λ parts. absurd (false-true parts.0))
fits_by_body longest Scan key count Erased sendable = (λ fit. absurd fit, λ parts. absurd (false-true parts.0))
fits_by_body longest Scan key count (Keys keys) sendable = (
  λ fit. (refl, (fit.few, finds key.bytes keys fit.rising fit.from)),
  λ parts. let is = found key.bytes keys parts.1.1 in record { few = parts.1.0; rising = is.0; from = is.1; lengths = sendable.1 },
)

-- the byte of a kind, by which kinds differ
abbrev byte_of : ReplyKind × List ℕ → ℕ
byte_of r = reply_byte r.0

-- the body of a reply of keys is its keys
pub view_keys : (bytes : List ℕ) (reply : Reply) → IsSendable reply → spelled reply ≡ (answered.Keys, bytes) → (keys : List (List ℕ)) × AreKeys bytes keys
view_keys bytes Stored sendable is = absurd (omega (arith, ap byte_of is))
view_keys bytes Replaced sendable is = absurd (omega (arith, ap byte_of is))
view_keys bytes (Value value) sendable is = absurd (omega (arith, ap byte_of is))
view_keys bytes Missing sendable is = absurd (omega (arith, ap byte_of is))
view_keys bytes Erased sendable is = absurd (omega (arith, ap byte_of is))
view_keys bytes (Keys keys) sendable is = (keys, record { spelled = ap (λ (r : ReplyKind × List ℕ). r.1) (sym is); lengths = sendable.1 })
