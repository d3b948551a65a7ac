-- Bodies of replies by their kinds.
use Rattle.std.proofs.Common.{◌≡◌, ℕ, ◌*◌, ◌<◌, ◌≤◌, ◌^◌, List, [], ◌∷◌, length, sym, ap, refl, arith, length-append}
use Rattle.std.specs.Prelude.{All}
use Rattle.std.specs.List.{flat_map}
use Rattle.std.proofs.lemmas.List.Elements.{All-head, All-tail}
use Rattle.rows.specs.Spelled.{IsKey, key_field, spelled}
use Rattle.rows.specs.declared.reply_kind.ReplyKind.{ReplyKind}
use Rattle.rows.specs.declared.reply_kind.ReplyKind.TheVariants as kinds
use Rattle.rows.specs.Apply.{Reply, Stored, Replaced, Value, Missing, Erased, Keys}
use Rattle.rows.specs.declared.reply.Reply.{Reply as Shown}
use Rattle.rows.specs.Shown.{body_shown, key_count, keys_shown, IsViewOf}
use Rattle.shard_rings.specs.Reply.{IsSendable}
use Rattle.shard_rings.specs.inside.Body.{HasItsBody, HasKeys, IsBody}

-- what a body of a kind is that can be sent
abbrev BodyIs : ReplyKind → ℕ → List ℕ → Type 0
BodyIs kinds.Stored count body = (body ≡ []) × (count ≡ 0)
BodyIs kinds.Replaced count body = (body ≡ []) × (count ≡ 0)
BodyIs kinds.Value count body = (length body ≤ 12000) × (count ≡ 0)
BodyIs kinds.Missing count body = (body ≡ []) × (count ≡ 0)
BodyIs kinds.Erased count body = (body ≡ []) × (count ≡ 0)
BodyIs kinds.Keys count body = HasKeys body count

sent_is : (reply : Reply) → IsSendable reply → BodyIs (spelled reply).0 (key_count reply) (spelled reply).1
sent_is Stored can = (refl, refl)
sent_is Replaced can = (refl, refl)
sent_is (Value value) can = (can, refl)
sent_is Missing can = (refl, refl)
sent_is Erased can = (refl, refl)
sent_is (Keys ks) can = record { keys = ks; counted = refl; are_keys = record { spelled = refl; lengths = can.1 } }

body_is : (kind : ReplyKind) (count : ℕ) (body : List ℕ) → IsBody kind count body → BodyIs kind count body
body_is kind count body b = rw (b.spelled, b.keys) at (sent_is b.reply b.sendable)

-- ---- a value, and keys

pub value_is : (body : List ℕ) → length body ≤ 12000 → IsBody kinds.Value 0 body
value_is body few = record { reply = Value body; sendable = few; spelled = refl; keys = refl }

pub value_of : (count : ℕ) (body : List ℕ) → IsBody kinds.Value count body → (length body ≤ 12000) × (count ≡ 0)
value_of count body b = body_is kinds.Value count body b

pub keys_are : (count : ℕ) (body : List ℕ) → count < 2 ^ 16 → HasKeys body count → IsBody kinds.Keys count body
keys_are count body few h = record {
  reply = Keys h.keys;
  sendable = (omega (arith, h.counted, few), h.are_keys.lengths);
  spelled = ap (λ (b : List ℕ). (kinds.Keys, b)) (sym h.are_keys.spelled);
  keys = h.counted;
}

pub keys_of : (count : ℕ) (body : List ℕ) → IsBody kinds.Keys count body → HasKeys body count
keys_of count body b = body_is kinds.Keys count body b

-- when some bytes are a body
pub ruleset bodies = (value_is, value_of, keys_are, keys_of)

-- ---- no kind has more than its own

pub own_body : (kind : ReplyKind) (count : ℕ) (body : List ℕ) → IsBody kind count body → HasItsBody kind count body
own_body kinds.Stored count body b = body_is kinds.Stored count body b
own_body kinds.Replaced count body b = body_is kinds.Replaced count body b
own_body kinds.Value count body b = (value_of count body b).1
own_body kinds.Missing count body b = body_is kinds.Missing count body b
own_body kinds.Erased count body b = body_is kinds.Erased count body b
own_body kinds.Keys count body b = tt

-- ---- how long they are

keys_length : (keys : List (List ℕ)) → All IsKey keys → length (flat_map key_field keys) ≤ 258 * length keys
keys_length [] are = omega arith
keys_length (key ∷ keys) are =
    let rest = keys_length keys (All-tail IsKey key keys are) in
    let few = (All-head IsKey key keys are).short in
    omega (arith, length-append (key_field key) (flat_map key_field keys), rest, few)

pub fits_count : (reply : Reply) → IsSendable reply → key_count reply < 2 ^ 16
fits_count Stored can = omega arith
fits_count Replaced can = omega arith
fits_count (Value value) can = omega arith
fits_count Missing can = omega arith
fits_count Erased can = omega arith
fits_count (Keys keys) can = can.0

pub fits_len : (reply : Reply) → IsSendable reply → length (spelled reply).1 < 2 ^ 32
fits_len Stored can = omega arith
fits_len Replaced can = omega arith
fits_len (Value value) can = omega (arith, can)
fits_len Missing can = omega arith
fits_len Erased can = omega arith
fits_len (Keys keys) can = omega (arith, keys_length keys can.1, can.0)

-- the same of a reply of the code
pub view_fits : (view : Shown) (reply : Reply) → IsSendable reply → IsViewOf view reply → (keys_shown view < 2 ^ 16) × (length (body_shown view) < 2 ^ 32)
view_fits view reply can is = (
  omega (arith, is.keys, fits_count reply can),
  omega (arith, fits_len reply can, ap (λ (r : ReplyKind × List ℕ). length r.1) is.spelled),
)
