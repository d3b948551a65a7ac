-- The keys of a reply, in its body.
use Rattle.std.proofs.Common.{◌≡◌, ℕ, List, [], sym, ap, ◌∙◌, subst, refl, arith}
use Rattle.rows.specs.declared.reply_kind.ReplyKind.{ReplyKind}
use Rattle.rows.specs.declared.reply_kind.ReplyKind.TheVariants as kinds
use Rattle.rows.specs.Apply.{Reply, Stored, Replaced, Value, Missing, Erased, Keys}
use Rattle.rows.specs.KeyBody.{AreKeys}
use Rattle.rows.specs.Spelled.{spelled}
use Rattle.report_text.specs.inside.Spells.{HasLegalKeys, Spells}

abbrev pub keys_of : Reply → List (List ℕ)
keys_of (Keys keys) = keys
keys_of reply = []

-- the body where it is one of keys
abbrev pub keys_body : ReplyKind × List ℕ → List ℕ
keys_body (kinds.Keys, body) = body
keys_body (kind, body) = []

none_are : AreKeys [] []
none_are = record { spelled = refl; lengths = λ k d below. absurd (omega (arith, below)) }

are_keys : (reply : Reply) → HasLegalKeys reply → AreKeys (keys_body (spelled reply)) (keys_of reply)
are_keys Stored short = none_are
are_keys Replaced short = none_are
are_keys (Value value) short = none_are
are_keys Missing short = none_are
are_keys Erased short = none_are
are_keys (Keys keys) short = record { spelled = refl; lengths = short }

-- a body of keys spells keys
pub keys_in : (kind : ReplyKind) (body : List ℕ) (reply : Reply) → kind ≡ kinds.Keys → Spells kind body reply → AreKeys body (keys_of reply)
keys_in kind body reply is p =
    let same : body ≡ keys_body (spelled reply) = ap (λ k. keys_body (k, body)) (sym is) ∙ ap keys_body p.spelled in
    subst (λ b. AreKeys b (keys_of reply)) (sym same) (are_keys reply p.legal)
